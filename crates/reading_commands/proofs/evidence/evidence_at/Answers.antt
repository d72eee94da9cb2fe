use Rattle.std.proofs.Common.{inr, subst}
use Rattle.std.specs.Io.Buffered.{reader_remaining}
use Rattle.memory_database.specs.MemoryStore.{over_memory}
use Rattle.journal_reports.specs.Evidence.{IsEvidence, IsNoEvidence}
use Rattle.review_office.specs.Meant.{meaning_over}
use Rattle.reading_commands.proofs.evidence.evidence_at.Goals as goal

pub returns-in-Ok-evidence_over-clause-evidence : goal.returns-in-Ok-evidence_over-clause-evidence
returns-in-Ok-evidence_over-clause-evidence g c =
    let bytes = reader_remaining (λ noted. g.F.File.Read.remaining noted.file) c.in_ok-text.text in
    let left = c.in-Ok-evidence_over.ensures.evidence.0 in
    record {
      bytes = bytes;
      journal = c.in_ok-text.ensures.text;
      left = left;
      evidence = subst (λ p. IsEvidence bytes p c.args.words.now.revision c.args.words.now.line (meaning_over over_memory) left c.in-Ok-evidence_over.text)
          c.in_ok-name.ensures.name c.in-Ok-evidence_over.ensures.evidence.1;
    }

pub returns-clause-none : goal.returns-clause-none
returns-clause-none g c =
    let bytes = reader_remaining (λ noted. g.F.File.Read.remaining noted.file) c.in_ok-text.text in
    let conn = c.in-Ok.conn in
    let left = c.in-Err-evidence_over.ensures.none.0 in
    inr (inr (inr (
      c.in-Err-evidence_over.why,
      record {
        bytes = bytes;
        journal = c.in_ok-text.ensures.text;
        conn = conn;
        left = left;
        none = subst (λ p. IsNoEvidence bytes p c.args.words.now.revision c.args.words.now.line over_memory conn left c.in-Err-evidence_over.why)
            c.in_ok-name.ensures.name c.in-Err-evidence_over.ensures.none.1;
      },
      c.told_of_text.ensures.cause,
    )))

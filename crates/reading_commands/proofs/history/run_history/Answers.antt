use Rattle.std.proofs.Common.{inr, refl, subst}
use Rattle.std.specs.Io.Buffered.{reader_remaining}
use Rattle.memory_database.specs.MemoryStore.{over_memory}
use Rattle.review_office.specs.Meant.{meaning_over}
use Rattle.journal_reports.specs.History.{IsUnwritten, IsWritten}
use Rattle.journal_reports.specs.Passing.{Asked}
use Rattle.reading_commands.proofs.history.run_history.Goals as goal

pub returns-in-Ok-write_over-clause-done : goal.returns-in-Ok-write_over-clause-done
returns-in-Ok-write_over-clause-done g c =
    let bytes = reader_remaining (λ noted. g.F.File.Read.remaining noted.file) c.in_ok-text.text in
    let left = c.in-Ok-write_over.ensures.written.0 in (
      record {
        bytes = bytes;
        journal = c.in_ok-text.ensures.text;
        left = left;
        written = subst (λ (asked : Asked). IsWritten bytes asked (g.O.Write.contents c.args.output.now.inner) (g.O.Write.contents c.write_over.new.output.inner) (meaning_over over_memory) left)
            c.filter_of-filter.ensures c.in-Ok-write_over.ensures.written.1;
      },
      refl,
    )

pub returns-clause-failed : goal.returns-clause-failed
returns-clause-failed g c =
    let bytes = reader_remaining (λ noted. g.F.File.Read.remaining noted.file) c.in_ok-text.text in
    let conn = c.in-Ok.conn in
    let left = c.in-Err-write_over.ensures.unwritten.0 in
    inr (
      c.in-Err-write_over.why,
      record {
        bytes = bytes;
        journal = c.in_ok-text.ensures.text;
        conn = conn;
        left = left;
        unwritten = subst (λ (asked : Asked). IsUnwritten bytes asked (g.O.Write.contents c.args.output.now.inner) (g.O.Write.contents c.write_over.new.output.inner) over_memory conn left c.in-Err-write_over.why)
            c.filter_of-filter.ensures c.in-Err-write_over.ensures.unwritten.1;
      },
      c.told_of_text.ensures.cause,
    )

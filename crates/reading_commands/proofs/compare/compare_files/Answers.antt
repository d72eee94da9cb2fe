use Rattle.profile_commands.proofs.ReadFacts.{compared_of}
use Rattle.reading_commands.proofs.FailingFacts.{new_refused}
use Rattle.reading_commands.proofs.compare.compare_files.Goals as goal

pub returns-in-Err-document_at-clause-failed : goal.returns-in-Err-document_at-clause-failed
returns-in-Err-document_at-clause-failed g c =
    new_refused (g.F.PassFiles.opens c.args.files.now) g.F.PassFiles.gives g.F.File.Read.remaining c.args.base.now c.args.new.now
    c.in-Ok.document.profile c.in-Err-document_at.fault c.of_new.result c.in-Ok.ensures.document c.of_new.ensures c.in-Err-document_at.ensures.none

pub returns-clause-compared : goal.returns-clause-compared
returns-clause-compared g c =
    let base = c.in-Ok.ensures.document in
    let shown = c.in-Ok-document_at.ensures.document in (
      base.0,
      shown.0,
      base.1,
      shown.1,
      compared_of (g.F.File.Read.remaining base.0) (g.F.File.Read.remaining shown.0) c.in-Ok.document.profile c.in-Ok-document_at.document.profile c.in_ok-text.text
          base.2 shown.2 c.in_ok-text.ensures,
    )

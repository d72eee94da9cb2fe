use Rattle.journal_reports.proofs.JsonExamples.{founding_is}
use Rattle.journal_reports.proofs.laws.examples_of_what_is_shown.Goals as goal

pub returns-clause-json : goal.returns-clause-json
returns-clause-json c = founding_is

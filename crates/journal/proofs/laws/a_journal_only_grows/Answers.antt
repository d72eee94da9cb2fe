use Rattle.journal.specs.Journals.{grows_on}
use Rattle.journal.proofs.laws.a_journal_only_grows.Goals as goal

pub returns-clause-asked : goal.returns-clause-asked
returns-clause-asked g c = λ old new requests answers ran clean. ran.survives.grows clean

pub returns-clause-settled : goal.returns-clause-settled
returns-clause-settled g c = λ old new result settled clean. settled.survives.grows clean

pub returns-clause-after : goal.returns-clause-after
returns-clause-after g c = λ first next last one two. grows_on g.O.Handler.meaning g.J.Journal.writing first next last one two

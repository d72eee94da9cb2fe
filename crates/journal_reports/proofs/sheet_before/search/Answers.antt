use Rattle.std.proofs.Common.{refl}
use Rattle.journal_reports.proofs.sheet_before.search.Goals as goal

pub visit-requires-clause-begun : goal.visit-requires-clause-begun
visit-requires-clause-begun g c = record { same = refl; none = λ bytes es all none. (es, all, none) }

pub returns : goal.returns
returns g c = λ bytes es all none. c.visit.ensures bytes es all none

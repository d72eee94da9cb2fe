use Rattle.std.proofs.Common.{Ok}
use Rattle.journal_verification.specs.SideBySide.{ComparesBoth}
use Rattle.journal_verification.proofs.SideBySide.{HaveSameUpTo}
use Rattle.journal_verification.proofs.compare.tables_differ.Given as goal

abbrev pub invariant-loop-table : goal.invariant-loop-table
invariant-loop-table g l = ComparesBoth g.S.Store g.T.Store {A = Unit {0}} l.fn.built l.built l.fn.office l.office (Ok tt) (HaveSameUpTo g.S.Store g.T.Store l.table-index)

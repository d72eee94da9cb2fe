use Rattle.std.proofs.Common.{◌≡◌, ◌+◌, drop, Ok}
use Rattle.sqlite.specs.Held.{state}
use Rattle.office_store.specs.Calls.{IsRead}
use Rattle.office_judging.proofs.Rows.{IsTold, IsUnderWay}
use Rattle.office_judging.proofs.let_through.let_through.Given as goal

abbrev pub invariant-loop-rule : goal.invariant-loop-rule
invariant-loop-rule g l = record {
  number : l.number ≡ l.rule-index + 1;
  way : IsUnderWay l.caller l.ask l.looked l.number (drop l.rule-index l.rules);
  read : IsRead (state g.S.Store l.fn.conn) (state g.S.Store l.conn) (Ok (tt {0})) (λ t done. IsTold l.caller l.ask l.looked t);
}

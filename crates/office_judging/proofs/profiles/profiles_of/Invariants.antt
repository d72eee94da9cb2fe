use Rattle.std.proofs.Common.{◌≡◌, Ok, vec_len}
use Rattle.sqlite.specs.Held.{state}
use Rattle.office_store.specs.Calls.{IsRead}
use Rattle.office_judging.proofs.Walking.{Walked}
use Rattle.office_judging.proofs.profiles.profiles_of.Given as goal

abbrev pub invariant-loop : goal.invariant-loop
invariant-loop g l = record {
  walked : IsRead (state g.S.Store l.fn.conn) (state g.S.Store l.conn) (Ok (l.profiles.items, l.next)) (Walked l.team);
  count : vec_len l.profiles ≡ l.counter;
}

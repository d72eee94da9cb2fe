use Rattle.std.proofs.Common.{◌≡◌, false, take}
use Rattle.std.specs.List.{list_any}
use Rattle.widening.specs.Calls.{entry_names, is_permitted_more}
use Rattle.widening.proofs.wider.gains_a_call_of.Given as goal

abbrev pub invariant-loop-i : goal.invariant-loop-i
invariant-loop-i l = list_any (is_permitted_more l.base l.new) (entry_names (take l.i l.entries)) ≡ false

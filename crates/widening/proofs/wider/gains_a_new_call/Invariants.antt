use Rattle.std.proofs.Common.{◌≡◌, false, not, ◌&&◌, take}
use Rattle.std.specs.List.{list_any}
use Rattle.seccomp_doc.specs.Meaning.{has_name}
use Rattle.widening.specs.Calls.{is_permitted_more}
use Rattle.widening.proofs.wider.gains_a_new_call.Given as goal

abbrev pub invariant-loop-i : goal.invariant-loop-i
invariant-loop-i l = list_any (λ name. not (list_any (has_name name) l.earlier) && is_permitted_more l.base l.new name) (take l.i l.names) ≡ false

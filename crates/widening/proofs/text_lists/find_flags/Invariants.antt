use Rattle.std.proofs.Common.{◌≡◌, ◌++◌, map, take}
use Rattle.widening.specs.declared.finding.Finding.TheVariants.{Flag}
use Rattle.widening.specs.Texts.{added_texts}
use Rattle.widening.proofs.text_lists.find_flags.Given as goal

abbrev pub invariant-loop-i : goal.invariant-loop-i
invariant-loop-i l = l.found.items ≡ l.initial.found.items ++ map Flag (added_texts l.base (take l.i l.new))

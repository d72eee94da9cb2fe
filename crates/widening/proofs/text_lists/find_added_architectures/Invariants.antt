use Rattle.std.proofs.Common.{◌≡◌, ◌++◌, map, take}
use Rattle.widening.specs.declared.finding.Finding.TheVariants.{Arch}
use Rattle.widening.specs.Texts.{added_texts}
use Rattle.widening.proofs.text_lists.find_added_architectures.Given as goal

abbrev pub invariant-loop-i : goal.invariant-loop-i
invariant-loop-i l = l.found.items ≡ l.initial.found.items ++ map Arch (added_texts l.base (take l.i l.new))

use Rattle.std.proofs.Common.{◌≡◌, drop}
use Rattle.json_tree.specs.View.{view}
use Rattle.desk_lines.specs.Flaws.{first_unformed}
use Rattle.desk_lines.proofs.formed.first_unformed.Given as goal

abbrev pub invariant-loop-part : goal.invariant-loop-part
invariant-loop-part l = first_unformed (view l.value) l.fn.parts ≡ first_unformed (view l.value) (drop l.part-index l.parts)

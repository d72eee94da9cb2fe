use Rattle.std.proofs.Common.{◌≡◌, drop}
use Rattle.std.specs.Int.RustNames.{bit_or}
use Rattle.json_tree.specs.View.{items_view}
use Rattle.profile_text.specs.Sets.{caps_of}
use Rattle.journal.proofs.part.caps_of.Given as goal

abbrev pub invariant-loop-value : goal.invariant-loop-value
invariant-loop-value l = caps_of (items_view l.fn.values) ≡ bit_or l.caps (caps_of (items_view (drop l.value-index l.values)))

use Rattle.std.specs.Prelude.{codes}
use Rattle.std.proofs.Common.{◌≡◌, drop}
use Rattle.std.specs.Int.RustNames.{bit_or}
use Rattle.json_tree.specs.View.{items_view}
use Rattle.profile_text.specs.Document.{is_cap_name}
use Rattle.profile_text.specs.Sets.{caps_of}
use Rattle.profile_text.specs.Shape.{below, word_faults, items_faults}
use Rattle.profile_text.proofs.capabilities.caps_of.Given as goal

abbrev pub invariant-loop-position : goal.invariant-loop-position
invariant-loop-position l = record {
  faults : items_faults (word_faults is_cap_name) (below (codes "/capabilities") l.name) 0 (items_view l.fn.values) ≡ items_faults (word_faults is_cap_name) (below (codes "/capabilities") l.name) l.position (items_view (drop l.position l.values));
  caps : caps_of (items_view l.fn.values) ≡ bit_or l.caps (caps_of (items_view (drop l.position l.values)));
}

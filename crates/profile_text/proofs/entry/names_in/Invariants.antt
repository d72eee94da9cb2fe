use Rattle.std.proofs.Common.{◌≡◌, drop}
use Rattle.json_tree.specs.View.{items_view}
use Rattle.profile_text.specs.FilterParts.{items_as, string_in}
use Rattle.profile_text.specs.FilterShape.{text_faults}
use Rattle.profile_text.specs.Reading.{unless_faulty}
use Rattle.profile_text.specs.Shape.{below, items_faults}
use Rattle.profile_text.specs.Place.{path_of}
use Rattle.profile_text.proofs.Steps.{left}
use Rattle.profile_text.proofs.entry.names_in.Given as goal

abbrev pub invariant-loop-value : goal.invariant-loop-value
invariant-loop-value l =
    unless_faulty (items_faults text_faults (below (path_of l.place) l.name) 0 (items_view l.fn.values)) (items_as string_in (items_view l.fn.values))
    ≡ left text_faults string_in (below (path_of l.place) l.name) (drop l.value-index l.values) l.names.items

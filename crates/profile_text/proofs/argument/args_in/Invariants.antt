use Rattle.std.proofs.Common.{◌≡◌, codes, drop}
use Rattle.json_tree.specs.View.{items_view}
use Rattle.profile_text.specs.FilterParts.{items_as, arg_in}
use Rattle.profile_text.specs.FilterShape.{arg_faults}
use Rattle.profile_text.specs.Reading.{unless_faulty}
use Rattle.profile_text.specs.Shape.{below, items_faults}
use Rattle.profile_text.specs.Place.{path_of}
use Rattle.profile_text.specs.declared.place.Place.TheVariants.{Entry}
use Rattle.profile_text.proofs.Steps.{left}
use Rattle.profile_text.proofs.argument.args_in.Given as goal

abbrev pub invariant-loop-value : goal.invariant-loop-value
invariant-loop-value l =
    unless_faulty (items_faults arg_faults (below (path_of (Entry l.entry)) (codes "args")) 0 (items_view l.fn.values)) (items_as arg_in (items_view l.fn.values))
    ≡ left arg_faults arg_in (below (path_of (Entry l.entry)) (codes "args")) (drop l.value-index l.values) l.args.items

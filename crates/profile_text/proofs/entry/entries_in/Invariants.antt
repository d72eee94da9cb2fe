use Rattle.std.proofs.Common.{◌≡◌, codes, drop}
use Rattle.json_tree.specs.View.{items_view}
use Rattle.profile_text.specs.FilterParts.{items_as, entry_in}
use Rattle.profile_text.specs.FilterShape.{entry_faults}
use Rattle.profile_text.specs.Reading.{unless_faulty}
use Rattle.profile_text.specs.Shape.{below, items_faults}
use Rattle.profile_text.proofs.Steps.{left}
use Rattle.profile_text.proofs.entry.entries_in.Given as goal

abbrev pub invariant-loop-value : goal.invariant-loop-value
invariant-loop-value l =
    unless_faulty (items_faults entry_faults (below (codes "/seccomp") (codes "syscalls")) 0 (items_view l.fn.values)) (items_as entry_in (items_view l.fn.values))
    ≡ left entry_faults entry_in (below (codes "/seccomp") (codes "syscalls")) (drop l.value-index l.values) l.entries.items

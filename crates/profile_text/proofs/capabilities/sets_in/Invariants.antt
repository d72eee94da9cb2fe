use Rattle.std.proofs.Common.{◌≡◌, drop}
use Rattle.std.specs.Prelude.{codes}
use Rattle.json_tree.specs.View.{members_view}
use Rattle.profile_text.specs.Document.{caps_rows}
use Rattle.profile_text.specs.Sets.{sets_in}
use Rattle.profile_text.specs.Shape.{members_faults}
use Rattle.profile_text.proofs.Picks.{filled}
use Rattle.profile_text.proofs.capabilities.sets_in.Given as goal

abbrev pub invariant-loop-name : goal.invariant-loop-name
invariant-loop-name l = record {
  faults : members_faults caps_rows (codes "/capabilities") (members_view l.fn.members) ≡ members_faults caps_rows (codes "/capabilities") (members_view (drop l.name-index l.members));
  sets : sets_in (members_view l.fn.members) ≡ filled l.sets (members_view (drop l.name-index l.members));
}

use Rattle.std.proofs.Common.{◌≡◌, take, drop}
use Rattle.serde_json.specs.Data.{put}
use Rattle.json_tree.specs.View.{members_view, view}
use Rattle.json_tree.proofs.Views.{members_before}
use Rattle.json_tree.proofs.members.put_among.Given as goal

abbrev pub invariant-loop-place : goal.invariant-loop-place
invariant-loop-place l =
    (l.members.items ≡ l.fn.members.items) ×
    (put l.name (view l.value) (members_view l.fn.members.items)
    ≡ members_before (take l.place l.fn.members.items) (put l.name (view l.value) (members_view (drop l.place l.fn.members.items))))

use Rattle.std.proofs.Common.{◌≡◌, rules}
use Rattle.serde_json.specs.Data.{put}
use Rattle.json_tree.specs.View.{view, members_view}
use Rattle.json_tree.proofs.Views.{rising_put}
use Rattle.json_tree.proofs.members.Gathered.put.Goals as goal

pub returns-then-goes_last-clause-ordered : goal.returns-then-goes_last-clause-ordered
returns-then-goes_last-clause-ordered c =
    let last : members_view c.push.new.self.items ≡ put c.args.name.now (view c.args.value) (members_view c.in-Few.few.items) = search rules in
    rw last (rising_put c.args.name.now (view c.args.value) (members_view c.in-Few.few.items) (rw c.in-Few.is at c.requires))

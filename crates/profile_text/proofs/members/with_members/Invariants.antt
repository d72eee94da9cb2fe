use Rattle.std.proofs.Common.{◌≡◌, drop}
use Rattle.profile_text.proofs.Steps.{members_left}
use Rattle.profile_text.proofs.members.with_members.Given as goal

abbrev pub invariant-loop-name : goal.invariant-loop-name
invariant-loop-name g l =
    members_left g.F.FromMembers.rows (g.F.FromMembers.path l.at) g.F.FromMembers.with_member (g.F.FromMembers.seen l.fn.start) l.fn.members
    ≡ members_left g.F.FromMembers.rows (g.F.FromMembers.path l.at) g.F.FromMembers.with_member (g.F.FromMembers.seen l.found) (drop l.name-index l.members)

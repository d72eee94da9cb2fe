use Rattle.std.proofs.Common.{◌∙◌, ap}
use Rattle.std.proofs.lemmas.List.{drop_all}
use Rattle.std.proofs.lemmas.Result.{err_from_is_err_and}
use Rattle.profile_text.proofs.Steps.{members_left, members_read, read_at_place, refused_at_place}
use Rattle.profile_text.proofs.members.with_members.Goals as goal

pub returns-in_err-take_member : goal.returns-in_err-take_member
returns-in_err-take_member g c =
    let p = err_from_is_err_and c.from_residual.result c.from_residual.ensures.1 in
    let rows = g.F.FromMembers.rows in
    let path = g.F.FromMembers.path c.args.at in
    let found = g.F.FromMembers.seen c.loop-name.found in
    rw (p.1, p.2) (refused_at_place rows path g.F.FromMembers.with_member c.args.members.now c.loop-name.name-index _ found _ _ _ c.loop-name-test.true c.loop-name.invariant c.in_err-take_member.ensures)

pub loop-name-preserved : goal.loop-name-preserved
loop-name-preserved g c =
    let rows = g.F.FromMembers.rows in
    let path = g.F.FromMembers.path c.args.at in
    let found = g.F.FromMembers.seen c.loop-name.found in
    read_at_place rows path g.F.FromMembers.with_member c.args.members.now c.loop-name.name-index _ found _ _ c.loop-name-test.true c.loop-name.invariant c.in_ok-take_member.ensures

pub returns : goal.returns
returns g c =
    let rows = g.F.FromMembers.rows in
    let path = g.F.FromMembers.path c.args.at in
    let found = g.F.FromMembers.seen c.loop-name.found in
    let none = drop_all c.loop-name.name-index c.args.members.now c.loop-name-test.false in
    members_read rows path found _ (c.loop-name.invariant ∙ ap (members_left rows path g.F.FromMembers.with_member found) none)

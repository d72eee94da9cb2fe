use Rattle.std.proofs.Common.{arith}
use Rattle.widening.proofs.GroupFacts.{none_added, place_added, under_added}
use Rattle.widening.proofs.groups.add_under.Goals as goal

pub returns-in-None : goal.returns-in-None
returns-in-None c = none_added c.args.names.now c.args.groups.now c.args.name.now c.args.place c.in-None.ensures

pub returns-in_ok-add_place-in-Some : goal.returns-in_ok-add_place-in-Some
returns-in_ok-add_place-in-Some c =
    let groups = c.args.groups.now in
    let at = c.in-Some.at in
    let after = c.add_place.new.places in
    under_added c.args.names.now groups at c.args.name.now after c.args.place c.requires.order c.requires.count
    c.in-Some.ensures.0 c.in-Some.ensures.1
    (place_added groups at c.index-groups-at.result after.items c.args.place (omega (arith, c.in-Some.ensures.0, c.requires.count)) c.in_ok-add_place-in-Some.ensures)

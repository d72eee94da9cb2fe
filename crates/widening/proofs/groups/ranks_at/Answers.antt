use Rattle.std.proofs.Common.{◌≡◌, get_or}
use Rattle.std.proofs.lemmas.List.{get_or_default}
use Rattle.widening.proofs.RankFacts.{place_more}
use Rattle.widening.proofs.groups.ranks_at.Goals as goal

pub loop-place-preserved : goal.loop-place-preserved
loop-place-preserved c =
    let place = get_or c.args.places.now c.loop-place.place-index 0 in
    let is : place ≡ get_or c.args.places.now c.loop-place.place-index place = get_or_default c.args.places.now c.loop-place.place-index 0 place c.loop-place-test.true in
    place_more _ _ c.args.default c.args.entries.now c.args.places.now c.loop-place.place-index place c.index-entries-place.result
    c.loop-place-test.true is (c.requires c.loop-place.place-index 0 c.loop-place-test.true) c.index-entries-place.is c.with-ranks.ensures c.loop-place.invariant

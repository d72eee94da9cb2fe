use Rattle.std.proofs.Common.{◌≡◌, ◌∙◌, ap, false, get_or, rules, sym, true}
use Rattle.std.proofs.lemmas.List.{get_or_default}
use Rattle.implication.specs.Implication.{entry_implies}
use Rattle.widening.proofs.MemoFacts.{implied_at, none_more}
use Rattle.widening.proofs.memo.implies_some.Goals as goal

pub returns-then-entry_implies : goal.returns-then-entry_implies
returns-then-entry_implies c =
    let others = c.args.others.now in
    let place = get_or c.args.places.now c.loop-place.place-index 0 in
    let is : place ≡ get_or c.args.places.now c.loop-place.place-index place = get_or_default c.args.places.now c.loop-place.place-index 0 place c.loop-place-test.true in
    let passes : c.entry_implies.result ≡ true = search rules in
    sym (implied_at (entry_implies c.args.entry.now) others c.args.places.now c.loop-place.place-index place c.index-others-place.result
    c.loop-place-test.true is (c.requires c.loop-place.place-index 0 c.loop-place-test.true)
    (ap (entry_implies c.args.entry.now) (sym c.index-others-place.is) ∙ sym c.entry_implies.ensures.value ∙ passes))

pub loop-place-preserved : goal.loop-place-preserved
loop-place-preserved c =
    let others = c.args.others.now in
    let place = get_or c.args.places.now c.loop-place.place-index 0 in
    let is : place ≡ get_or c.args.places.now c.loop-place.place-index place = get_or_default c.args.places.now c.loop-place.place-index 0 place c.loop-place-test.true in
    let fails : c.entry_implies.result ≡ false = search rules in
    none_more (entry_implies c.args.entry.now) others c.args.places.now c.loop-place.place-index place c.index-others-place.result
    c.loop-place-test.true is (c.requires c.loop-place.place-index 0 c.loop-place-test.true)
    (ap (entry_implies c.args.entry.now) (sym c.index-others-place.is) ∙ sym c.entry_implies.ensures.value ∙ fails) c.loop-place.invariant

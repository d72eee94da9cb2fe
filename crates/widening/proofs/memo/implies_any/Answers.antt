use Rattle.std.proofs.Common.{◌≡◌, ◌∙◌, get_or, sym}
use Rattle.std.proofs.lemmas.List.{get_or_default}
use Rattle.implication.specs.Implication.{entry_implies}
use Rattle.widening.proofs.MemoFacts.{implied_at, none_more}
use Rattle.widening.proofs.memo.implies_any.Goals as goal

pub returns-then-implies_at-clause-told : goal.returns-then-implies_at-clause-told
returns-then-implies_at-clause-told c =
    let place = get_or c.args.places.now c.loop-place.place-index 0 in
    let is : place ≡ get_or c.args.places.now c.loop-place.place-index place = get_or_default c.args.places.now c.loop-place.place-index 0 place c.loop-place-test.true in
    sym (implied_at (entry_implies c.args.entry.now) c.args.others.now c.args.places.now c.loop-place.place-index place c.args.entry.now
    c.loop-place-test.true is (c.requires.within c.loop-place.place-index 0 c.loop-place-test.true) (sym (c.implies_at.ensures.told c.args.entry.now) ∙ c.if-implies_at.true))

pub loop-place-preserved : goal.loop-place-preserved
loop-place-preserved c =
    let place = get_or c.args.places.now c.loop-place.place-index 0 in
    let is : place ≡ get_or c.args.places.now c.loop-place.place-index place = get_or_default c.args.places.now c.loop-place.place-index 0 place c.loop-place-test.true in
    record {
      row = c.implies_at.ensures.row;
      full = c.implies_at.ensures.full;
      none =
          none_more (entry_implies c.args.entry.now) c.args.others.now c.args.places.now c.loop-place.place-index place c.args.entry.now
          c.loop-place-test.true is (c.requires.within c.loop-place.place-index 0 c.loop-place-test.true)
          (sym (c.implies_at.ensures.told c.args.entry.now) ∙ c.if-implies_at.false) c.loop-place.invariant.none;
    }

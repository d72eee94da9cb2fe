use Rattle.std.proofs.Common.{◌≡◌, ◌∙◌, ◌||◌, [], false, get_or, not, rules, sym, tests, true}
use Rattle.std.specs.List.{list_any}
use Rattle.std.proofs.lemmas.List.{get_or_default}
use Rattle.seccomp_doc.specs.declared.action.Action.TheVariants.{Allow}
use Rattle.seccomp_doc.specs.Filter.{EntryValue}
use Rattle.implication.specs.Implication.{entry_implies}
use Rattle.widening.specs.Groups.{entries_at}
use Rattle.widening.specs.Ranks.{is_in}
use Rattle.widening.proofs.MemoFacts.{all_more, one_fails}
use Rattle.widening.proofs.memo.all_imply.Goals as goal

abbrev any_entry : EntryValue
any_entry = record { names = []; action = Allow; args = [] }

pub returns-then-not-told-clause-told : goal.returns-then-not-told-clause-told
returns-then-not-told-clause-told c =
    let place = get_or c.args.places.now c.loop-place.place-index 0 in
    let is : place ≡ get_or c.args.places.now c.loop-place.place-index place = get_or_default c.args.places.now c.loop-place.place-index 0 place c.loop-place-test.true in
    let fails : c.in_ok-told.told ≡ false = search (rules, tests) in
    sym (one_fails (λ e. not (is_in c.args.span e) || list_any (entry_implies e) (entries_at c.args.others.now.entries.now c.args.others.now.places.now))
    c.args.entries.now c.args.places.now c.loop-place.place-index place any_entry c.loop-place-test.true is
    (c.requires.within c.loop-place.place-index 0 c.loop-place-test.true) (sym (c.in_ok-told.ensures.told any_entry) ∙ fails))

pub loop-place-preserved : goal.loop-place-preserved
loop-place-preserved c =
    let place = get_or c.args.places.now c.loop-place.place-index 0 in
    let is : place ≡ get_or c.args.places.now c.loop-place.place-index place = get_or_default c.args.places.now c.loop-place.place-index 0 place c.loop-place-test.true in
    let passes : c.in_ok-told.told ≡ true = search (rules, tests) in
    record {
      rows = c.in_ok-told.ensures.rows;
      passed =
          all_more (λ e. not (is_in c.args.span e) || list_any (entry_implies e) (entries_at c.args.others.now.entries.now c.args.others.now.places.now))
          c.args.entries.now c.args.places.now c.loop-place.place-index place any_entry c.loop-place-test.true is
          (c.requires.within c.loop-place.place-index 0 c.loop-place-test.true) (sym (c.in_ok-told.ensures.told any_entry) ∙ passes) c.loop-place.invariant.passed;
    }

use Rattle.std.proofs.Common.{◌≡◌, ◌+◌, [], ◌∷◌, ◌++◌, length, drop, refl, ap, arith}
use Rattle.std.proofs.lemmas.Grind.{common_steps}
use Rattle.std.proofs.lemmas.List.{drop_all}
use Rattle.std.proofs.lemmas.Result.{err_from_is_err_and}
use Rattle.profile_text.specs.FilterParts.{string_in}
use Rattle.profile_text.specs.FilterShape.{text_faults}
use Rattle.profile_text.specs.Shape.{below}
use Rattle.profile_text.specs.Place.{path_of}
use Rattle.profile_text.proofs.Steps.{at_place, item_refused, item_read, items_read}
use Rattle.profile_text.proofs.entry.names_in.Goals as goal

pub loop-value-init : goal.loop-value-init
loop-value-init c = rw c.in_ok-names.ensures.items refl

pub returns-in_err-text : goal.returns-in_err-text
returns-in_err-text c =
    let p = err_from_is_err_and c.from_residual-in_err-text.result c.from_residual-in_err-text.ensures.1 in
    let vs = c.args.values.now in
    let i = c.loop-value.value-index in
    let v = c.value-item.result in
    let done = c.loop-value.names.items in
    let next = at_place vs i v c.loop-value-test.true c.value-item.is in
    let here : c.len.result ≡ length done = grind (arith, common_steps) in
    rw (p.1, p.2) (item_refused text_faults string_in (below (path_of c.args.place) c.args.name.now) v (drop i vs) (drop (i + 1) vs) done _ _ next c.loop-value.invariant (rw here at c.in_err-text.ensures))

pub loop-value-preserved : goal.loop-value-preserved
loop-value-preserved c =
    let vs = c.args.values.now in
    let i = c.loop-value.value-index in
    let v = c.value-item.result in
    let done = c.loop-value.names.items in
    let next = at_place vs i v c.loop-value-test.true c.value-item.is in
    let pushed : c.push.new.self.items ≡ c.loop-value.names.items ++ c.in_ok-text.text ∷ [] = grind (arith, common_steps) in
    let here : c.len.result ≡ length done = grind (arith, common_steps) in
    rw pushed (item_read text_faults string_in (below (path_of c.args.place) c.args.name.now) v (drop i vs) (drop (i + 1) vs) done _ _ next c.loop-value.invariant (rw here at c.in_ok-text.ensures))

pub returns : goal.returns
returns c =
    let vs = c.args.values.now in
    let i = c.loop-value.value-index in
    let none = ap length (drop_all i vs c.loop-value-test.false) in
    items_read text_faults string_in (below (path_of c.args.place) c.args.name.now) (drop i vs) c.loop-value.names.items _ none c.loop-value.invariant

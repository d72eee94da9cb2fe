use Rattle.std.proofs.Common.{◌≡◌, ◌+◌, [], ◌∷◌, ◌++◌, length, drop, refl, ap, arith, codes}
use Rattle.std.proofs.lemmas.Grind.{common_steps}
use Rattle.std.proofs.lemmas.List.{drop_all}
use Rattle.std.proofs.lemmas.Result.{err_from_is_err_and}
use Rattle.profile_text.specs.FilterParts.{entry_in}
use Rattle.profile_text.specs.FilterShape.{entry_faults}
use Rattle.profile_text.specs.Shape.{below}
use Rattle.profile_text.proofs.Steps.{at_place, item_refused, item_read, items_read}
use Rattle.profile_text.proofs.entry.entries_in.Goals as goal

pub loop-value-init : goal.loop-value-init
loop-value-init c = rw c.in_ok-entries.ensures.items refl

pub returns-in_err-entry : goal.returns-in_err-entry
returns-in_err-entry c =
    let p = err_from_is_err_and c.from_residual-in_err-entry.result c.from_residual-in_err-entry.ensures.1 in
    let vs = c.args.values.now in
    let i = c.loop-value.value-index in
    let v = c.value-item.result in
    let done = c.loop-value.entries.items in
    let next = at_place vs i v c.loop-value-test.true c.value-item.is in
    let here : c.len.result ≡ length done = grind (arith, common_steps) in
    rw (p.1, p.2) (item_refused entry_faults entry_in (below (codes "/seccomp") (codes "syscalls")) v (drop i vs) (drop (i + 1) vs) done _ _ next c.loop-value.invariant (rw here at c.in_err-entry.ensures))

pub loop-value-preserved : goal.loop-value-preserved
loop-value-preserved c =
    let vs = c.args.values.now in
    let i = c.loop-value.value-index in
    let v = c.value-item.result in
    let done = c.loop-value.entries.items in
    let next = at_place vs i v c.loop-value-test.true c.value-item.is in
    let pushed : c.push.new.self.items ≡ c.loop-value.entries.items ++ c.in_ok-entry.entry ∷ [] = grind (arith, common_steps) in
    let here : c.len.result ≡ length done = grind (arith, common_steps) in
    rw pushed (item_read entry_faults entry_in (below (codes "/seccomp") (codes "syscalls")) v (drop i vs) (drop (i + 1) vs) done _ _ next c.loop-value.invariant (rw here at c.in_ok-entry.ensures))

pub returns : goal.returns
returns c =
    let vs = c.args.values.now in
    let i = c.loop-value.value-index in
    let none = ap length (drop_all i vs c.loop-value-test.false) in
    items_read entry_faults entry_in (below (codes "/seccomp") (codes "syscalls")) (drop i vs) c.loop-value.entries.items _ none c.loop-value.invariant

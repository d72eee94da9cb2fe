use Rattle.std.proofs.Common.{◌≡◌, ◌∙◌, ◌<◌, ◌≤◌, [], ◌∷◌, ◌++◌, length, get_or, slice_set, take, drop, nat_cmp, sym, ap, arith, add-one}
use Rattle.std.specs.Cmp.Lexicographic.{slice_cmp}
use Rattle.std.proofs.lemmas.Grind.{common_steps}
use Rattle.std.specs.List.{insert}
use Rattle.serde_json.specs.Data.{put}
use Rattle.json_tree.specs.View.{view, members_view}
use Rattle.json_tree.proofs.Views.{members_before}
use Rattle.json_tree.proofs.Put.{same_item, put_before, put_there, put_after, put_last}
use Rattle.json_tree.proofs.members.put_among.Goals as goal

pub returns-in-Less : goal.returns-in-Less
returns-in-Less c =
    let i = c.loop-place.place in
    let kept = c.loop-place.invariant.0 in
    let within : i < length c.args.members.now.items = grind (arith, common_steps) in
    let here = c.index.ensures ∙ ap (λ es. get_or es i c.index.result.now) kept in
    let put = put_before c.args.name c.args.value c.args.members.now.items i c.index.result.now within here (sym c.cmp.ensures ∙ c.in-Less.is) in
    ap members_view c.in_ok-insert-in-Less.ensures.items ∙ ap (λ es. members_view (insert es i (c.args.name, c.args.value))) kept ∙ sym (c.loop-place.invariant.1 ∙ put)

pub returns-in-Equal : goal.returns-in-Equal
returns-in-Equal c =
    let i = c.loop-place.place in
    let kept = c.loop-place.invariant.0 in
    let e = c.index_mut.result.now in
    let within : i < length c.args.members.now.items = grind (arith, common_steps) in
    let here : e ≡ get_or c.args.members.now.items i e = c.index_mut.ensures.value ∙ ap (λ es. get_or es i e) kept in
    let first = c.index.ensures ∙ ap (λ es. get_or es i c.index.result.now) kept in
    let alike : c.index.result.now ≡ e = same_item c.args.members.now.items i c.index.result.now e within first here in
    let same = ap (λ y. slice_cmp nat_cmp c.args.name.now y.0.now) (sym alike) ∙ sym c.cmp.ensures ∙ c.in-Equal.is in
    ap (λ es. members_view (slice_set es i (e.0, c.args.value))) kept ∙ sym (c.loop-place.invariant.1 ∙ put_there c.args.name c.args.value c.args.members.now.items i e within here same)

pub loop-place-preserved : goal.loop-place-preserved
loop-place-preserved c =
    let i = c.loop-place.place in
    let es = c.args.members.now.items in
    let kept = c.loop-place.invariant.0 in
    let within : i < length es = grind (arith, common_steps) in
    let here = c.index.ensures ∙ ap (λ es. get_or es i c.index.result.now) kept in
    let after = put_after c.args.name c.args.value es i c.index.result.now within here (sym c.cmp.ensures ∙ c.in-Greater.is) in
    (kept, c.loop-place.invariant.1 ∙ after ∙ ap (λ j. members_before (take j es) (put c.args.name.now (view c.args.value) (members_view (drop j es)))) (sym (add-one i)))

pub returns : goal.returns
returns c =
    let kept = c.loop-place.invariant.0 in
    let past : length c.args.members.now.items ≤ c.loop-place.place = grind (arith, common_steps) in
    ap members_view c.in_ok-push.ensures.items ∙ ap (λ es. members_view (es ++ (c.args.name, c.args.value) ∷ [])) kept
    ∙ sym (c.loop-place.invariant.1 ∙ put_last c.args.name c.args.value c.args.members.now.items c.loop-place.place past)

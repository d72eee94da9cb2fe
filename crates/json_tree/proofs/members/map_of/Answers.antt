use Rattle.std.proofs.Common.{◌≡◌, ◌∙◌, [], ◌∷◌, ◌++◌, sym, ap, arith}
use Rattle.std.proofs.lemmas.Grind.{common_steps}
use Rattle.serde_json.specs.Data.{member}
use Rattle.json_tree.specs.Gathered.{IsBelow}
use Rattle.json_tree.specs.View.{view, members_view}
use Rattle.json_tree.proofs.Views.{members_before, members_before-more, members_before-none, members_view-insert_entry, put_first, rising_after}
use Rattle.json_tree.proofs.members.map_of.Goals as goal

pub loop-name-init : goal.loop-name-init
loop-name-init c = ap (λ es. members_before c.args.few.items (members_view es)) c.new-many.ensures.empty ∙ members_before-none c.args.few.items

pub loop-name-preserved : goal.loop-name-preserved
loop-name-preserved c =
    let k = c.in-Some.name in
    let v = c.in-Some.value in
    let l = c.loop-name in
    let ms = members_view l.many.entries in
    let before = c.pop.new.self.items in
    let last : l.few.items ≡ before ++ (k, v) ∷ [] = grind (arith, common_steps) in
    let whole : members_before before (member k.now (view v) ms) ≡ members_view c.args.few.items =
    sym (members_before-more before (k, v) ms) ∙ ap (λ es. members_before es ms) (sym last) ∙ l.invariant in
    let below : IsBelow k.now ms = (rising_after before (member k.now (view v) ms) (rw whole c.requires)).0 in
    let inserted : members_view c.insert.new.self.entries ≡ member k.now (view v) ms =
    ap members_view c.in_ok-insert.ensures.entries ∙ members_view-insert_entry l.many.entries k v ∙ put_first k.now v ms below in
    ap (members_before before) inserted ∙ whole

pub loop-name-smaller : goal.loop-name-smaller
loop-name-smaller c = grind (arith, common_steps)

pub returns : goal.returns
returns c =
    let none : c.loop-name.few.items ≡ [] = grind (arith, common_steps) in
    ap (λ es. members_before es (members_view c.loop-name.many.entries)) (sym none) ∙ c.loop-name.invariant

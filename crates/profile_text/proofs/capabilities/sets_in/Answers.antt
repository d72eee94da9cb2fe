use Rattle.std.proofs.Common.{◌≡◌, ◌∙◌, ℕ, ◌+◌, ◌<◌, ◌++◌, List, length, get_or, drop, Ok, Err, refl, sym, ap, option_map}
use Rattle.std.specs.Borrow.{Bor}
use Rattle.std.specs.Prelude.{codes}
use Rattle.std.proofs.lemmas.List.{drop_all, drop_more}
use Rattle.std.proofs.lemmas.Result.{err_from_is_err_and}
use Rattle.json_tree.specs.View.{view, members_view}
use Rattle.json_tree.specs.declared.tree.Tree.{Tree}
use Rattle.profile_text.specs.declared.fault.DocFault.{DocFault}
use Rattle.profile_text.specs.declared.sets.Sets.{Sets}
use Rattle.profile_text.specs.Document.{caps_row, caps_rows}
use Rattle.profile_text.specs.Reading.{Gives, unless_faulty}
use Rattle.profile_text.specs.Sets.{set_named, sets_with, sets_in as sets_of_members}
use Rattle.profile_text.specs.Shape.{below, members_faults, object_faults, row_faults}
use Rattle.profile_text.proofs.GivesFacts.{ok_parts}
use Rattle.profile_text.proofs.Picks.{filled, filled_more, sets_filled}
use Rattle.profile_text.proofs.WalkFacts.{caps_err, caps_members_more, caps_object, members_end}
use Rattle.profile_text.proofs.capabilities.sets_in.Goals as goal

pub loop-name-init : goal.loop-name-init
loop-name-init c =
    let all = members_view c.args.members.now in
    record {
      faults = refl;
      sets = sets_filled all ∙ ap (λ s. filled s all) (sym c.empty-sets.ensures);
    }

refused : (ms : List (Bor (List ℕ) × Tree)) (i : ℕ) (d : Bor (List ℕ) × Tree) (x : Sets) (fault : DocFault) → i < length ms
    → members_faults caps_rows (codes "/capabilities") (members_view ms) ≡ members_faults caps_rows (codes "/capabilities") (members_view (drop i ms))
    → Gives {X = Sets} (Err fault) (unless_faulty (row_faults (option_map caps_row (set_named (get_or ms i d).0.now)) (below (codes "/capabilities") (get_or ms i d).0.now) (view (get_or ms i d).1)) x)
    → Gives {X = Sets} (Err fault) (unless_faulty (object_faults caps_rows (codes "/capabilities") (members_view ms)) (sets_of_members (members_view ms)))
refused ms i d x fault within faults told =
    let path = codes "/capabilities" in
    let m = get_or ms i d in
    let first = row_faults (option_map caps_row (set_named m.0.now)) (below path m.0.now) (view m.1) in
    let rest = members_faults caps_rows path (members_view (drop (i + 1) ms)) in
    let more = faults ∙ ap (λ es. members_faults caps_rows path (members_view es)) (drop_more ms i d within) ∙ caps_members_more path m.0 m.1 (drop (i + 1) ms) in
    caps_err path (members_view ms) first rest x fault more told

taken : (ms : List (Bor (List ℕ) × Tree)) (i : ℕ) (d : Bor (List ℕ) × Tree) (sets new : Sets) → i < length ms
    → members_faults caps_rows (codes "/capabilities") (members_view ms) ≡ members_faults caps_rows (codes "/capabilities") (members_view (drop i ms))
    → sets_of_members (members_view ms) ≡ filled sets (members_view (drop i ms))
    → unless_faulty (row_faults (option_map caps_row (set_named (get_or ms i d).0.now)) (below (codes "/capabilities") (get_or ms i d).0.now) (view (get_or ms i d).1)) (sets_with (set_named (get_or ms i d).0.now) (view (get_or ms i d).1) sets) ≡ Ok new
    → (members_faults caps_rows (codes "/capabilities") (members_view ms) ≡ members_faults caps_rows (codes "/capabilities") (members_view (drop (i + 1) ms)))
    × (sets_of_members (members_view ms) ≡ filled new (members_view (drop (i + 1) ms)))
taken ms i d sets new within faults is told =
    let path = codes "/capabilities" in
    let m = get_or ms i d in
    let next = drop_more ms i d within in
    let first = row_faults (option_map caps_row (set_named m.0.now)) (below path m.0.now) (view m.1) in
    let others = members_view (drop (i + 1) ms) in
    let rest = members_faults caps_rows path others in
    let parts = ok_parts first (sets_with (set_named m.0.now) (view m.1) sets) new told in
    let more = ap (λ es. members_faults caps_rows path (members_view es)) next ∙ caps_members_more path m.0 m.1 (drop (i + 1) ms) in (
      faults ∙ more ∙ ap (λ (fs : List DocFault). fs ++ rest) parts.0,
      is ∙ ap (λ es. filled sets (members_view es)) next ∙ filled_more m.0.now (view m.1) sets others ∙ ap (λ s. filled s others) parts.1,
    )

pub returns-in_err-sets : goal.returns-in_err-sets
returns-in_err-sets c =
    let p = err_from_is_err_and c.from_residual.result c.from_residual.ensures.1 in
    let told = rw c.from_name.ensures at c.in_err-sets.ensures in
    rw (p.1, p.2) (refused c.args.members.now c.loop-name.name-index _ _ _ c.loop-name-test.true c.loop-name.invariant.faults told)

pub loop-name-preserved : goal.loop-name-preserved
loop-name-preserved c =
    let told = rw c.from_name.ensures at c.in_ok-sets.ensures in
    let next = taken c.args.members.now c.loop-name.name-index _ c.loop-name.sets _ c.loop-name-test.true c.loop-name.invariant.faults c.loop-name.invariant.sets told in
    record {
      faults = next.0;
      sets = next.1;
    }

pub returns : goal.returns
returns c =
    let path = codes "/capabilities" in
    let none = drop_all c.loop-name.name-index c.args.members.now c.loop-name-test.false in
    let faults = c.loop-name.invariant.faults ∙ ap (λ es. members_faults caps_rows path (members_view es)) none ∙ members_end caps_rows path in
    let sets = c.loop-name.invariant.sets ∙ ap (λ es. filled c.loop-name.sets (members_view es)) none in
    rw (caps_object path (members_view c.args.members.now), faults, sets) refl

use Rattle.std.proofs.Common.{◌≡◌, ◌∙◌, ℕ, [], ◌∷◌, Bool, true, false, cond, Option, Some, None, refl, sym, ap}
use Rattle.std.specs.Prelude.{bytes_eq}
use Rattle.office_words.specs.declared.row.UserRow.{UserRow}
use Rattle.office_policy.specs.Examples.{blue, red, desk, root, ann}
use Rattle.office_policy.proofs.law_examples.examples_of_kept_teams.Goals as goal

same : {A : Type 0} (x y : A) → Some x ≡ Some y → x ≡ y
same x y is = cc

false_is_true : false ≡ true → ⊥
false_is_true e = cc

pub returns-clause-kept : goal.returns-clause-kept
returns-clause-kept c = λ name u v was is. ap (λ (w : UserRow). w.team) (sym (same u v (sym was ∙ is)))

pub returns-clause-other_team : goal.returns-clause-other_team
returns-clause-other_team c = λ keeps.
    let was : UserRow = record { name = ann; team = blue; roles = 2; digest = 1 ∷ [] } in
    let is : UserRow = record { name = ann; team = red; roles = 2; digest = 1 ∷ [] } in
    false_is_true (ap (bytes_eq blue) (keeps ann was is refl refl))

abbrev root_with : ℕ → UserRow
root_with roles = record { name = root; team = desk; roles = roles; digest = 0 ∷ [] }

-- root is of the one team by the founding and by the enrolment
by_both : (is_root : Bool) (u v : UserRow) → cond is_root (Some (root_with 1)) None ≡ Some u → cond is_root (Some (root_with 3)) (cond is_root (Some (root_with 1)) None) ≡ Some v → v.team ≡ u.team
by_both true u v was is = sym (ap (λ (w : UserRow). w.team) (same (root_with 3) v is)) ∙ ap (λ (w : UserRow). w.team) (same (root_with 1) u was)
by_both false u v was is = absurd (let k : ◌≡◌ {A = Option UserRow} None (Some u) = was in cc)

pub returns-clause-other_roles : goal.returns-clause-other_roles
returns-clause-other_roles c = λ name u v was is. by_both (bytes_eq name root) u v was is

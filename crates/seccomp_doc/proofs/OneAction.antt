-- Entries of which no name has two actions.
use Rattle.std.proofs.Common.{◌≡◌, ◌∙◌, ap, refl, sym, subst, inl, inr, ℕ, Contains, List, [], ◌∷◌, ◌++◌, Bool, true, false, not, cond, ◌&&◌, ◌||◌, Option, Some, None, is_some, unwrap_or, map, bytes_eq, append_assoc}
use Rattle.std.specs.Prelude.{filter}
use Rattle.std.specs.List.{list_all, list_any}
use Rattle.std.proofs.lemmas.Bool.{false≢true, cases_Bool}
use Rattle.std.proofs.lemmas.List.Elements.{All-contains_itself, All-weaker, Contains-append_left, Contains-push}
use Rattle.std.proofs.lemmas.List.Folds.{list_all_at, list_any_none}
use Rattle.std.proofs.lemmas.Slice.Eq.{bytes_eq-Decides}
use Rattle.seccomp_doc.specs.declared.action.Action.{Action}
use Rattle.seccomp_doc.specs.declared.fault.FilterFault.{FilterFault}
use Rattle.seccomp_doc.specs.Action.{same_action}
use Rattle.seccomp_doc.specs.Filter.{EntryValue}
use Rattle.seccomp_doc.specs.Checks.{Check, all_name_checks, contradicts, first_fault, name_check, name_checks}
use Rattle.seccomp_doc.specs.Lawful.{HasOneAction}
use Rattle.seccomp_doc.specs.Meaning.{has_name}
use Rattle.seccomp_doc.specs.Names.{IsActionOf, has_action}
use Rattle.seccomp_doc.proofs.EntryFacts.{not_false}
use Rattle.seccomp_doc.proofs.FaultFacts.{first_fault-after}
use Rattle.seccomp_doc.proofs.Lists.{or_right}
use Rattle.seccomp_doc.proofs.NameFacts.{none_of}
use Rattle.seccomp_doc.proofs.SameAction.{same_action_is, same_action_itself}

both_true : (a b : Bool) → (a && b) ≡ true → (a ≡ true) × (b ≡ true)
both_true true b e = (refl, e)
both_true false b e = cc

passes : (fault : FilterFault) (fails : Bool) (rest : List Check) → fails ≡ false → first_fault rest ≡ None → first_fault ((fault, fails) ∷ rest) ≡ None
passes fault true rest e none = cc
passes fault false rest e none = none

names_pass : (earlier : List EntryValue) (action : Action) (names : List (List ℕ)) →
    ((name : List ℕ) → list_any (bytes_eq name) names ≡ true → list_any (contradicts name action) earlier ≡ false) →
    first_fault (map (name_check earlier action) names) ≡ None
names_pass earlier action [] none = refl
names_pass earlier action (name ∷ names) none =
    passes _ _ (map (name_check earlier action) names)
    (none name (ap (λ b. b || list_any (bytes_eq name) names) ((bytes_eq-Decides name name).1 refl)))
    (names_pass earlier action names (λ other has. none other (or_right (bytes_eq other name) _ has)))

contradicts_none : (x e : EntryValue) (name : List ℕ) → (has_name name x ≡ true → x.action ≡ e.action) → contradicts name e.action x ≡ false
contradicts_none x e name same = elim (cases_Bool (has_name name x)) as (λ _. contradicts name e.action x ≡ false) [
  | inl has ↦ ap (λ b. b && not (same_action x.action e.action)) has ∙ ap not (ap (λ a. same_action a e.action) (same has) ∙ same_action_itself e.action)
  | inr gone ↦ ap (λ b. b && not (same_action x.action e.action)) gone
]

-- then no check of a name fails
pub all_pass : (earlier es : List EntryValue) → HasOneAction (earlier ++ es) → first_fault (all_name_checks earlier es) ≡ None
unfolding all_name_checks
all_pass earlier [] one = refl
all_pass earlier (e ∷ es) one =
    let seen = earlier ++ e ∷ [] in
    let one_seen : HasOneAction (seen ++ es) = subst HasOneAction (sym (append_assoc earlier (e ∷ []) es)) one in
    let none : (name : List ℕ) → has_name name e ≡ true → list_any (contradicts name e.action) earlier ≡ false =
    λ name has. list_any_none (contradicts name e.action) earlier
    (All-weaker (Contains earlier) (λ x. contradicts name e.action x ≡ false)
    (λ x at. contradicts_none x e name
    (λ has_x. one_seen x e (Contains-append_left seen es x (Contains-append_left earlier (e ∷ []) x at)) (Contains-append_left seen es e (Contains-push earlier e)) name has_x has))
    earlier (All-contains_itself earlier)) in
    first_fault-after (name_checks earlier e) (all_name_checks seen es) (names_pass earlier e.action e.names none)
    ∙ all_pass seen es one_seen

-- ---- where the rarer actions are known

each_passes : {X : Type 0} (p : X → Bool) (xs : List X) (x : X) → list_all p xs ≡ true → Contains xs x → p x ≡ true
each_passes p xs x all at = elim (cases_Bool (p x)) as (λ _. p x ≡ true) [
  | inl here ↦ here
  | inr gone ↦ absurd (false≢true (sym (list_all_at p xs at.0 x at.1 (ap p at.2 ∙ gone)) ∙ all))
]

name_passes : (p : List ℕ → Bool) (names : List (List ℕ)) (name : List ℕ) → list_all p names ≡ true → list_any (bytes_eq name) names ≡ true → p name ≡ true
name_passes p [] name all has = cc
name_passes p (n ∷ names) name all has =
    let parts = both_true (p n) _ all in
    elim (cases_Bool (bytes_eq name n)) as (λ _. p name ≡ true) [
      | inl same ↦ ap p ((bytes_eq-Decides name n).0 same) ∙ parts.0
      | inr other ↦ name_passes p names name parts.1 (sym (ap (λ b. b || list_any (bytes_eq name) names) other) ∙ has)
    ]

list_any-filter : {X : Type 0} (p q : X → Bool) (xs : List X) → list_any q (filter p xs) ≡ list_any (λ x. p x && q x) xs
list_any-filter p q [] = refl
list_any-filter p q (x ∷ xs) =
    let rest = list_any-filter p q xs in
    elim (p x) as (λ b. list_any q (cond b (x ∷ filter p xs) (filter p xs)) ≡ ((b && q x) || list_any (λ y. p y && q y) xs)) [
      | true ↦ ap (λ b. q x || b) rest
      | false ↦ rest
    ]

module _ (common : Action) (es : List EntryValue) where
  abbrev is_rarer : EntryValue → Bool
  is_rarer e = not (has_action common e)

  -- an entry of a rarer action has the known one
  known : (name : List ℕ) (o : Option Action) → IsActionOf (filter is_rarer es) name o →
      (x : EntryValue) → Contains es x → is_rarer x ≡ true → has_name name x ≡ true → o ≡ Some x.action
  known name None none x at rarer has =
      absurd (false≢true (sym (none_of (λ e. is_rarer e && has_name name e) es x (sym (list_any-filter is_rarer (has_name name) es) ∙ none) at)
      ∙ ap (λ b. b && has_name name x) rarer ∙ has))
  known name (Some action) knows x at rarer has =
      let none = none_of (λ e. is_rarer e && contradicts name action e) es x (sym (list_any-filter is_rarer (contradicts name action) es) ∙ knows.1) at in
      ap Some (sym (same_action_is x.action action
      (not_false _ (sym (ap (λ b. b && contradicts name action x) rarer ∙ ap (λ b. b && not (same_action x.action action)) has) ∙ none))))

  -- and no entry of the common one has a known name, then each name has one action
  pub apart : (found : List ℕ → Option Action) → ((name : List ℕ) → IsActionOf (filter is_rarer es) name (found name)) →
      list_all (λ e. is_rarer e || list_all (λ name. not (is_some (found name))) e.names) es ≡ true → HasOneAction es
  apart found knows all d e in_d in_e name has_d has_e =
      let is : (x : EntryValue) → Contains es x → has_name name x ≡ true → has_action common x ≡ false → found name ≡ Some x.action =
      λ x at has rarer. known name (found name) (knows name) x at (ap not rarer) has in
      let unseen : (x : EntryValue) → Contains es x → has_name name x ≡ true → has_action common x ≡ true → not (is_some (found name)) ≡ true =
      λ x at has of_x. name_passes (λ n. not (is_some (found n))) x.names name
      (sym (ap (λ b. not b || list_all (λ n. not (is_some (found n))) x.names) of_x)
      ∙ each_passes (λ y. is_rarer y || list_all (λ n. not (is_some (found n))) y.names) es x all at) has in
      let clash : (x y : EntryValue) → Contains es x → Contains es y → has_name name x ≡ true → has_name name y ≡ true → has_action common x ≡ true → has_action common y ≡ false → ⊥ =
      λ x y in_x in_y has_x has_y of_x rarer. false≢true (sym (ap (λ o. not (is_some o)) (is y in_y has_y rarer)) ∙ unseen x in_x has_x of_x) in
      elim (cases_Bool (has_action common d)) as (λ _. d.action ≡ e.action) [
        | inl of_d ↦ elim (cases_Bool (has_action common e)) as (λ _. d.action ≡ e.action) [
          | inl of_e ↦ same_action_is d.action common of_d ∙ sym (same_action_is e.action common of_e)
          | inr rarer_e ↦ absurd (clash d e in_d in_e has_d has_e of_d rarer_e)
        ]
        | inr rarer_d ↦ elim (cases_Bool (has_action common e)) as (λ _. d.action ≡ e.action) [
          | inl of_e ↦ absurd (clash e d in_e in_d has_e has_d of_e rarer_d)
          | inr rarer_e ↦ ap (λ o. unwrap_or o d.action) (sym (is d in_d has_d rarer_d) ∙ is e in_e has_e rarer_e)
        ]
      ]

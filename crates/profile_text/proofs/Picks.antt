-- What a loop over the members of an object has picked up, and the sets of `capabilities` by their names.
use Rattle.std.proofs.Common.{◌≡◌, ◌∙◌, ℕ, ◌⊎◌, inl, inr, List, Bool, true, false, cond, Option, Some, None, option_map, bytes_eq, refl, sym, ap, subst}
use Rattle.std.proofs.lemmas.Bool.{cases_Bool}
use Rattle.std.proofs.lemmas.Slice.Eq.{bytes_eq-Decides}
use Rattle.std.specs.Option.{option_map_or}
use Rattle.std.specs.Prelude.{codes}
use Rattle.serde_json.specs.Data.{Data, Members, no_members, member}
use Rattle.seccomp_doc.specs.Parts.{FilterPartsValue}
use Rattle.profile_text.specs.declared.document.Found.{Found}
use Rattle.profile_text.specs.declared.sets.CapSet.{CapSet}
use Rattle.profile_text.specs.declared.sets.CapSet.TheVariants.{Ambient, Bounding, Effective, Inheritable, Permitted}
use Rattle.profile_text.specs.declared.sets.Sets.{Sets}
use Rattle.profile_text.specs.Document.{caps_row, caps_rows}
use Rattle.profile_text.specs.FilterParts.{seccomp_in}
use Rattle.profile_text.specs.Parts.{found_in, found_with}
use Rattle.profile_text.specs.Sets.{set_name, set_named, set_of, sets_of, sets_in, sets_with, no_sets}
use Rattle.profile_text.specs.Shape.{member_from, members_over, row_named}

-- what the members say of a name, where so far it is a
abbrev pub picked : {A : Type 0} → (Option Data → A) → List ℕ → A → Members → A
picked g name a no_members = a
picked g name a (member n d ms) = picked g name (cond (bytes_eq n name) (g (Some d)) a) ms

of_choice : {A : Type 0} (g : Option Data → A) (b : Bool) (d : Data) (found : Option Data) → g (cond b (Some d) found) ≡ cond b (g (Some d)) (g found)
of_choice g true d found = refl
of_choice g false d found = refl

pub member_picked : {A : Type 0} (g : Option Data → A) (name : List ℕ) (found : Option Data) (ms : Members) → g (member_from found name ms) ≡ picked g name (g found) ms
member_picked g name found no_members = refl
member_picked g name found (member n d ms) =
    member_picked g name (cond (bytes_eq n name) (Some d) found) ms
    ∙ ap (λ a. picked g name a ms) (of_choice g (bytes_eq n name) d found)

abbrev pub set_or_none : Option Data → ℕ
set_or_none o = option_map_or set_of o 0

-- the sets so far, with those that the members name
abbrev pub filled : Sets → Members → Sets
filled s ms = record {
  ambient = picked set_or_none (codes "ambient") s.ambient ms;
  bounding = picked set_or_none (codes "bounding") s.bounding ms;
  effective = picked set_or_none (codes "effective") s.effective ms;
  inheritable = picked set_or_none (codes "inheritable") s.inheritable ms;
  permitted = picked set_or_none (codes "permitted") s.permitted ms;
}

same_sets : (s t : Sets) → s.ambient ≡ t.ambient → s.bounding ≡ t.bounding → s.effective ≡ t.effective → s.inheritable ≡ t.inheritable → s.permitted ≡ t.permitted → s ≡ t
same_sets s t a b e i p =
    ap {B = Sets} (λ (x : ℕ). record { ambient = x; bounding = s.bounding; effective = s.effective; inheritable = s.inheritable; permitted = s.permitted }) a
    ∙ ap {B = Sets} (λ (x : ℕ). record { ambient = t.ambient; bounding = x; effective = s.effective; inheritable = s.inheritable; permitted = s.permitted }) b
    ∙ ap {B = Sets} (λ (x : ℕ). record { ambient = t.ambient; bounding = t.bounding; effective = x; inheritable = s.inheritable; permitted = s.permitted }) e
    ∙ ap {B = Sets} (λ (x : ℕ). record { ambient = t.ambient; bounding = t.bounding; effective = t.effective; inheritable = x; permitted = s.permitted }) i
    ∙ ap {B = Sets} (λ (x : ℕ). record { ambient = t.ambient; bounding = t.bounding; effective = t.effective; inheritable = t.inheritable; permitted = x }) p

pub sets_filled : (ms : Members) → sets_in ms ≡ filled no_sets ms
unfolding sets_in
sets_filled ms = same_sets _ _
    (member_picked set_or_none (codes "ambient") None ms)
    (member_picked set_or_none (codes "bounding") None ms)
    (member_picked set_or_none (codes "effective") None ms)
    (member_picked set_or_none (codes "inheritable") None ms)
    (member_picked set_or_none (codes "permitted") None ms)

-- the sets with the member of a name, by testing the name for each
abbrev branched : List ℕ → Data → Sets → Sets
branched n d s = record {
  ambient = cond (bytes_eq n (codes "ambient")) (set_of d) s.ambient;
  bounding = cond (bytes_eq n (codes "bounding")) (set_of d) s.bounding;
  effective = cond (bytes_eq n (codes "effective")) (set_of d) s.effective;
  inheritable = cond (bytes_eq n (codes "inheritable")) (set_of d) s.inheritable;
  permitted = cond (bytes_eq n (codes "permitted")) (set_of d) s.permitted;
}

-- a name is that of no set
pub record IsNoSet (n : List ℕ) : Type 0 where
  pub ambient : bytes_eq n (codes "ambient") ≡ false
  pub bounding : bytes_eq n (codes "bounding") ≡ false
  pub effective : bytes_eq n (codes "effective") ≡ false
  pub inheritable : bytes_eq n (codes "inheritable") ≡ false
  pub permitted : bytes_eq n (codes "permitted") ≡ false

pub same_name : (a b : List ℕ) → bytes_eq a b ≡ true → a ≡ b
same_name a b e = (bytes_eq-Decides a b).0 e

-- a name is that of a set, or of none
pub name_cases : (n : List ℕ) → ((set : CapSet) × (n ≡ set_name set)) ⊎ IsNoSet n
name_cases n =
    let Told : Type 0 = ((set : CapSet) × (n ≡ set_name set)) ⊎ IsNoSet n in
    elim (cases_Bool (bytes_eq n (codes "ambient"))) as (λ _. Told) [
      | inl is ↦ inl (Ambient, same_name n _ is)
      | inr a ↦ elim (cases_Bool (bytes_eq n (codes "bounding"))) as (λ _. Told) [
        | inl is ↦ inl (Bounding, same_name n _ is)
        | inr b ↦ elim (cases_Bool (bytes_eq n (codes "effective"))) as (λ _. Told) [
          | inl is ↦ inl (Effective, same_name n _ is)
          | inr e ↦ elim (cases_Bool (bytes_eq n (codes "inheritable"))) as (λ _. Told) [
            | inl is ↦ inl (Inheritable, same_name n _ is)
            | inr i ↦ elim (cases_Bool (bytes_eq n (codes "permitted"))) as (λ _. Told) [
              | inl is ↦ inl (Permitted, same_name n _ is)
              | inr p ↦ inr (record { ambient = a; bounding = b; effective = e; inheritable = i; permitted = p })
            ]
          ]
        ]
      ]
    ]

branched_at : (set : CapSet) (d : Data) (s : Sets) → branched (set_name set) d s ≡ sets_with (set_named (set_name set)) d s
unfolding set_named
branched_at Ambient d s = refl
branched_at Bounding d s = refl
branched_at Effective d s = refl
branched_at Inheritable d s = refl
branched_at Permitted d s = refl

branched_none : (n : List ℕ) (d : Data) (s : Sets) → IsNoSet n → branched n d s ≡ sets_with (set_named n) d s
unfolding set_named
branched_none n d s h = rw (h.ambient, h.bounding, h.effective, h.inheritable, h.permitted) refl

branched_is : (n : List ℕ) (d : Data) (s : Sets) → branched n d s ≡ sets_with (set_named n) d s
branched_is n d s =
    let P : List ℕ → Type 0 = λ m. branched m d s ≡ sets_with (set_named m) d s in
    elim (name_cases n) as (λ _. P n) [ inl named ↦ subst P (sym named.1) (branched_at named.0 d s) | inr none ↦ branched_none n d s none ]

-- one more member of `capabilities`
pub filled_more : (n : List ℕ) (d : Data) (s : Sets) (ms : Members) → filled s (member n d ms) ≡ filled (sets_with (set_named n) d s) ms
filled_more n d s ms = ap (λ t. filled t ms) (branched_is n d s)

pub row_at : (set : CapSet) → row_named caps_rows (set_name set) ≡ option_map caps_row (set_named (set_name set))
unfolding set_named
row_at Ambient = refl
row_at Bounding = refl
row_at Effective = refl
row_at Inheritable = refl
row_at Permitted = refl

pub row_none : (n : List ℕ) → IsNoSet n → row_named caps_rows n ≡ option_map caps_row (set_named n)
unfolding set_named
row_none n h = rw (h.ambient, h.bounding, h.effective, h.inheritable, h.permitted) refl

-- the row of a set's name
pub row_is : (n : List ℕ) → row_named caps_rows n ≡ option_map caps_row (set_named n)
row_is n =
    elim (name_cases n) as (λ _. row_named caps_rows n ≡ option_map caps_row (set_named n)) [
      | inl named ↦ subst (λ m. row_named caps_rows m ≡ option_map caps_row (set_named m)) (sym named.1) (row_at named.0)
      | inr none ↦ row_none n none
    ]

abbrev seccomp_or_none : Option Data → Option FilterPartsValue
seccomp_or_none o = option_map_or seccomp_in o None

-- what was found of the document so far, with what the members give
abbrev pub found_over : Found → Members → Found
found_over found ms = record {
  sets = picked (option_map sets_of) (codes "capabilities") found.sets ms;
  filter = picked seccomp_or_none (codes "seccomp") found.filter ms;
}

abbrev pub nothing_found : Found
nothing_found = record { sets = None; filter = None }

pub found_filled : (ms : Members) → found_in ms ≡ found_over nothing_found ms
found_filled ms =
    let with_sets : Option Sets → Found = λ x. record { sets = x; filter = (found_in ms).filter } in
    let with_filter : Option FilterPartsValue → Found = λ x. record { sets = (found_over nothing_found ms).sets; filter = x } in
    ap with_sets (member_picked (option_map sets_of) (codes "capabilities") None ms)
    ∙ ap with_filter (member_picked seccomp_or_none (codes "seccomp") None ms)

found_over_members : (found : Found) (ms : Members) → members_over found_with found ms ≡ found_over found ms
found_over_members found no_members = refl
found_over_members found (member n d ms) = found_over_members (found_with n d found) ms

-- what a loop over the members of a document finds
pub found_by_members : (ms : Members) → members_over found_with nothing_found ms ≡ found_in ms
found_by_members ms = found_over_members nothing_found ms ∙ sym (found_filled ms)

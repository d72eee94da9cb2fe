-- What is found by its word.
use Rattle.std.proofs.Common.{◌≡◌, ℕ, cond, List, [], ◌∷◌, Some, inl, inr, refl, sym, subst, bytes_eq}
use Rattle.std.proofs.lemmas.Bool.{cases_Bool}
use Rattle.std.proofs.lemmas.Slice.Eq.{bytes_eq-Decides}
use Rattle.std.specs.Prelude.{IfSome, find}
use Rattle.office_words.specs.declared.role.Role.{Role}
use Rattle.office_words.specs.declared.role.Role.TheVariants.{Registrar, Author, Reviewer, Security, Issuer, Machine}
use Rattle.office_words.specs.WordTables.{all_roles, role_of, role_word}

-- what is found has the word
pub found_by_word : {A : Type 0} (word : A → List ℕ) (text : List ℕ) (among : List A)
    → IfSome (find (λ a. bytes_eq text (word a)) among) (λ a. word a ≡ text)
found_by_word word text [] = tt
found_by_word {A} word text (a ∷ among) =
    elim (cases_Bool (bytes_eq text (word a)))
    as (λ _. IfSome (cond (bytes_eq text (word a)) (Some a) (find (λ b. bytes_eq text (word b)) among)) (λ b. word b ≡ text)) [
      | inl same ↦ rw same (sym ((bytes_eq-Decides text (word a)).0 same))
      | inr other ↦ rw other (found_by_word word text among)
    ]

pub found_role : (text : List ℕ) → IfSome (role_of text) (λ role. role_word role ≡ text)
found_role text = found_by_word role_word text all_roles

each_found : (role : Role) → role_of (role_word role) ≡ Some role
each_found Registrar = refl
each_found Author = refl
each_found Reviewer = refl
each_found Security = refl
each_found Issuer = refl
each_found Machine = refl

-- and each role is found by its word
pub known_role : (text : List ℕ) (role : Role) → role_word role ≡ text → role_of text ≡ Some role
known_role text role is = subst (λ (t : List ℕ). role_of t ≡ Some role) is (each_found role)

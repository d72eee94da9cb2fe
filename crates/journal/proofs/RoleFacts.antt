-- The words of a set of roles, read.
use Rattle.std.proofs.Common.{◌≡◌, ◌∙◌, ℕ, ◌^◌, ◌<◌, ◌==◌, List, [], ◌∷◌, map, Some, Bool, true, false, cond, refl, ap, eqb-true}
use Rattle.std.specs.Prelude.{filter}
use Rattle.std.specs.Int.RustNames.{bit_or}
use Rattle.serde_json.specs.Data.{string}
use Rattle.serde_json.specs.View.{items_of}
use Rattle.office_words.specs.Role.{has_role, place_of}
use Rattle.office_words.specs.WordTables.{all_roles, role_word}
use Rattle.office_words.specs.declared.role.Role.{Role}
use Rattle.office_words.proofs.WordFacts.{known_role}
use Rattle.json_requests.specs.Members.{roles_of}
use Rattle.office_words.specs.WordTables.{role_words, words_among}
use Rattle.journal.proofs.Tables.{each_below}

-- the set of those of these roles that are in a set
abbrev set_among : ℕ → List Role → ℕ
set_among roles [] = 0
set_among roles (r ∷ among) = cond (has_role roles r) (bit_or (2 ^ place_of r) (set_among roles among)) (set_among roles among)

words_read : (roles : ℕ) (among : List Role) → roles_of (items_of (map string (words_among roles among))) ≡ Some (set_among roles among)
words_read roles [] = refl
words_read roles (r ∷ among) =
    elim (has_role roles r) as (λ b. roles_of (items_of (map string (map role_word (cond b (r ∷ filter (has_role roles) among) (filter (has_role roles) among)))))
    ≡ Some (cond b (bit_or (2 ^ place_of r) (set_among roles among)) (set_among roles among))) [
      | true ↦ rw (known_role (role_word r) r refl, words_read roles among) refl
      | false ↦ words_read roles among
    ]

-- the set of all six is the set
abbrev is_whole : ℕ → Bool
is_whole roles = set_among roles all_roles == roles

pub roles_back : (roles : ℕ) → roles < 2 ^ 6 → roles_of (items_of (map string (role_words roles))) ≡ Some roles
roles_back roles small = words_read roles all_roles ∙ ap (λ x. Some x) (eqb-true (set_among roles all_roles) roles (each_below is_whole 64 roles refl small))

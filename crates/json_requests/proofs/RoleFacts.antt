-- The words of a set's roles, written one after another.
use Rattle.std.proofs.Common.{◌≡◌, ◌∙◌, ℕ, ◌+◌, ◌<◌, ◌≤◌, List, [], ◌∷◌, ◌++◌, length, get_or, drop, map, true, false, cond, refl, sym, ap, append_assoc}
use Rattle.std.proofs.lemmas.List.{drop_all, drop_more}
use Rattle.std.specs.Prelude.{filter}
use Rattle.json.specs.Token.{Token}
use Rattle.serde_json.specs.Data.{string}
use Rattle.json_tree.specs.Tokens.{Appends}
use Rattle.json_tree.proofs.Writing.{Leaves, all_tokens, leaves_none}
use Rattle.office_words.specs.Role.{has_role}
use Rattle.office_words.specs.WordTables.{role_word}
use Rattle.office_words.specs.declared.role.Role.{Role}
use Rattle.office_words.specs.WordTables.{words_among}

role_step : (roles : ℕ) (r : Role) (rest : List Role) → all_tokens string (words_among roles (r ∷ rest)) ≡ all_tokens string (words_among roles (r ∷ [])) ++ all_tokens string (words_among roles rest)
role_step roles r rest =
    elim (has_role roles r) as (λ b. all_tokens string (map role_word (cond b (r ∷ filter (has_role roles) rest) (filter (has_role roles) rest)))
    ≡ all_tokens string (map role_word (cond b (r ∷ []) [])) ++ all_tokens string (map role_word (filter (has_role roles) rest))) [
      | true ↦ refl
      | false ↦ refl
    ]

-- with one more written, what is left is less by it
pub role_written : (roles : ℕ) (among : List Role) (i : ℕ) (d : Role) {a b c : List Token} → i < length among
    → Leaves string (words_among roles among) (words_among roles (drop i among)) a b → Appends b c (all_tokens string (words_among roles (get_or among i d ∷ [])))
    → Leaves string (words_among roles among) (words_among roles (drop (i + 1) among)) a c
role_written roles among i d {a} {b} {c} lt before more =
    let r = get_or among i d in
    let rest = all_tokens string (words_among roles (drop (i + 1) among)) in
    record {
      tokens =
          ap (λ ts. ts ++ rest) more.tokens
          ∙ append_assoc b (all_tokens string (words_among roles (r ∷ []))) rest
          ∙ ap (λ ts. b ++ ts) (sym (role_step roles r (drop (i + 1) among)) ∙ ap (λ rs. all_tokens string (words_among roles rs)) (sym (drop_more among i d lt)))
          ∙ before.tokens;
    }

pub roles_written : (roles : ℕ) (among : List Role) (i : ℕ) {a b : List Token} → length among ≤ i
    → Leaves string (words_among roles among) (words_among roles (drop i among)) a b → Appends a b (all_tokens string (words_among roles among))
roles_written roles among i ge before = leaves_none before (ap (words_among roles) (drop_all i among ge))

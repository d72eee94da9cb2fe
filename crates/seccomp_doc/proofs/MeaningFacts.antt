-- The meaning of a filter is the action of any entry that matches.
use Rattle.std.proofs.Common.{◌≡◌, ◌∙◌, ap, refl, sym, ℕ, List, [], ◌∷◌, Bool, true, false, cond, ◌&&◌, ◌||◌, Some, All, Contains, inl, inr}
use Rattle.std.specs.Prelude.{find}
use Rattle.std.specs.List.{list_any}
use Rattle.std.specs.Option.{option_map_or}
use Rattle.std.proofs.lemmas.Bool.{cases_Bool}
use Rattle.std.proofs.lemmas.List.Elements.{All-contains_itself, All-head, All-tail, All-weaker}
use Rattle.std.proofs.lemmas.List.Folds.{list_any_at}
use Rattle.seccomp_doc.specs.declared.action.Action.{Action}
use Rattle.seccomp_doc.specs.Filter.{EntryValue, FilterValue}
use Rattle.seccomp_doc.specs.Lawful.{IsLawfulFilter}
use Rattle.seccomp_doc.specs.Meaning.{admits_words, has_name, is_match, meaning}
use Rattle.seccomp_doc.proofs.EntryFacts.{both_false}

first_true : (a b : Bool) → (a && b) ≡ true → a ≡ true
first_true true b e = refl
first_true false b e = cc

-- the action of the first that passes, else another
abbrev first_action : (EntryValue → Bool) → Action → List EntryValue → Action
first_action test default es = option_map_or (λ e. e.action) (find test es) default

-- where each entry that passes has one action, the first that passes has it
first_has : (test : EntryValue → Bool) (default action : Action) (es : List EntryValue) → All (λ e. test e ≡ true → e.action ≡ action) es →
    list_any test es ≡ true → first_action test default es ≡ action
first_has test default action [] all some = cc
first_has test default action (e ∷ es) all some =
    elim (cases_Bool (test e)) as (λ _. first_action test default (e ∷ es) ≡ action) [
      | inl here ↦ ap (λ b. option_map_or (λ x. x.action) (cond b (Some e) (find test es)) default) here ∙ All-head (λ x. test x ≡ true → x.action ≡ action) e es all here
      | inr gone ↦
          ap (λ b. option_map_or (λ x. x.action) (cond b (Some e) (find test es)) default) gone
          ∙ first_has test default action es (All-tail (λ x. test x ≡ true → x.action ≡ action) e es all) (sym (ap (λ b. b || list_any test es) gone) ∙ some)
    ]

first_none : (test : EntryValue → Bool) (default : Action) (es : List EntryValue) → list_any test es ≡ false → first_action test default es ≡ default
first_none test default [] none = refl
first_none test default (e ∷ es) none =
    let parts = both_false (test e) (list_any test es) none in
    ap (λ b. option_map_or (λ x. x.action) (cond b (Some e) (find test es)) default) parts.0 ∙ first_none test default es parts.1

pub meaning-matched : (f : FilterValue) → IsLawfulFilter f → (name words : List ℕ) → (e : EntryValue) → Contains f.entries e → is_match name words e ≡ true → meaning f name words ≡ e.action
meaning-matched f lawful name words e in_e matches =
    let has = first_true (has_name name e) (admits_words e.args words) matches in
    first_has (is_match name words) f.default e.action f.entries
    (All-weaker (Contains f.entries) (λ d. is_match name words d ≡ true → d.action ≡ e.action)
    (λ d in_d matched. lawful.one_action d e in_d in_e name (first_true (has_name name d) (admits_words d.args words) matched) has)
    f.entries (All-contains_itself f.entries))
    (list_any_at (is_match name words) f.entries in_e.0 e in_e.1 (ap (is_match name words) in_e.2 ∙ matches))

pub meaning-unmatched : (f : FilterValue) → (name words : List ℕ) → list_any (is_match name words) f.entries ≡ false → meaning f name words ≡ f.default
meaning-unmatched f name words none = first_none (is_match name words) f.default f.entries none

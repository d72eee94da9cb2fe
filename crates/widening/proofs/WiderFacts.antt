-- Names that are looked at once.
use Rattle.std.proofs.Common.{◌≡◌, ◌∙◌, ap, refl, sym, ℕ, ◌+◌, ◌<◌, List, [], ◌∷◌, ◌++◌, Bool, true, false, not, ◌&&◌, length, take, get_or, bytes_eq, inl, inr}
use Rattle.std.specs.List.{list_any}
use Rattle.std.proofs.lemmas.Bool.{and_from, and_parts, cases_Bool, both_ways, false_from_ne_true, not-false, or_from}
use Rattle.std.proofs.lemmas.List.{take_more}
use Rattle.std.proofs.lemmas.List.Concat.{flat_map-append}
use Rattle.std.proofs.lemmas.List.Folds.{list_any-append, list_any_at, list_any_more}
use Rattle.seccomp_doc.specs.Filter.{EntryValue}
use Rattle.seccomp_doc.specs.Meaning.{has_name}
use Rattle.widening.specs.Calls.{entry_names}
use Rattle.widening.specs.Texts.{lists}
use Rattle.widening.proofs.Searches.{and_true, list_any-flat_map, list_any-weaker}
use Rattle.widening.proofs.TextFacts.{passes_where_listed}

-- a name that stands before, or that fails, changes nothing
pub new_name_more : (p : List ℕ → Bool) (names earlier : List (List ℕ)) (i : ℕ) (name shown : List ℕ) (told : Bool) →
    i < length names → name ≡ get_or names i name → shown ≡ name → list_any p (take i names) ≡ false →
    told ≡ (not (lists earlier shown) && p shown) → told ≡ false → earlier ≡ take i names →
    list_any p (take (i + 1) names) ≡ false
new_name_more p names earlier i name shown told within is same none tells denied seen =
    let here : (not (lists (take i names) name) && p name) ≡ false =
    ap (λ n. not (lists (take i names) n) && p n) (sym same) ∙ ap (λ ns. not (lists ns shown) && p shown) (sym seen) ∙ sym tells ∙ denied in
    let fails : p name ≡ false = elim (cases_Bool (p name)) as (λ _. p name ≡ false) [
      | inl passes ↦
          let listed : lists (take i names) name ≡ true = not-false _ (sym (and_true (not (lists (take i names) name))) ∙ ap (λ b. not (lists (take i names) name) && b) (sym passes) ∙ here) in
          absurd (both_ways _ none (passes_where_listed p (take i names) name passes listed))
      | inr gone ↦ gone
    ] in
    list_any_more p names i name within ∙ or_from (list_any p (take i names)) (p (get_or names i name)) none (ap p (sym is) ∙ fails)

-- whether the entries have a name
pub lists-names : (name : List ℕ) (es : List EntryValue) → lists (entry_names es) name ≡ list_any (has_name name) es
lists-names name es = list_any-flat_map (bytes_eq name) (λ e. e.names) es

-- a name of the entry at a place passes
pub call_found : (p : List ℕ → Bool) (es earlier : List EntryValue) (i : ℕ) (e : EntryValue) (names : List (List ℕ)) (told : Bool) →
    i < length es → e ≡ get_or es i e → names ≡ e.names → told ≡ list_any (λ n. not (list_any (has_name n) earlier) && p n) names → told ≡ true → earlier ≡ take i es →
    list_any p (entry_names es) ≡ true
call_found p es earlier i e names told within is same tells yes_told seen =
    let some : list_any p names ≡ true = list_any-weaker (λ n. not (list_any (has_name n) earlier) && p n) p (λ n both. (and_parts (not (list_any (has_name n) earlier)) (p n) both).1) names (sym tells ∙ yes_told) in
    list_any-flat_map p (λ d. d.names) es
    ∙ list_any_at (λ d. list_any p d.names) es i e within (ap (λ d. list_any p d.names) (sym is) ∙ ap (list_any p) (sym same) ∙ some)

-- no name of the entry at a place passes, where those of earlier entries don't
pub call_none : (p : List ℕ → Bool) (es earlier : List EntryValue) (i : ℕ) (e : EntryValue) (names : List (List ℕ)) (told : Bool) →
    i < length es → e ≡ get_or es i e → names ≡ e.names → list_any p (entry_names (take i es)) ≡ false →
    told ≡ list_any (λ n. not (list_any (has_name n) earlier) && p n) names → told ≡ false → earlier ≡ take i es →
    list_any p (entry_names (take (i + 1) es)) ≡ false
call_none p es earlier i e names told within is same none tells denied seen =
    let passes_new : (n : List ℕ) → p n ≡ true → (not (list_any (has_name n) earlier) && p n) ≡ true = λ n passes.
    and_from (not (list_any (has_name n) earlier)) (p n)
    (ap not (ap (list_any (has_name n)) seen ∙ false_from_ne_true _ (λ named. both_ways _ none (passes_where_listed p (entry_names (take i es)) n passes (lists-names n (take i es) ∙ named)))))
    passes in
    let none_here : list_any p names ≡ false =
    false_from_ne_true _ (λ some. both_ways _ (sym tells ∙ denied) (list_any-weaker p (λ n. not (list_any (has_name n) earlier) && p n) passes_new names some)) in
    ap (λ ds. list_any p (entry_names ds)) (take_more es i e within ∙ ap (λ d. take i es ++ d ∷ []) (sym is))
    ∙ ap (list_any p) (flat_map-append (λ d. d.names) (take i es) (e ∷ []))
    ∙ list_any-append p (entry_names (take i es)) (entry_names (e ∷ []))
    ∙ or_from (list_any p (entry_names (take i es))) (list_any p (entry_names (e ∷ []))) none
    (list_any-append p e.names [] ∙ or_from (list_any p e.names) false (ap (list_any p) (sym same) ∙ none_here) refl)

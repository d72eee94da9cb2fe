-- What is known of an entry and others.
use Rattle.std.proofs.Common.{◌≡◌, ◌∙◌, ap, refl, sym, subst, ℕ, ◌+◌, ◌<◌, List, [], ◌∷◌, Bool, true, false, not, ◌||◌, ◌&&◌, Option, Some, None, get_or, length, set, take, drop, inl, inr}
use Rattle.std.specs.Prelude.{IfSome}
use Rattle.std.specs.List.{list_all, list_any}
use Rattle.std.specs.declared.vec.Vec.{Vec}
use Rattle.std.proofs.lemmas.Bool.{and_from, cases_eq, or_from}
use Rattle.std.proofs.lemmas.List.{drop_more, get_or_default, get_or-set_other, get_or-set_same, length-set}
use Rattle.std.proofs.lemmas.List.Folds.{list_all-append, list_any-append, list_any_at}
use Rattle.seccomp_doc.specs.Filter.{EntryValue}
use Rattle.implication.specs.Implication.{entry_implies}
use Rattle.widening.specs.Groups.{entries_at}
use Rattle.widening.specs.Memo.{AreRows, IsRow, IsRowOrEmpty}
use Rattle.widening.proofs.GroupFacts.{entries_at-more}
use Rattle.widening.proofs.Searches.{and_true, list_any-flat_map, or_none}

-- what stands in a row is returned
pub row_tells : (e : EntryValue) (others : List EntryValue) (row : List (Option Bool)) → IsRow e others row → (place : ℕ) → place < length row → (told : Bool) →
    get_or row place None ≡ Some told → (other : EntryValue) → told ≡ entry_implies e (get_or others place other)
row_tells e others row is place within told known other =
    subst (λ o. IfSome o (λ b. b ≡ entry_implies e (get_or others place other))) known (is place other within)

-- the row of an entry
pub row_at : {A : Type 0} (entries others : List EntryValue) (rows : List (Vec (Option Bool) A)) (place : ℕ) (e : EntryValue) (row : Vec (Option Bool) A) →
    AreRows entries others rows → place < length entries → e ≡ get_or entries place e → IsRowOrEmpty e others (get_or rows place row).items
row_at entries others rows place e row are within is =
    subst (λ d. IsRowOrEmpty d others (get_or rows place row).items) (sym is) (are.each place e row (subst (λ n. place < n) (sym are.count) within))

-- one that is implied at a place
pub implied_at : (test : EntryValue → Bool) (others : List EntryValue) (places : List ℕ) (i place : ℕ) (d : EntryValue) → i < length places → place ≡ get_or places i place →
    place < length others → test (get_or others place d) ≡ true → list_any test (entries_at others places) ≡ true
implied_at test others places i place d within is place_within passes =
    list_any-flat_map test (λ p. take 1 (drop p others)) places
    ∙ list_any_at (λ p. list_any test (take 1 (drop p others))) places i place within
    (ap (λ p. list_any test (take 1 (drop p others))) (sym is)
    ∙ ap (λ ds. list_any test (take 1 ds)) (drop_more others place d place_within)
    ∙ or_none (test (get_or others place d)) ∙ passes)

-- one more that isn't
pub none_more : (test : EntryValue → Bool) (others : List EntryValue) (places : List ℕ) (i place : ℕ) (d : EntryValue) → i < length places → place ≡ get_or places i place →
    place < length others → test (get_or others place d) ≡ false → list_any test (entries_at others (take i places)) ≡ false → list_any test (entries_at others (take (i + 1) places)) ≡ false
none_more test others places i place d within is place_within fails none =
    let e = get_or others place d in
    ap (list_any test) (entries_at-more others places i place e within is place_within (get_or_default others place d e place_within))
    ∙ list_any-append test (entries_at others (take i places)) (e ∷ [])
    ∙ or_from (list_any test (entries_at others (take i places))) (list_any test (e ∷ [])) none (or_none (test e) ∙ fails)

-- one more that passes, where all must
pub all_more : (test : EntryValue → Bool) (entries : List EntryValue) (places : List ℕ) (i place : ℕ) (d : EntryValue) → i < length places → place ≡ get_or places i place →
    place < length entries → test (get_or entries place d) ≡ true → list_all test (entries_at entries (take i places)) ≡ true → list_all test (entries_at entries (take (i + 1) places)) ≡ true
all_more test entries places i place d within is place_within passes all =
    let e = get_or entries place d in
    ap (list_all test) (entries_at-more entries places i place e within is place_within (get_or_default entries place d e place_within))
    ∙ list_all-append test (entries_at entries (take i places)) (e ∷ [])
    ∙ and_from (list_all test (entries_at entries (take i places))) (list_all test (e ∷ [])) all (and_true (test e) ∙ passes)

all_as_any : {X : Type 0} (p : X → Bool) (xs : List X) → list_any (λ x. not (p x)) xs ≡ true → list_all p xs ≡ false
all_as_any p [] some = cc
all_as_any p (x ∷ xs) some = elim (p x) as (λ b. (not b || list_any (λ y. not (p y)) xs) ≡ true → (b && list_all p xs) ≡ false) [
  | true ↦ λ later. all_as_any p xs later
  | false ↦ λ _. refl
] some

-- one that fails, where all must pass
pub one_fails : (test : EntryValue → Bool) (entries : List EntryValue) (places : List ℕ) (i place : ℕ) (d : EntryValue) → i < length places → place ≡ get_or places i place →
    place < length entries → test (get_or entries place d) ≡ false → list_all test (entries_at entries places) ≡ false
one_fails test entries places i place d within is place_within fails =
    all_as_any test (entries_at entries places) (implied_at (λ e. not (test e)) entries places i place d within is place_within (ap not fails))

-- the rows with one of them changed
pub row_changed : {A : Type 0} (entries others : List EntryValue) (rows : List (Vec (Option Bool) A)) (place : ℕ) (row : Vec (Option Bool) A) (e : EntryValue) →
    AreRows entries others rows → place < length rows → e ≡ get_or entries place e → IsRowOrEmpty e others row.items → AreRows entries others (set rows place row)
row_changed entries others rows place row e are within is changed = record {
  count = length-set rows place row ∙ are.count;
  each = λ p d r inside.
      let inside_old : p < length rows = subst (λ n. p < n) (length-set rows place row) inside in
      elim (cases_eq p place) as (λ _. IsRowOrEmpty (get_or entries p d) others (get_or (set rows place row) p r).items) [
        | inl same ↦
            let entry_is : e ≡ get_or entries p d = is ∙ ap (λ n. get_or entries n e) (sym same) ∙ get_or_default entries p e d (subst (λ n. p < n) are.count inside_old) in
            let row_is : row ≡ get_or (set rows place row) p r = sym (ap (λ n. get_or (set rows place row) n r) same ∙ get_or-set_same rows place row r within) in
            subst (λ x. IsRowOrEmpty (get_or entries p d) others x.items) row_is (subst (λ x. IsRowOrEmpty x others row.items) entry_is changed)
        | inr other ↦
            subst (λ x. IsRowOrEmpty (get_or entries p d) others x.items) (sym (get_or-set_other rows place p row r other)) (are.each p d r inside_old)
      ];
}

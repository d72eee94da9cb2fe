-- Lists of texts without repeats have the same texts.
use Rattle.std.proofs.Common.{◌≡◌, ◌∙◌, ap, refl, sym, ℕ, List, [], ◌∷◌, Bool, true, false, not, cond, ◌||◌, bytes_eq, inl, inr}
use Rattle.std.specs.Prelude.{filter}
use Rattle.std.specs.List.{dedup, dedup_from, list_any}
use Rattle.std.specs.List.Sorted.{IsPermutation}
use Rattle.std.specs.Ordering.{nat_cmp, match_ordering}
use Rattle.std.specs.declared.cmp.Ordering.{Ordering}
use Rattle.std.specs.declared.cmp.Ordering.TheVariants.{Less, Equal, Greater}
use Rattle.std.specs.Cmp.Lexicographic.{slice_cmp}
use Rattle.std.specs.Borrow.{Bor}
use Rattle.std.specs.BTreeSet.{insert_key}
use Rattle.std.proofs.lemmas.Bool.{cases_Bool, or_left, or_right}
use Rattle.std.proofs.lemmas.Bool.Decides.{same_from_decides}
use Rattle.std.proofs.lemmas.Map.Lookups.{exact_bytes}
use Rattle.std.proofs.lemmas.List.Sorted.{list_any-IsPermutation}
use Rattle.std.proofs.lemmas.Slice.Eq.{bytes_eq-Decides}
use Rattle.widening.specs.Texts.{each_once, in_byte_order, lists, put_in_order, texts_in}
use Rattle.widening.proofs.Searches.{or_none}

-- equality of texts, the other way round
pub bytes_eq-swap : (a b : List ℕ) → bytes_eq a b ≡ bytes_eq b a
bytes_eq-swap a b = let other = bytes_eq-Decides b a in same_from_decides _ _ (bytes_eq-Decides a b) ((λ e. sym (other.0 e)), (λ e. other.1 (sym e)))

or_swap : (a b c : Bool) → (a || (b || c)) ≡ (b || (a || c))
or_swap true true c = refl
or_swap true false c = refl
or_swap false b c = refl

or_twice : (a b : Bool) → (a || b) ≡ (a || (a || b))
or_twice true b = refl
or_twice false b = refl

or_comm : (a b : Bool) → (a || b) ≡ (b || a)
or_comm true true = refl
or_comm true false = refl
or_comm false true = refl
or_comm false false = refl

or_assoc : (a b c : Bool) → ((a || b) || c) ≡ (a || (b || c))
or_assoc true b c = refl
or_assoc false b c = refl

module _ (p : List ℕ → Bool) where
  list_any-placed : (o : Ordering) (k x : List ℕ) (xs more : List (List ℕ)) → (o ≡ Equal → k ≡ x) → list_any p more ≡ (p k || list_any p xs) →
      list_any p (match_ordering o (k ∷ x ∷ xs) (x ∷ xs) (x ∷ more)) ≡ (p k || (p x || list_any p xs))
  list_any-placed Less k x xs more same later = refl
  list_any-placed Equal k x xs more same later = or_twice (p x) (list_any p xs) ∙ ap (λ y. p y || (p x || list_any p xs)) (sym (same refl))
  list_any-placed Greater k x xs more same later = ap (λ b. p x || b) later ∙ or_swap (p x) (p k) (list_any p xs)

  -- one text more, at its place
  list_any-insert_key : (xs : List (List ℕ)) (k : List ℕ) → list_any p (insert_key (slice_cmp nat_cmp) xs k) ≡ (p k || list_any p xs)
  list_any-insert_key [] k = refl
  list_any-insert_key (x ∷ xs) k =
      list_any-placed (slice_cmp nat_cmp k x) k x xs (insert_key (slice_cmp nat_cmp) xs k) (exact_bytes k x) (list_any-insert_key xs k)

  pub list_any-put_in_order : (ordered texts : List (List ℕ)) → list_any p (put_in_order ordered texts) ≡ (list_any p ordered || list_any p texts)
  list_any-put_in_order ordered [] = sym (or_none (list_any p ordered))
  list_any-put_in_order ordered (text ∷ texts) =
      list_any-put_in_order (insert_key (slice_cmp nat_cmp) ordered text) texts
      ∙ ap (λ b. b || list_any p texts) (list_any-insert_key ordered text ∙ or_comm (p text) (list_any p ordered))
      ∙ or_assoc (list_any p ordered) (p text) (list_any p texts)

  -- a list in byte order has the same texts
  pub list_any-in_byte_order : (texts : List (List ℕ)) → list_any p (in_byte_order texts) ≡ list_any p texts
  list_any-in_byte_order texts = list_any-put_in_order [] texts

  -- without what equals a text that fails, the same pass
  others_same : (text : List ℕ) (b : Bool) (xs : List (List ℕ)) → p text ≡ b → (b || list_any p (filter (λ other. not (bytes_eq text other)) xs)) ≡ (b || list_any p xs)
  others_same text true xs here = refl
  others_same text false [] gone = refl
  others_same text false (x ∷ xs) gone =
      elim (cases_Bool (bytes_eq text x)) as (λ _. list_any p (filter (λ other. not (bytes_eq text other)) (x ∷ xs)) ≡ list_any p (x ∷ xs)) [
        | inl same ↦
            ap (λ b. list_any p (cond (not b) (x ∷ filter (λ other. not (bytes_eq text other)) xs) (filter (λ other. not (bytes_eq text other)) xs))) same
            ∙ others_same text false xs gone
            ∙ ap (λ b. b || list_any p xs) (sym gone ∙ ap p ((bytes_eq-Decides text x).0 same))
        | inr other ↦
            ap (λ b. list_any p (cond (not b) (x ∷ filter (λ other. not (bytes_eq text other)) xs) (filter (λ other. not (bytes_eq text other)) xs))) other
            ∙ ap (λ b. p x || b) (others_same text false xs gone)
      ]

  -- a list of each text once has the same texts
  pub list_any-each_once : (texts : List (List ℕ)) → list_any p (each_once texts) ≡ list_any p texts
  list_any-each_once [] = refl
  list_any-each_once (text ∷ texts) = others_same text (p text) (each_once texts) refl ∙ ap (λ b. p text || b) (list_any-each_once texts)

-- a text that passes is in the list
pub passes_where_listed : (p : List ℕ → Bool) (texts : List (List ℕ)) (text : List ℕ) → p text ≡ true → lists texts text ≡ true → list_any p texts ≡ true
passes_where_listed p [] text passes listed = listed
passes_where_listed p (t ∷ ts) text passes listed =
    elim (cases_Bool (bytes_eq text t)) as (λ _. list_any p (t ∷ ts) ≡ true) [
      | inl same ↦ or_left (p t) (list_any p ts) (ap p (sym ((bytes_eq-Decides text t).0 same)) ∙ passes)
      | inr other ↦ or_right (p t) (list_any p ts) (passes_where_listed p ts text passes (sym (ap (λ b. b || lists ts text) other) ∙ listed))
    ]

-- ---- texts that are referred to, put in order and each left once

abbrev same_text : Bor (List ℕ) → Bor (List ℕ) → Bool
same_text x y = bytes_eq x.now y.now

module _ (p : List ℕ → Bool) where
  any_shown : (xs : List (Bor (List ℕ))) → list_any p (texts_in xs) ≡ list_any (λ x. p x.now) xs
  any_shown [] = refl
  any_shown (x ∷ xs) = ap (λ b. p x.now || b) (any_shown xs)

  any_kept : (k : Bor (List ℕ)) (xs : List (Bor (List ℕ))) → list_any (λ x. p x.now) (dedup_from same_text k xs) ≡ (p k.now || list_any (λ x. p x.now) xs)
  any_kept k [] = refl
  any_kept k (x ∷ xs) =
      elim (cases_Bool (same_text x k)) as (λ _. list_any (λ y. p y.now) (dedup_from same_text k (x ∷ xs)) ≡ (p k.now || (p x.now || list_any (λ y. p y.now) xs))) [
        | inl same ↦
            ap (λ b. list_any (λ y. p y.now) (cond b (dedup_from same_text k xs) (k ∷ dedup_from same_text x xs))) same
            ∙ any_kept k xs
            ∙ or_twice (p k.now) (list_any (λ y. p y.now) xs)
            ∙ ap (λ b. p k.now || (b || list_any (λ y. p y.now) xs)) (ap p (sym ((bytes_eq-Decides x.now k.now).0 same)))
        | inr other ↦
            ap (λ b. list_any (λ y. p y.now) (cond b (dedup_from same_text k xs) (k ∷ dedup_from same_text x xs))) other
            ∙ ap (λ b. p k.now || b) (any_kept x xs)
      ]

  any_once : (xs : List (Bor (List ℕ))) → list_any (λ x. p x.now) (dedup same_text xs) ≡ list_any (λ x. p x.now) xs
  any_once [] = refl
  any_once (x ∷ xs) = any_kept x xs

  pub any_sorted_once : (old sorted : List (Bor (List ℕ))) → IsPermutation old sorted → list_any p (texts_in (dedup same_text sorted)) ≡ list_any p (texts_in old)
  any_sorted_once old sorted moved =
      any_shown (dedup same_text sorted) ∙ any_once sorted ∙ sym (list_any-IsPermutation (λ x. p x.now) old sorted moved) ∙ sym (any_shown old)

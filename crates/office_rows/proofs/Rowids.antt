-- Rows under rowids of their own: what taking some out and putting one in makes of the entries.
use Rattle.std.proofs.Common.{inl, inr, ◌≡◌, ℤ, List, [], ◌∷◌, ◌++◌, map, Bool, true, false, not, cond, refl, sym, ap, ◌∙◌, true≢false}
use Rattle.std.specs.Prelude.{filter, ◌&&◌, ◌||◌}
use Rattle.std.specs.List.{list_any, AllByRecursion}
use Rattle.std.specs.Cmp.{both_ways}
use Rattle.std.specs.Ordering.{is_eq, match_ordering}
use Rattle.std.specs.declared.cmp.Ordering.{Ordering}
use Rattle.std.specs.declared.cmp.Ordering.TheVariants.{Less, Equal, Greater}
use Rattle.std.specs.List.Sorted.{IsPermutation}
use Rattle.std.proofs.lemmas.List.Sorted.{IsPermutation-refl, IsPermutation-trans, IsPermutation-sym, IsPermutation-map, IsPermutation-cons, IsPermutation-middle, Contains-permutation}
use Rattle.sqlite.specs.declared.types.Value.TheVariants.{Int}
use Rattle.sqlite.specs.Order.{Row}
use Rattle.sqlite_value.specs.Order.{value_cmp}
use Rattle.sqlite_value.proofs.OrderLemmas.{value_cmp_total}
use Rattle.sqlite_trees.specs.Tree.{has_rowid, without_rowid, put_row}
use Rattle.sqlite_trees.proofs.ListLemmas.{filter-map, ascending-filter, filter_all, IsPermutation-filter}
use Rattle.sqlite_rules.specs.Edit.{without_all, put_all, is_taken, are_fresh}
use Rattle.sqlite_rules.specs.Lists.{Has}
use Rattle.sqlite_rules.proofs.ListLemmas.{all_has, all_from, some_has, some_from, has_filtered, has_kept, has_contained, contains_had}
use Rattle.office_rows.specs.Entries.{Keeps, row_of, AreApart}

pub has_mapped : {A B : Type 0} (f : A → B) (xs : List A) (y : B) → Has (map f xs) y → (x : A) × Has xs x × (y ≡ f x)
has_mapped f [] y none = absurd none
has_mapped f (x ∷ xs) y (inl is) = (x, inl refl, is)
has_mapped f (x ∷ xs) y (inr more) = let it = has_mapped f xs y more in (it.0, inr it.1, it.2)

pub mapped_has : {A B : Type 0} (f : A → B) (xs : List A) (x : A) → Has xs x → Has (map f xs) (f x)
mapped_has f [] x none = none
mapped_has f (y ∷ xs) x (inl is) = inl (ap f is)
mapped_has f (y ∷ xs) x (inr more) = inr (mapped_has f xs x more)

pub has_permuted : {A : Type 0} (xs ys : List A) (x : A) → IsPermutation xs ys → Has xs x → Has ys x
has_permuted xs ys x same h = has_contained ys x (Contains-permutation xs ys x same (contains_had xs x h))

filter_same : {A : Type 0} (p q : A → Bool) (xs : List A) → ((x : A) → Has xs x → p x ≡ q x) → filter p xs ≡ filter q xs
filter_same p q [] same = refl
filter_same p q (x ∷ xs) same = go (p x) (q x) (same x (inl refl)) (filter_same p q xs (λ y h. same y (inr h)))
  where
    go : (a b : Bool) → a ≡ b → filter p xs ≡ filter q xs → cond a (x ∷ filter p xs) (filter p xs) ≡ cond b (x ∷ filter q xs) (filter q xs)
    go true true e more = ap (λ ys. x ∷ ys) more
    go false false e more = more
    go true false e more = absurd cc
    go false true e more = absurd cc

filter_twice : {A : Type 0} (p q : A → Bool) (xs : List A) → filter p (filter q xs) ≡ filter (λ x. q x && p x) xs
filter_twice p q [] = refl
filter_twice p q (x ∷ xs) = elim (q x) as (λ b. filter p (cond b (x ∷ filter q xs) (filter q xs)) ≡ cond (b && p x) (x ∷ filter (λ x. q x && p x) xs) (filter (λ x. q x && p x) xs)) [
  | true ↦ ap (λ ys. cond (p x) (x ∷ ys) ys) (filter_twice p q xs)
  | false ↦ filter_twice p q xs
]

not_or : (a b : Bool) → (not a && not b) ≡ not (a || b)
not_or true b = refl
not_or false b = refl

abbrev is_gone : List ℤ → Row → Bool
is_gone ids r = list_any (λ id. has_rowid id r) ids

without_is : (ids : List ℤ) (rows : List Row) → without_all rows ids ≡ filter (λ r. not (is_gone ids r)) rows
without_is [] rows = sym (filter_all (λ r. not (is_gone [] r)) rows (all_from _ rows (λ r h. refl)))
without_is (id ∷ ids) rows =
    without_is ids (without_rowid id rows) ∙ filter_twice (λ r. not (is_gone ids r)) (λ r. not (has_rowid id r)) rows
    ∙ filter_same _ _ rows (λ r h. not_or (has_rowid id r) (is_gone ids r))

pub reflexive : (z : ℤ) → is_eq (value_cmp (Int z) (Int z)) ≡ true
reflexive z = go (value_cmp (Int z) (Int z)) (value_cmp_total.antisymm (Int z) (Int z))
  where
    go : (o : Ordering) → o ≡ Rattle.std.specs.Ordering.ordering_reverse o → is_eq o ≡ true
    go Equal e = refl
    go Less e = absurd cc
    go Greater e = absurd cc

pub symmetric : (y z : ℤ) → is_eq (value_cmp (Int y) (Int z)) ≡ is_eq (value_cmp (Int z) (Int y))
symmetric y z = ap is_eq (value_cmp_total.antisymm (Int y) (Int z)) ∙ go (value_cmp (Int z) (Int y))
  where
    go : (o : Ordering) → is_eq (Rattle.std.specs.Ordering.ordering_reverse o) ≡ is_eq o
    go Less = refl
    go Equal = refl
    go Greater = refl

module _ {X : Type 0} where
  pub one_each : (kept : List (ℤ × X)) → AreApart kept → (a b : ℤ × X) → Has kept a → Has kept b → is_eq (value_cmp (Int a.0) (Int b.0)) ≡ true → a ≡ b
  one_each [] apart a b none h same = absurd none
  one_each (k ∷ kept) apart a b (inl x) (inl y) same = x ∙ sym y
  one_each (k ∷ kept) apart a b (inl x) (inr h) same = absurd (true≢false (sym same ∙ ap (λ (j : ℤ × X). is_eq (value_cmp (Int j.0) (Int b.0))) x ∙ all_has _ kept b apart.0 h))
  one_each (k ∷ kept) apart a b (inr h) (inl y) same = absurd (true≢false (sym same ∙ symmetric a.0 b.0 ∙ ap (λ (j : ℤ × X). is_eq (value_cmp (Int j.0) (Int a.0))) y ∙ all_has _ kept a apart.0 h))
  one_each (k ∷ kept) apart a b (inr g) (inr h) same = one_each kept apart.1 a b g h same

  module _ (encode : X → Row) (passes : X → Bool) where
    -- the rowids of the rows that pass are taken out
    pub taken_out : (rows : List Row) (xs : List X) (ids : List ℤ) (keeps : Keeps encode rows xs) → IsPermutation (map (λ k. k.0) (filter (λ k. passes k.1) keeps.kept)) ids
        → Keeps encode (without_all rows ids) (filter (λ x. not (passes x)) xs)
    taken_out rows xs ids keeps same =
        let kept = keeps.kept in
        let agree = λ (k : ℤ × X) (h : Has kept k). both_ways (is_gone ids (row_of encode k)) (passes k.1)
        (λ gone. let id = some_has (λ id. has_rowid id (row_of encode k)) ids gone in
        let from = has_mapped (λ (k : ℤ × X). k.0) (filter (λ k. passes k.1) kept) id.0 (has_permuted _ _ id.0 (IsPermutation-sym _ _ same) id.1) in
        let was = has_filtered (λ (k : ℤ × X). passes k.1) kept from.0 from.1 in
        ap (λ (k : ℤ × X). passes k.1) (one_each kept keeps.apart k from.0 h was.0 (ap (λ z. is_eq (value_cmp (Int k.0) (Int z))) (sym from.2) ∙ id.2)) ∙ was.1)
        (λ passed. some_from (λ id. has_rowid id (row_of encode k)) ids k.0 (has_permuted _ _ k.0 same (mapped_has (λ (k : ℤ × X). k.0) _ k (has_kept (λ (k : ℤ × X). passes k.1) kept k h passed))) (reflexive k.0)) in
        record {
          kept = filter (λ k. not (passes k.1)) kept;
          rows_are = without_is ids rows ∙ ap (filter (λ r. not (is_gone ids r))) keeps.rows_are ∙ filter-map _ (row_of encode) kept ∙ ap (map (row_of encode)) (filter_same _ _ kept (λ k h. ap not (agree k h)));
          apart = ascending-filter _ _ kept keeps.apart;
          same = rw (← filter-map (λ x. not (passes x)) (λ (k : ℤ × X). k.1) kept) (IsPermutation-filter (λ x. not (passes x)) _ _ keeps.same);
        }

  -- ---- one row is put in

  put_kept : ℤ × X → List (ℤ × X) → List (ℤ × X)
  put_kept new [] = new ∷ []
  put_kept new (k ∷ ks) = match_ordering (value_cmp (Int k.0) (Int new.0)) (k ∷ put_kept new ks) (new ∷ ks) (new ∷ k ∷ ks)

  module _ (encode : X → Row) (new : ℤ × X) where
    put_rows : (kept : List (ℤ × X)) → put_row (row_of encode new) (map (row_of encode) kept) ≡ map (row_of encode) (put_kept new kept)
    unfolding put_kept
    put_rows [] = refl
    put_rows (k ∷ ks) =
        elim (value_cmp (Int k.0) (Int new.0)) as (λ o. match_ordering o (row_of encode k ∷ put_row (row_of encode new) (map (row_of encode) ks)) (row_of encode new ∷ map (row_of encode) ks) (row_of encode new ∷ row_of encode k ∷ map (row_of encode) ks)
        ≡ map (row_of encode) (match_ordering o (k ∷ put_kept new ks) (new ∷ ks) (new ∷ k ∷ ks))) [
          | Less ↦ ap (λ ys. row_of encode k ∷ ys) (put_rows ks)
          | Equal ↦ refl
          | Greater ↦ refl
        ]

    abbrev IsFree : List (ℤ × X) → Type 0
    IsFree = AllByRecursion (λ k. is_eq (value_cmp (Int k.0) (Int new.0)) ≡ false)

    put_same : (kept : List (ℤ × X)) → IsFree kept → IsPermutation (new ∷ kept) (put_kept new kept)
    unfolding put_kept
    put_same [] free = IsPermutation-refl _
    put_same (k ∷ ks) free = go (value_cmp (Int k.0) (Int new.0)) free.0 (put_same ks free.1)
      where
        go : (o : Ordering) → is_eq o ≡ false → IsPermutation (new ∷ ks) (put_kept new ks) → IsPermutation (new ∷ k ∷ ks) (match_ordering o (k ∷ put_kept new ks) (new ∷ ks) (new ∷ k ∷ ks))
        go Less h more = IsPermutation-trans _ _ _ (IsPermutation-middle (new ∷ []) k ks) (IsPermutation-cons k _ _ more)
        go Equal h more = absurd (true≢false h)
        go Greater h more = IsPermutation-refl _

    put_all_apart : (P : ℤ × X → Type 0) (kept : List (ℤ × X)) → P new → AllByRecursion P kept → AllByRecursion P (put_kept new kept)
    unfolding put_kept
    put_all_apart P [] h all = (h, tt)
    put_all_apart P (k ∷ ks) h all =
        elim (value_cmp (Int k.0) (Int new.0)) as (λ o. AllByRecursion P (match_ordering o (k ∷ put_kept new ks) (new ∷ ks) (new ∷ k ∷ ks)))
        [ Less ↦ (all.0, put_all_apart P ks h all.1) | Equal ↦ (h, all.1) | Greater ↦ (h, all) ]

    free_apart : (kept : List (ℤ × X)) → IsFree kept → AllByRecursion (λ b. is_eq (value_cmp (Int new.0) (Int b.0)) ≡ false) kept
    free_apart [] free = tt
    free_apart (k ∷ ks) free = (symmetric new.0 k.0 ∙ free.0, free_apart ks free.1)

    put_apart : (kept : List (ℤ × X)) → AreApart kept → IsFree kept → AreApart (put_kept new kept)
    unfolding put_kept
    put_apart [] apart free = (tt, tt)
    put_apart (k ∷ ks) apart free = go (value_cmp (Int k.0) (Int new.0)) free.0 (put_apart ks apart.1 free.1)
      where
        go : (o : Ordering) → is_eq o ≡ false → AreApart (put_kept new ks) → AreApart (match_ordering o (k ∷ put_kept new ks) (new ∷ ks) (new ∷ k ∷ ks))
        go Less h more = (put_all_apart _ ks free.0 apart.0, more)
        go Equal h more = absurd (true≢false h)
        go Greater h more = (free_apart (k ∷ ks) free, apart)

    is_free : (kept : List (ℤ × X)) → is_taken (map (row_of encode) kept) (row_of encode new) ≡ false → IsFree kept
    is_free [] free = tt
    is_free (k ∷ ks) free = go (is_eq (value_cmp (Int k.0) (Int new.0))) refl free (is_free ks)
      where
        go : (b : Bool) → is_eq (value_cmp (Int k.0) (Int new.0)) ≡ b → (b || is_taken (map (row_of encode) ks) (row_of encode new)) ≡ false
            → (is_taken (map (row_of encode) ks) (row_of encode new) ≡ false → IsFree ks) → IsFree (k ∷ ks)
        go true e h more = absurd (true≢false h)
        go false e h more = (e, more h)

    -- a row with a rowid that was free
    pub put_in : (rows : List Row) (xs : List X) → Keeps encode rows xs → is_taken rows (row_of encode new) ≡ false → Keeps encode (put_row (row_of encode new) rows) (new.1 ∷ xs)
    put_in rows xs keeps free =
        let open_id = is_free keeps.kept (rw keeps.rows_are at free) in
        record {
          kept = put_kept new keeps.kept;
          rows_are = ap (put_row (row_of encode new)) keeps.rows_are ∙ put_rows keeps.kept;
          apart = put_apart keeps.kept keeps.apart open_id;
          same = IsPermutation-trans _ _ _ (IsPermutation-map (λ (k : ℤ × X). k.1) _ _ (IsPermutation-sym _ _ (put_same keeps.kept open_id))) (IsPermutation-cons new.1 _ _ keeps.same);
        }

module _ {X : Type 0} (encode : X → Row) where
  pub reordered : (rows : List Row) (xs ys : List X) → Keeps encode rows xs → IsPermutation xs ys → Keeps encode rows ys
  reordered rows xs ys keeps same = record { kept = keeps.kept; rows_are = keeps.rows_are; apart = keeps.apart; same = IsPermutation-trans _ _ _ keeps.same same }

  added : List (ℤ × X) → List X → List X
  added [] xs = xs
  added (k ∷ ks) xs = added ks (k.1 ∷ xs)

  added_are : (ks : List (ℤ × X)) (xs : List X) → IsPermutation (added ks xs) (map (λ (k : ℤ × X). k.1) ks ++ xs)
  unfolding added
  added_are [] xs = IsPermutation-refl xs
  added_are (k ∷ ks) xs = IsPermutation-trans _ _ _ (added_are ks (k.1 ∷ xs)) (IsPermutation-middle (map (λ (k : ℤ × X). k.1) ks) k.1 xs)

  fresh_first : (a b : Bool) → (not a && b) ≡ true → (a ≡ false) × (b ≡ true)
  fresh_first true b e = absurd cc
  fresh_first false b e = (refl, e)

  put_each : (ks : List (ℤ × X)) (rows : List Row) (xs : List X) → Keeps encode rows xs → are_fresh rows (map (row_of encode) ks) ≡ true
      → Keeps encode (put_all rows (map (row_of encode) ks)) (added ks xs)
  unfolding added
  put_each [] rows xs keeps fresh = keeps
  put_each (k ∷ ks) rows xs keeps fresh =
      let free = fresh_first (is_taken rows (row_of encode k)) (are_fresh (put_row (row_of encode k) rows) (map (row_of encode) ks)) fresh in
      put_each ks (put_row (row_of encode k) rows) (k.1 ∷ xs) (put_in encode k rows xs keeps free.0) free.1

  -- rows with rowids that were free
  pub put_many : (ks : List (ℤ × X)) (rows : List Row) (xs : List X) → Keeps encode rows xs → are_fresh rows (map (row_of encode) ks) ≡ true
      → Keeps encode (put_all rows (map (row_of encode) ks)) (map (λ (k : ℤ × X). k.1) ks ++ xs)
  put_many ks rows xs keeps fresh = reordered _ _ _ (put_each ks rows xs keeps fresh) (added_are ks xs)

-- What a query of several rows shows of an office, and names in the order of their bytes.
use Rattle.std.proofs.Common.{inl, ◌≡◌, ℕ, zero, suc, ◌<◌, ◌+◌, List, [], ◌∷◌, ◌++◌, map, take, length, get_or, Bool, true, false, Result, IfOk, Equal, refl, sym, ap, subst, ◌∙◌, arith, add-one, inr, true≢false}
use Rattle.std.specs.List.{AllPairs, AllByRecursion}
use Rattle.std.specs.List.Sorted.{IsPermutation}
use Rattle.std.specs.Ordering.{is_eq, ordering_then}
use Rattle.std.proofs.lemmas.Result.{IfOk-weaker}
use Rattle.std.proofs.lemmas.Map.Text.{is_eq-slice_cmp}
use Rattle.std.proofs.lemmas.Slice.Eq.{bytes_eq-Decides}
use Rattle.sqlite.specs.declared.types.Value.TheVariants.{Text}
use Rattle.sqlite.specs.Order.{Row}
use Rattle.sqlite.specs.Query.{Query, IsAnswer}
use Rattle.sqlite.specs.Program.{overlay}
use Rattle.sqlite.specs.Command.TheVariants.{Select}
use Rattle.sqlite.specs.State.{State, Shown}
use Rattle.sqlite_value.specs.Order.{value_cmp}
use Rattle.sqlite_value.proofs.OrderLemmas.{value_cmp-Text, then-Equal}
use Rattle.sqlite_trees.specs.Tree.{IsAscending}
use Rattle.sqlite_trees.proofs.ListLemmas.{ascending-get_or}
use Rattle.sqlite_rules.specs.Lists.{Has}
use Rattle.office_words.specs.Tables.{Tables}
use Rattle.office_words.specs.Lists.{name_cmp}
use Rattle.office_words.specs.declared.fault.Fault.{Fault}
use Rattle.office_rows.specs.Entries.{HaveOwnKeys}
use Rattle.office_rows.proofs.Plain.{Means}
use Rattle.office_rows.proofs.Asked.{shown_answer}
use Rattle.office_rows.proofs.InOrder.{ascending_permuted}
use Rattle.office_store.specs.Schema.{office_schema}
use Rattle.office_store.specs.Shown.{Shows}

-- what all rows of a query show of an office
pub list_read : (q : Query) (sql : List ℕ) (params : Row) (names : List (List ℕ)) (means : Means office_schema sql (Select (record { lets = []; body = q }) names)) (old new : State) (t : Tables) (shows : Shows old t)
    {X : Type 0} (items : X → List Row) (R : List Row → Type 0) → ((rows : List Row) → IsAnswer q (overlay old.now.trees []) params rows → R rows)
    → (r : Result X Fault) → IfOk r (λ x. Shown sql params old new (items x)) → IfOk r (λ x. R (items x))
list_read q sql params names means old new t shows items R right r =
    IfOk-weaker r (λ x. Shown sql params old new (items x)) (λ x. R (items x)) (λ x h. right (items x) (shown_answer q office_schema sql params names means old new shows.office.schema (items x) h))

-- ---- entries with keys of their own, in any order

module _ {K X : Type 0} (is_at : K → X → Bool) where
  abbrev pub HaveOwn : X → X → Type 0
  HaveOwn a b = (k : K) → is_at k a ≡ true → is_at k b ≡ false

  own_back : (a b : X) → HaveOwn a b → HaveOwn b a
  own_back a b own k here = go (is_at k a) refl
    where
      go : (v : Bool) → is_at k a ≡ v → is_at k a ≡ false
      go true e = absurd (true≢false (sym here ∙ own k e))
      go false e = e

  pub own_permuted : (xs ys : List X) → IsPermutation xs ys → HaveOwnKeys is_at xs → HaveOwnKeys is_at ys
  own_permuted = ascending_permuted HaveOwn own_back

-- ---- the order of names

pub text_order : (a b : List ℕ) → ordering_then (value_cmp (Text a) (Text b)) Equal ≡ name_cmp a b
text_order a b = then-Equal _ ∙ value_cmp-Text a b

pub same_name : (a b : List ℕ) → name_cmp a b ≡ Equal → a ≡ b
same_name a b tie = (bytes_eq-Decides a b).0 (sym (is_eq-slice_cmp a b) ∙ ap is_eq tie)

-- each before each later one, by places
pub all_pairs : {X : Type 0} (S : X → X → Type 0) (xs : List X) → IsAscending S xs → AllPairs S xs
all_pairs S xs up i j d before below = ascending-get_or S xs i j d up before below

-- what holds of each and each later one, where each passes
pub ascending_where : {X : Type 0} (P : X → Type 0) (S R : X → X → Type 0) → ((a b : X) → P a → P b → S a b → R a b) → (xs : List X) → AllByRecursion P xs → IsAscending S xs → IsAscending R xs
ascending_where {X} P S R f [] all up = tt
ascending_where {X} P S R f (x ∷ xs) all up = (each xs all.1 up.0, ascending_where P S R f xs all.1 up.1)
  where
    each : (ys : List X) → AllByRecursion P ys → AllByRecursion (S x) ys → AllByRecursion (R x) ys
    each [] ps ss = tt
    each (y ∷ ys) ps ss = (f x y all.0 ps.0 ss.0, each ys ps.1 ss.1)

-- ---- a loop over rows that show known values

-- the row at a place shows the value at that place
pub record ShowsAt {X : Type 0} (f : X → Row) (xs : List X) (i : ℕ) (row : Row) : Type 0 where
  pub value : X
  pub has : Has xs value
  pub row_is : row ≡ f value
  pub more : take (i + 1) xs ≡ take i xs ++ value ∷ []

at_mapped : {X : Type 0} (f : X → Row) (xs : List X) (i : ℕ) (row : Row) → i < length (map f xs) → row ≡ get_or (map f xs) i row → ShowsAt f xs i row
at_mapped f [] i row below at = absurd (omega arith)
at_mapped f (x ∷ xs) zero row below at = record { value = x; has = inl refl; row_is = at; more = refl }
at_mapped f (x ∷ xs) (suc i) row below at =
    let it = at_mapped f xs i row (omega arith) at in
    record { value = it.value; has = inr it.has; row_is = it.row_is; more = rw add-one (ap (λ l. x ∷ l) (rw add-one at it.more)) }

pub shows_at : {X : Type 0} (f : X → Row) (xs : List X) (rows : List Row) → rows ≡ map f xs → (i : ℕ) (row : Row) → i < length rows → row ≡ get_or rows i row → ShowsAt f xs i row
shows_at f xs rows are i row below at = at_mapped f xs i row (subst (λ l. i < length l) are below) (at ∙ ap (λ l. get_or l i row) are)

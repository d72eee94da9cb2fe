-- The entries of a table under their keys: what is found at a key, and what a write makes of that.
use Rattle.std.proofs.Common.{◌⊎◌, inl, inr, ◌≡◌, List, [], ◌∷◌, map, Bool, true, false, not, cond, None, Some, refl, sym, ap, subst, ◌∙◌, true≢false}
use Rattle.std.specs.Prelude.{filter, find, option_map}
use Rattle.std.specs.List.{AllByRecursion}
use Rattle.std.specs.Bool.{Decides}
use Rattle.sqlite_trees.proofs.ListLemmas.{ascending-filter}
use Rattle.sqlite_rules.specs.Lists.{Has}
use Rattle.sqlite_rules.proofs.ListLemmas.{all_has, all_from, has_filtered}
use Rattle.office_rows.specs.Entries.{HaveOwnKeys}

pub not_true : (b : Bool) → (b ≡ true → ⊥) → b ≡ false
not_true true h = absurd (h refl)
not_true false h = refl

pub find_none : {X : Type 0} (p : X → Bool) (xs : List X) → ((x : X) → Has xs x → p x ≡ true → ⊥) → find p xs ≡ None
find_none p [] none = refl
find_none p (x ∷ xs) none = rw (not_true (p x) (none x (inl refl))) (find_none p xs (λ y h. none y (inr h)))

pub none_found : {X : Type 0} (p : X → Bool) (xs : List X) → find p xs ≡ None → (x : X) → Has xs x → p x ≡ false
none_found p [] none x h = absurd h
none_found p (y ∷ ys) none x h = go (p y) refl none (λ absent more. none_found p ys absent x more) h
  where
    go : (b : Bool) → p y ≡ b → cond b (Some y) (find p ys) ≡ None → (find p ys ≡ None → Has ys x → p x ≡ false) → (x ≡ y) ⊎ Has ys x → p x ≡ false
    go true e absent later h = absurd (let k = absent in cc)
    go false e absent later (inl is) = ap p is ∙ e
    go false e absent later (inr more) = later absent more

-- what p does not pass may be taken out first
find-filter : {X : Type 0} (p q : X → Bool) (xs : List X) → ((x : X) → p x ≡ true → q x ≡ true) → find p (filter q xs) ≡ find p xs
find-filter p q [] implies = refl
find-filter p q (x ∷ xs) implies = go (q x) (p x) refl refl (find-filter p q xs implies)
  where
    go : (b a : Bool) → q x ≡ b → p x ≡ a → find p (filter q xs) ≡ find p xs → find p (cond b (x ∷ filter q xs) (filter q xs)) ≡ cond a (Some x) (find p xs)
    go true a f e more = λ i. cond (e i) (Some x) (more i)
    go false true f e more = absurd (true≢false (sym (implies x e) ∙ f))
    go false false f e more = more

module _ {K X : Type 0} (is_at : K → X → Bool) where
  pub find_own : (xs : List X) → HaveOwnKeys is_at xs → (k : K) (x : X) → Has xs x → is_at k x ≡ true → find (is_at k) xs ≡ Some x
  find_own [] own k x none here = absurd none
  find_own (y ∷ ys) own k x (inl is) here = rw (← is, here) refl
  find_own (y ∷ ys) own k x (inr more) here = go (is_at k y) refl (find_own ys own.1 k x more here)
    where
      go : (b : Bool) → is_at k y ≡ b → find (is_at k) ys ≡ Some x → cond b (Some y) (find (is_at k) ys) ≡ Some x
      go true e found = absurd (true≢false (sym here ∙ all_has _ ys x own.0 more k e))
      go false e found = found

  pub own-filter : (p : X → Bool) (xs : List X) → HaveOwnKeys is_at xs → HaveOwnKeys is_at (filter p xs)
  own-filter p xs own = ascending-filter _ p xs own

-- the key of an entry says where it is
module _ {K X : Type 0} (same : K → K → Bool) (decides : (a b : K) → Decides (same a b) (a ≡ b)) (key : X → K) where
  abbrev pub is_at : K → X → Bool
  is_at k x = same k (key x)

  pub same_self : (k : K) → same k k ≡ true
  same_self k = (decides k k).1 refl

  -- the entry at a key was taken out
  pub find_without : (j k : K) (xs : List X) → find (is_at j) (filter (λ x. not (is_at k x)) xs) ≡ cond (same j k) None (find (is_at j) xs)
  find_without j k xs = go (same j k) refl
    where
      go : (b : Bool) → same j k ≡ b → find (is_at j) (filter (λ x. not (is_at k x)) xs) ≡ cond b None (find (is_at j) xs)
      go true e = find_none (is_at j) (filter (λ x. not (is_at k x)) xs) (λ x h here. gone x h (subst (λ l. is_at l x ≡ true) ((decides j k).0 e) here))
        where
          gone : (x : X) → Has (filter (λ x. not (is_at k x)) xs) x → is_at k x ≡ true → ⊥
          gone x h here = true≢false (sym (has_filtered (λ x. not (is_at k x)) xs x h).1 ∙ ap not here)
      go false e = find-filter (is_at j) (λ x. not (is_at k x)) xs (λ x here. ap not (not_true (is_at k x) (λ there. true≢false (sym ((decides j k).1 ((decides j (key x)).0 here ∙ sym ((decides k (key x)).0 there))) ∙ e))))

  -- an entry was put in where there was none
  pub own_more : (x : X) (xs : List X) → HaveOwnKeys is_at xs → find (is_at (key x)) xs ≡ None → HaveOwnKeys is_at (x ∷ xs)
  own_more x xs own none =
      (all_from _ xs (λ y h k here. subst (λ l. is_at l y ≡ false) (sym ((decides k (key x)).0 here)) (none_found (is_at (key x)) xs none y h)), own)

  -- the entries were changed, and not their keys
  module _ (change : X → X) (keeps : (x : X) → key (change x) ≡ key x) where
    pub find_changed : (k : K) (xs : List X) → find (is_at k) (map change xs) ≡ option_map change (find (is_at k) xs)
    find_changed k [] = refl
    find_changed k (x ∷ xs) = go (is_at k x) (ap (same k) (keeps x)) (find_changed k xs)
      where
        go : (b : Bool) → is_at k (change x) ≡ b → find (is_at k) (map change xs) ≡ option_map change (find (is_at k) xs)
            → cond (is_at k (change x)) (Some (change x)) (find (is_at k) (map change xs)) ≡ option_map change (cond b (Some x) (find (is_at k) xs))
        go true e more = λ i. cond (e i) (Some (change x)) (more i)
        go false e more = (λ i. cond (e i) (Some (change x)) (find (is_at k) (map change xs))) ∙ more

    own_first : (x : X) (xs : List X) → AllByRecursion (λ b. (k : K) → is_at k x ≡ true → is_at k b ≡ false) xs → AllByRecursion (λ b. (k : K) → is_at k (change x) ≡ true → is_at k b ≡ false) (map change xs)
    own_first x [] all = tt
    own_first x (y ∷ ys) all = ((λ k here. ap (same k) (keeps y) ∙ all.0 k (sym (ap (same k) (keeps x)) ∙ here)), own_first x ys all.1)

    pub own_changed : (xs : List X) → HaveOwnKeys is_at xs → HaveOwnKeys is_at (map change xs)
    own_changed [] own = tt
    own_changed (x ∷ xs) own = (own_first x xs own.0, own_changed xs own.1)

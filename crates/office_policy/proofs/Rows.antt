-- The revisions of each of some profiles, one profile after the other, by number.
use Rattle.std.proofs.Common.{◌⊎◌, inl, inr, ◌≡◌, ◌<◌, ◌≤◌, ◌+◌, ◌∙◌, ℕ, zero, suc, List, [], ◌∷◌, ◌++◌, Less, Equal, Greater, refl, sym, ap, subst, arith}
use Rattle.std.specs.Ordering.{nat_cmp, ordering_reverse}
use Rattle.std.specs.declared.cmp.Ordering.{Ordering}
use Rattle.std.proofs.lemmas.Bool.{lt-ltb}
use Rattle.std.proofs.lemmas.Cmp.{nat_list_cmp_total, nat_cmp_total, tied_itself}
use Rattle.office_words.specs.declared.revision.State.{State}
use Rattle.office_words.specs.declared.listed.ListedRevision.{ListedRevision}
use Rattle.office_words.specs.Lists.{name_cmp, listed_cmp}
use Rattle.office_words.proofs.Members.{Has}
use Rattle.office_policy.proofs.Rising.{NameBelow, turned, IsRising, in_either, rising_append}

abbrev pub RowBelow : ListedRevision → ListedRevision → Type 0
RowBelow a b = listed_cmp a b ≡ Less

-- no two revisions are each below the other
pub rows_apart : (a b : ListedRevision) → RowBelow a b → RowBelow b a → ⊥
rows_apart a b below above = by_name (name_cmp a.profile b.profile) refl
  where
    names : (o : Ordering) → name_cmp a.profile b.profile ≡ o → name_cmp b.profile a.profile ≡ ordering_reverse o
    names o is = turned name_cmp nat_list_cmp_total a.profile b.profile o is

    by_number : (o : Ordering) → nat_cmp a.number b.number ≡ o → o ≡ Less → nat_cmp b.number a.number ≡ Less → ⊥
    by_number Less is low high = let other : Less ≡ Greater = sym high ∙ turned nat_cmp nat_cmp_total a.number b.number Less is in absurd cc
    by_number Equal is low high = absurd cc
    by_number Greater is low high = absurd cc

    by_name : (o : Ordering) → name_cmp a.profile b.profile ≡ o → ⊥
    by_name Less is = let high : Greater ≡ Less = rw (names Less is) at above in absurd cc
    by_name Equal is =
        let low : nat_cmp a.number b.number ≡ Less = rw is at below in
        let high : nat_cmp b.number a.number ≡ Less = rw (names Equal is) at above in
        by_number (nat_cmp a.number b.number) refl low high
    by_name Greater is = let low : Greater ≡ Less = rw is at below in absurd cc

in_left : {X : Type 0} (xs ys : List X) (z : X) → Has xs z → Has (xs ++ ys) z
in_left [] ys z h = absurd h
in_left (x ∷ xs) ys z (inl is) = inl is
in_left (x ∷ xs) ys z (inr h) = inr (in_left xs ys z h)

in_right : {X : Type 0} (xs ys : List X) (z : X) → Has ys z → Has (xs ++ ys) z
in_right [] ys z h = h
in_right (x ∷ xs) ys z h = inr (in_right xs ys z h)

-- the profiles are numbered from 1 to their counts, and each revision has a state
module _ (state : List ℕ → ℕ → State) (count : List ℕ → ℕ) where
  abbrev pub row : List ℕ → ℕ → ListedRevision
  row name n = record { profile = name; number = n; state = state name n }

  -- so many revisions of a profile, from this number on
  abbrev pub rows_from : List ℕ → (first left : ℕ) → List ListedRevision
  rows_from name k zero = []
  rows_from name k (suc left) = row name k ∷ rows_from name (suc k) left

  abbrev pub rows_of : List (List ℕ) → List ListedRevision
  rows_of [] = []
  rows_of (name ∷ names) = rows_from name 1 (count name) ++ rows_of names

  -- ---- which revisions these are

  -- a revision of the profile, of a number in between
  record IsFrom (name : List ℕ) (k left : ℕ) (l : ListedRevision) : Type 0 where
    number : ℕ
    after : k ≤ number
    before : number < k + left
    is : l ≡ row name number

  from_has : (name : List ℕ) (k left : ℕ) (l : ListedRevision) → Has (rows_from name k left) l → IsFrom name k left l
  from_has name k zero l h = absurd h
  from_has name k (suc left) l (inl same) = record { number = k; after = omega arith; before = omega arith; is = same }
  from_has name k (suc left) l (inr h) =
      let it = from_has name (suc k) left l h in
      record { number = it.number; after = omega (arith, it.after); before = omega (arith, it.before); is = it.is }

  has_from : (name : List ℕ) (k left n : ℕ) → k ≤ n → n < k + left → Has (rows_from name k left) (row name n)
  has_from name k zero n after before = absurd (omega arith)
  has_from name k (suc left) n after before = at_first (λ more. has_from name (suc k) left n more (omega arith)) (grind (arith))
    where
      at_first : (suc k ≤ n → Has (rows_from name (suc k) left) (row name n)) → (n ≡ k) ⊎ (suc k ≤ n)
          → (row name n ≡ row name k) ⊎ Has (rows_from name (suc k) left) (row name n)
      at_first later (inl is) = inl (ap (row name) is)
      at_first later (inr more) = inr (later more)

  -- a revision of one of the profiles, of a number that it has, in its state
  pub record IsRow (names : List (List ℕ)) (l : ListedRevision) : Type 0 where
    pub profile : Has names l.profile
    pub first : 1 ≤ l.number
    pub last : l.number ≤ count l.profile
    pub state_is : l.state ≡ state l.profile l.number

  row_from : (name : List ℕ) (names : List (List ℕ)) (l : ListedRevision) → IsFrom name 1 (count name) l → IsRow (name ∷ names) l
  row_from name names l it =
      subst (IsRow (name ∷ names)) (sym it.is) (record { profile = inl refl; first = it.after; last = omega (arith, it.before); state_is = refl })

  pub rows_have : (names : List (List ℕ)) (l : ListedRevision) → Has (rows_of names) l → IsRow names l
  rows_have [] l h = absurd h
  rows_have (name ∷ names) l h = either (rows_have names l) (in_either (rows_from name 1 (count name)) (rows_of names) l h)
    where
      either : (Has (rows_of names) l → IsRow names l) → Has (rows_from name 1 (count name)) l ⊎ Has (rows_of names) l → IsRow (name ∷ names) l
      either later (inl own) = row_from name names l (from_has name 1 (count name) l own)
      either later (inr h) = let it = later h in record { profile = inr it.profile; first = it.first; last = it.last; state_is = it.state_is }

  pub have_rows : (names : List (List ℕ)) (l : ListedRevision) → IsRow names l → Has (rows_of names) l
  have_rows [] l it = absurd it.profile
  have_rows (name ∷ names) l it = either (have_rows names l) it.profile
    where
      either : (IsRow names l → Has (rows_of names) l) → (l.profile ≡ name) ⊎ Has names l.profile → Has (rows_from name 1 (count name) ++ rows_of names) l
      either more (inl is) =
          let below : l.number < 1 + count name = subst (λ x. l.number < 1 + count x) is (omega (arith, it.last)) in
          let here = has_from name 1 (count name) l.number it.first below in
          let states = ap (λ x. state x l.number) (sym is) ∙ sym it.state_is in
          let same : row name l.number ≡ l = λ i. record { profile = sym is i; number = l.number; state = states i } in
          in_left (rows_from name 1 (count name)) (rows_of names) l (subst (Has (rows_from name 1 (count name))) same here)
      either more (inr later) =
          let others = more (record { profile = later; first = it.first; last = it.last; state_is = it.state_is }) in
          in_right (rows_from name 1 (count name)) (rows_of names) l others

  -- ---- their order

  by_number : (name : List ℕ) (k n : ℕ) → k < n → RowBelow (row name k) (row name n)
  by_number name k n less = rw (tied_itself nat_list_cmp_total name, lt-ltb k n less) refl

  from_rising : (name : List ℕ) (k left : ℕ) → IsRising RowBelow (rows_from name k left)
  from_rising name k zero = tt
  from_rising name k (suc left) = (
    (λ l h. let it = from_has name (suc k) left l h in subst (RowBelow (row name k)) (sym it.is) (by_number name k it.number (omega (arith, it.after)))),
    from_rising name (suc k) left,
  )

  by_profile : (a b : ListedRevision) → NameBelow a.profile b.profile → RowBelow a b
  by_profile a b less = rw less refl

  pub rows_rising : (names : List (List ℕ)) → IsRising NameBelow names → IsRising RowBelow (rows_of names)
  rows_rising [] rising = tt
  rows_rising (name ∷ names) rising =
      rising_append RowBelow (rows_from name 1 (count name)) (rows_of names) (from_rising name 1 (count name)) (rows_rising names rising.1) apart
    where
      apart : (a b : ListedRevision) → Has (rows_from name 1 (count name)) a → Has (rows_of names) b → RowBelow a b
      apart a b own later =
          let it = from_has name 1 (count name) a own in
          by_profile a b (subst (λ (x : ListedRevision). NameBelow x.profile b.profile) (sym it.is) (rising.0 b.profile (rows_have names b later).profile))

-- What the revisions of some profiles say of those.
use Rattle.std.proofs.Common.{inl, inr, ◌≡◌, ◌≢◌, ◌<◌, ◌≤◌, ◌+◌, ◌∙◌, ℕ, zero, suc, List, [], ◌∷◌, ◌++◌, Bool, true, false, cond, Some, Less, Equal, refl, sym, subst, arith}
use Rattle.std.specs.Prelude.{map, bytes_eq}
use Rattle.std.proofs.lemmas.Cmp.{nat_list_cmp_total, tied_itself}
use Rattle.std.proofs.lemmas.Slice.Eq.{bytes_eq-Decides}
use Rattle.review_policy.specs.declared.answer.ListedProfile.{ListedProfile}
use Rattle.office_words.specs.declared.revision.State.{State}
use Rattle.review_policy.specs.Rules.{is_issued}
use Rattle.office_words.specs.declared.listed.ListedRevision.{ListedRevision}
use Rattle.office_words.specs.Lists.{name_cmp}
use Rattle.office_words.proofs.Members.{Has}
use Rattle.office_policy.specs.Grouped.{is_last, issued_with, listed_by, profiles_left, profiles_in}
use Rattle.office_policy.proofs.Rows.{row, rows_from, rows_of}
use Rattle.office_policy.proofs.Rising.{NameBelow, IsRising}

-- a name that is below another is another
below_other : (a b : List ℕ) → NameBelow a b → bytes_eq a b ≡ false
below_other a b below = by_test (bytes_eq a b) refl
  where
    by_test : (t : Bool) → bytes_eq a b ≡ t → t ≡ false
    by_test true is =
        let same : a ≡ b = (bytes_eq-Decides a b).0 is in
        let tied : Less ≡ Equal = sym (subst (λ x. name_cmp a x ≡ Less) (sym same) below) ∙ tied_itself nat_list_cmp_total a in
        absurd cc
    by_test false is = refl

same_name : (a : List ℕ) → bytes_eq a a ≡ true
same_name a = (bytes_eq-Decides a a).1 refl

-- the profiles are numbered from 1 to their counts, and each revision has a state
module _ (state : List ℕ → ℕ → State) (count : List ℕ → ℕ) where
  -- the number that is issued, after so many more revisions
  abbrev issued_over : ℕ → List ℕ → (first left : ℕ) → ℕ
  issued_over issued name k zero = issued
  issued_over issued name k (suc left) = issued_over (issued_with issued (row state count name k)) name (suc k) left

  group : (name : List ℕ) (rest : List ListedRevision) → ((n : ℕ) → is_last (row state count name n) rest ≡ true) → (issued k left last : ℕ) → last ≡ k + left
      → profiles_left issued (rows_from state count name k (suc left) ++ rest)
      ≡ listed_by (issued_over issued name k (suc left)) (row state count name last) ∷ profiles_left 0 rest
  group name rest ends issued k zero last is =
      let here : k ≡ last = omega (arith, is) in
      rw (ends k) (λ i. listed_by (issued_with issued (row state count name k)) (row state count name (here i)) ∷ profiles_left 0 rest)
  group name rest ends issued k (suc left) last is =
      rw (same_name name) (group name rest ends (issued_with issued (row state count name k)) (suc k) left last (omega (arith, is)))

  -- this number is issued of a profile, or 0 where none is
  pub record IsIssueOf (name : List ℕ) (m : ℕ) : Type 0 where
    pub one : (n : ℕ) → 1 ≤ n → n ≤ count name → is_issued (Some (state name n)) ≡ true → n ≡ m
    pub issued : m ≢ 0 → (m ≤ count name) × (is_issued (Some (state name m)) ≡ true)

  none_over : (issued : ℕ) (name : List ℕ) (k left : ℕ)
      → ((n : ℕ) → k ≤ n → n < k + left → is_issued (Some (state name n)) ≡ false) → issued_over issued name k left ≡ issued
  none_over issued name k zero none = refl
  none_over issued name k (suc left) none =
      rw (none k (omega arith) (omega arith)) (none_over issued name (suc k) left (λ n after before. none n (omega arith) (omega arith)))

  not_issued : (name : List ℕ) (n : ℕ) → (is_issued (Some (state name n)) ≡ true → ⊥) → is_issued (Some (state name n)) ≡ false
  not_issued name n never = by_test (is_issued (Some (state name n))) never
    where
      by_test : (t : Bool) → (t ≡ true → ⊥) → t ≡ false
      by_test true never = absurd (never refl)
      by_test false never = refl

  one_over : (m issued : ℕ) (name : List ℕ) (k left : ℕ) → k ≤ m → m < k + left → is_issued (Some (state name m)) ≡ true
      → ((n : ℕ) → k ≤ n → n < k + left → is_issued (Some (state name n)) ≡ true → n ≡ m) → issued_over issued name k left ≡ m
  one_over m issued name k zero after before is one = absurd (omega arith)
  one_over m issued name k (suc left) after before is one =
      elim (is_issued (Some (state name k))) as (λ b. is_issued (Some (state name k)) ≡ b → issued_over (cond b k issued) name (suc k) left ≡ m) [
        | true ↦ λ here.
            let same : k ≡ m = one k (omega arith) (omega arith) here in
            none_over k name (suc k) left (λ n above below. not_issued name n (λ yes_n. another n above (one n (omega arith) (omega arith) yes_n) same)) ∙ same
        | false ↦ λ other. one_over m issued name (suc k) left (later other) (omega arith) is (λ n above below. one n (omega arith) (omega arith))
      ] refl
    where
      another : (n : ℕ) → suc k ≤ n → n ≡ m → k ≡ m → ⊥
      another n above a b = omega arith

      later : is_issued (Some (state name k)) ≡ false → suc k ≤ m
      later other = omega (arith, apart)
        where
          apart : k ≡ m → ⊥
          apart same = let both : false ≡ true = sym other ∙ subst (λ x. is_issued (Some (state name x)) ≡ true) (sym same) is in absurd (cc)

  issue_over : (name : List ℕ) (m : ℕ) → IsIssueOf name m → issued_over 0 name 1 (count name) ≡ m
  issue_over name zero it =
      none_over 0 name 1 (count name) (λ n after before. not_issued name n (λ here. zero_none n after (it.one n after (omega arith) here)))
    where
      zero_none : (n : ℕ) → 1 ≤ n → n ≡ 0 → ⊥
      zero_none n after is = omega arith
  issue_over name (suc m) it =
      let there = it.issued (λ e. absurd (omega (arith, e))) in
      one_over (suc m) 0 name 1 (count name) (omega arith) (omega (arith, there.0)) there.1 (λ n after before here. it.one n after (omega arith) here)

  -- a profile, by the number that is issued of it
  abbrev pub listed : (issue : List ℕ → ℕ) → List ℕ → ListedProfile
  listed issue name = record { profile = name; issued = issue name; revisions = count name; state = state name (count name) }

  -- nothing of a profile comes next where the next profile is another
  ends_before : (name next : List ℕ) (c : ℕ) (rest : List ListedRevision) → 1 ≤ c → bytes_eq name next ≡ false
      → (n : ℕ) → is_last (row state count name n) (rows_from state count next 1 c ++ rest) ≡ true
  ends_before name next zero rest some other n = absurd (omega arith)
  ends_before name next (suc c) rest some other n = rw other refl

  ends : (name : List ℕ) (names : List (List ℕ)) → ((x : List ℕ) → Has names x → NameBelow name x) → ((x : List ℕ) → Has names x → 1 ≤ count x)
      → (n : ℕ) → is_last (row state count name n) (rows_of state count names) ≡ true
  ends name [] below some n = refl
  ends name (next ∷ names) below some n =
      ends_before name next (count next) (rows_of state count names) (some next (inl refl)) (below_other name next (below next (inl refl))) n

  one_group : (name : List ℕ) (c : ℕ) (rest : List ListedRevision) → 1 ≤ c → ((n : ℕ) → is_last (row state count name n) rest ≡ true)
      → profiles_left 0 (rows_from state count name 1 c ++ rest) ≡ listed_by (issued_over 0 name 1 c) (row state count name c) ∷ profiles_left 0 rest
  one_group name zero rest some ends = absurd (omega arith)
  one_group name (suc c) rest some ends = group name rest ends 0 1 c (suc c) (omega arith)

  -- the profiles of these revisions are these profiles
  pub grouped : (issue : List ℕ → ℕ) (names : List (List ℕ)) → IsRising NameBelow names → ((x : List ℕ) → Has names x → 1 ≤ count x)
      → ((x : List ℕ) → IsIssueOf x (issue x)) → profiles_in (rows_of state count names) ≡ map (listed issue) names
  grouped issue [] rising some is = refl
  grouped issue (name ∷ names) rising some is =
      let more = grouped issue names rising.1 (λ x h. some x (inr h)) is in
      one_group name (count name) (rows_of state count names) (some name (inl refl)) (ends name names rising.0 (λ x h. some x (inr h)))
      ∙ (λ i. listed_by (issue_over name (issue name) (is name) i) (row state count name (count name)) ∷ more i)

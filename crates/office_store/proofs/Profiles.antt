-- Tests on the columns of profiles, revisions and votes.
use Rattle.std.proofs.Common.{◌≡◌, ℕ, zero, suc, ℤ, pos, List, [], ◌∷◌, Bool, true, refl, sym, ap, ◌∙◌, subst, arith}
use Rattle.std.specs.Prelude.{bytes_eq, ◌&&◌, ◌==◌}
use Rattle.std.specs.Bool.{Decides}
use Rattle.std.specs.List.{list_all}
use Rattle.std.specs.Cmp.{both_ways}
use Rattle.std.proofs.lemmas.Bool.Decides.{nat_tests}
use Rattle.std.proofs.lemmas.Slice.Eq.{bytes_eq-Decides}
use Rattle.sqlite.specs.declared.types.Value.TheVariants.{Int}
use Rattle.sqlite.specs.Term.{Term, lit, col, op2, holds}
use Rattle.sqlite.specs.Collation.TheVariants.{Binary}
use Rattle.sqlite_sql.specs.declared.ops.BinaryOp.TheVariants.{Compare}
use Rattle.sqlite_sql.specs.declared.ops.CompareOp.TheVariants.{Eq}
use Rattle.office_words.specs.declared.name.ProfileName.{ProfileName}
use Rattle.office_words.specs.declared.revision.State.{State}
use Rattle.office_words.specs.declared.revision.State.TheVariants.{Open, Closed, Issued, Replaced, Withdrawn}
use Rattle.office_words.specs.Tables.{is_profile}
use Rattle.office_rows.specs.Entries.{row_of}
use Rattle.office_store.specs.Entries.{same_revision, same_vote, VoteKey, Revision, revision_key, revision_row, state_number, hold_row}
use Rattle.office_store.specs.Keys.{profile_params, revision_params}
use Rattle.office_store.proofs.Columns.{both_true, column_is, text_is, number_is, two_are, three_are}

-- a column of the table's row is a number that the text has
abbrev pub number_in : ℕ → ℕ → Term
number_in c n = op2 (Compare Eq Binary) (col 1 c) (lit (Int (pos n)))

-- ---- the tests of the keys decide whether they are the same

pub same_profile : (p q : ProfileName) → is_profile p q ≡ true → p ≡ q
same_profile p q e =
    let both = both_true (bytes_eq p.team q.team) (bytes_eq p.profile q.profile) e in
    let team = (bytes_eq-Decides p.team q.team).0 both.0 in
    let profile = (bytes_eq-Decides p.profile q.profile).0 both.1 in
    λ i. record { team = team i; profile = profile i }

pub profile_itself : (p : ProfileName) → is_profile p p ≡ true
profile_itself p = λ i. (bytes_eq-Decides p.team p.team).1 refl i && (bytes_eq-Decides p.profile p.profile).1 refl i

pub profiles_decide : (p q : ProfileName) → Decides (is_profile p q) (p ≡ q)
profiles_decide p q = (same_profile p q, λ e. subst (λ r. is_profile p r ≡ true) e (profile_itself p))

pub profile_sym : (p q : ProfileName) → is_profile p q ≡ is_profile q p
profile_sym p q = both_ways _ _ (λ e. (profiles_decide q p).1 (sym (same_profile p q e))) (λ e. (profiles_decide p q).1 (sym (same_profile q p e)))

same_number : (a b : ℕ) → (a == b) ≡ true → a ≡ b
same_number a b e = grind (arith, nat_tests)

number_itself : (a : ℕ) → (a == a) ≡ true
number_itself a = grind (arith, nat_tests)

pub revisions_decide : (a b : ProfileName × ℕ) → Decides (same_revision a b) (a ≡ b)
revisions_decide a b = (
  λ e.
      let both = both_true (is_profile a.0 b.0) (a.1 == b.1) e in
      let profile = same_profile a.0 b.0 both.0 in
      let number = same_number a.1 b.1 both.1 in
      λ i. (profile i, number i),
  λ e. subst (λ r. same_revision a r ≡ true) e (λ i. profile_itself a.0 i && number_itself a.1 i),
)

pub votes_decide : (a b : VoteKey) → Decides (same_vote a b) (a ≡ b)
votes_decide a b = (
  λ e.
      let outer = both_true (is_profile a.profile b.profile && (a.number == b.number)) (bytes_eq a.voter b.voter) e in
      let both = both_true (is_profile a.profile b.profile) (a.number == b.number) outer.0 in
      let profile = same_profile a.profile b.profile both.0 in
      let number = same_number a.number b.number both.1 in
      let voter = (bytes_eq-Decides a.voter b.voter).0 outer.1 in
      λ i. record { profile = profile i; number = number i; voter = voter i },
  λ e. subst (λ r. same_vote a r ≡ true) e (λ i. (profile_itself a.profile i && number_itself a.number i) && (bytes_eq-Decides a.voter a.voter).1 refl i),
)

-- ---- what the tests of the texts say of an entry

abbrev pub at_profile : List Term
at_profile = column_is 1 0 ∷ column_is 2 1 ∷ []

abbrev pub at_revision : List Term
at_revision = column_is 1 0 ∷ column_is 2 1 ∷ column_is 3 2 ∷ []

pub hold_tested : (p : ProfileName) (k : ℤ × ProfileName) → list_all (holds (profile_params p ∷ row_of hold_row k ∷ [])) at_profile ≡ is_profile p k.1
hold_tested p k = two_are _ _ _ _ (text_is k.1.team p.team) (text_is k.1.profile p.profile)

pub profile_tested : (p : ProfileName) (k : ℤ × Revision) → list_all (holds (profile_params p ∷ row_of revision_row k ∷ [])) at_profile ≡ is_profile p k.1.0
profile_tested p k = two_are _ _ _ _ (text_is k.1.0.team p.team) (text_is k.1.0.profile p.profile)

pub revision_tested : (p : ProfileName) (n : ℕ) (k : ℤ × Revision) → list_all (holds (revision_params p n ∷ row_of revision_row k ∷ [])) at_revision ≡ same_revision (p, n) (revision_key k.1)
revision_tested p n k = three_are _ _ _ _ _ _ (text_is k.1.0.team p.team) (text_is k.1.0.profile p.profile) (number_is k.1.1.number n)

-- the entries of a profile in a state
abbrev pub is_in_state : ProfileName → State → Revision → Bool
is_in_state p s e = is_profile p e.0 && (state_number s == state_number e.1.state)

abbrev pub in_state_of : State → List Term
in_state_of s = column_is 1 0 ∷ column_is 2 1 ∷ number_in 5 (state_number s) ∷ []

pub state_tested : (p : ProfileName) (s : State) (k : ℤ × Revision) → list_all (holds (profile_params p ∷ row_of revision_row k ∷ [])) (in_state_of s) ≡ is_in_state p s k.1
state_tested p s k = three_are _ _ _ _ _ _ (text_is k.1.0.team p.team) (text_is k.1.0.profile p.profile) (number_is (state_number k.1.1.state) (state_number s))

abbrev state_of : ℕ → State
state_of zero = Open
state_of (suc zero) = Closed
state_of (suc (suc zero)) = Issued
state_of (suc (suc (suc zero))) = Replaced
state_of (suc (suc (suc (suc n)))) = Withdrawn

state_back : (s : State) → state_of (state_number s) ≡ s
state_back Open = refl
state_back Closed = refl
state_back Issued = refl
state_back Replaced = refl
state_back Withdrawn = refl

pub numbered_as : (s r : State) → state_number s ≡ state_number r → s ≡ r
numbered_as s r e = sym (state_back s) ∙ ap state_of e ∙ state_back r

pub same_state : (s r : State) → (state_number s == state_number r) ≡ true → s ≡ r
same_state s r e = numbered_as s r (same_number (state_number s) (state_number r) e)

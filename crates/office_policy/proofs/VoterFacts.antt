-- The voters of a revision are those that the tables have, and so are the counts of its votes.
use Rattle.std.proofs.Common.{◌≡◌, ◌∙◌, ◌⊎◌, inl, inr, ◌==◌, ◌&&◌, ◌||◌, ℕ, List, [], ◌∷◌, Bool, true, false, cond, Some, None, Option, Less, Equal, refl, sym, subst}
use Rattle.std.specs.Prelude.{option_map, bytes_eq}
use Rattle.std.specs.List.{AllByRecursion}
use Rattle.std.specs.List.Sorted.{IsStrictlySortedBy}
use Rattle.std.specs.Ordering.{nat_cmp}
use Rattle.std.specs.Cmp.Lexicographic.{slice_cmp}
use Rattle.std.proofs.lemmas.Cmp.{nat_list_cmp_total, tied_itself}
use Rattle.office_words.specs.declared.name.ProfileName.{ProfileName}
use Rattle.office_words.specs.declared.listed.Tally.{Tally}
use Rattle.office_words.specs.Tables.{Vote, is_profile}
use Rattle.office_words.specs.Lists.{IsTally}
use Rattle.office_words.proofs.Members.{Has as IsIn, AreOnce}
use Rattle.office_words.proofs.Tallies.{AreVoters, tallied}
use Rattle.office_policy.specs.History.{voted, History}
use Rattle.office_policy.specs.Names.{with_name}
use Rattle.office_policy.specs.Votes.{CastVote, kept_vote, vote_of, voters_of, tally_at}
use Rattle.office_policy.specs.TablesOf.{tables_of}
use Rattle.office_policy.proofs.NameFacts.{ordered_more, has, among_more}
use Rattle.office_policy.proofs.UserFacts.{same_bytes, bytes_same}

pub once_ordered : (names : List (List ℕ)) → IsStrictlySortedBy (slice_cmp nat_cmp) names → AreOnce names
unfolding IsStrictlySortedBy
once_ordered [] ordered = tt
once_ordered (x ∷ names) ordered = ((λ h. apart names h ordered.0), once_ordered names ordered.1)
  where
    apart : (names : List (List ℕ)) → IsIn names x → AllByRecursion (λ y. slice_cmp nat_cmp x y ≡ Less) names → ⊥
    apart [] h above = h
    apart (y ∷ names) (inl same) above =
        let less : slice_cmp nat_cmp x x ≡ Less = subst (λ z. slice_cmp nat_cmp x z ≡ Less) (sym same) above.0 in
        let both_ways : Less ≡ Equal = sym less ∙ tied_itself nat_list_cmp_total x in
        absurd (cc)
    apart (y ∷ names) (inr h) above = apart names h above.1

pub voters_ordered : (h : History) (p : ProfileName) (n : ℕ) → IsStrictlySortedBy (slice_cmp nat_cmp) (voters_of h p n)
unfolding IsStrictlySortedBy
voters_ordered [] p n = tt
voters_ordered (voted c q m d a ∷ h) p n =
    elim (is_profile p q && (n == m)) as (λ b. IsStrictlySortedBy (slice_cmp nat_cmp) (cond b (with_name c (voters_of h p n)) (voters_of h p n))) [
      | true ↦ ordered_more c (voters_of h p n) (voters_ordered h p n)
      | false ↦ voters_ordered h p n
    ]
voters_ordered (_ ∷ h) p n = voters_ordered h p n

has_in : (names : List (List ℕ)) (name : List ℕ) → has name names ≡ true → IsIn names name
has_in [] name e = absurd (cc)
has_in (x ∷ names) name e = at_first (has_in names name) (bytes_eq name x) refl e
  where
    at_first : (has name names ≡ true → IsIn names name) → (b : Bool) → bytes_eq name x ≡ b → (b || has name names) ≡ true → (name ≡ x) ⊎ IsIn names name
    at_first later true same e = inl (same_bytes name x same)
    at_first later false other e = inr (later e)

in_has : (names : List (List ℕ)) (name : List ℕ) → IsIn names name → has name names ≡ true
in_has [] name h = absurd h
in_has (x ∷ names) name (inl same) = rw (bytes_same name x same) refl
in_has (x ∷ names) name (inr h) = either (bytes_eq name x) (in_has names name h)
  where
    either : (b : Bool) → has name names ≡ true → (b || has name names) ≡ true
    either true e = refl
    either false e = e

-- whether a name has a vote
abbrev has_vote : Option CastVote → Bool
has_vote None = false
has_vote (Some v) = true

-- a name is among the voters where it has a vote
voter_has : (h : History) (p : ProfileName) (n : ℕ) (name : List ℕ) → has name (voters_of h p n) ≡ has_vote (vote_of h p n name)
voter_has [] p n name = refl
voter_has (voted c q m d a ∷ h) p n name =
    elim (is_profile p q && (n == m)) as (λ b. has name (cond b (with_name c (voters_of h p n)) (voters_of h p n))
    ≡ has_vote (cond (b && bytes_eq name c) (Some (record { approves = a; digest = d; before = h })) (vote_of h p n name))) [
      | true ↦ among_more name c (voters_of h p n) ∙ own (bytes_eq name c) (voter_has h p n name)
      | false ↦ voter_has h p n name
    ]
  where
    own : (b : Bool) → has name (voters_of h p n) ≡ has_vote (vote_of h p n name)
        → (b || has name (voters_of h p n)) ≡ has_vote (cond b (Some (record { approves = a; digest = d; before = h })) (vote_of h p n name))
    own true before = refl
    own false before = before
voter_has (_ ∷ h) p n name = voter_has h p n name

some_kept : (name : List ℕ) (v : Option CastVote) → has_vote v ≡ true → (k : Vote) × (option_map (kept_vote name) v ≡ Some k)
some_kept name None e = absurd (cc)
some_kept name (Some v) e = (kept_vote name v, refl)

kept_some : (name : List ℕ) (v : Option CastVote) (k : Vote) → option_map (kept_vote name) v ≡ Some k → has_vote v ≡ true
kept_some name None k e = absurd (cc)
kept_some name (Some v) k e = refl

-- the voters are those of the tables
pub are_voters : (h : History) (p : ProfileName) (n : ℕ) → AreVoters (tables_of h) p n (voters_of h p n)
are_voters h p n = record {
  once = once_ordered (voters_of h p n) (voters_ordered h p n);
  each = λ name is. some_kept name (vote_of h p n name) (sym (voter_has h p n name) ∙ in_has (voters_of h p n) name is);
  all = λ name k at. has_in (voters_of h p n) name (voter_has h p n name ∙ kept_some name (vote_of h p n name) k at);
}

-- the tally of the tables is that of looking back
pub tally_is : (h : History) (p : ProfileName) (n : ℕ) (tally : Tally) → IsTally (tables_of h) p n tally → tally ≡ tally_at h p n
tally_is h p n tally is = tallied (tables_of h) p n tally is (voters_of h p n) (are_voters h p n)

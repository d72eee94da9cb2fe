-- Listings are in order, and have each profile.
use Rattle.std.proofs.Common.{◌≡◌, ◌∙◌, ℕ, suc, List, [], ◌∷◌, length, Bool, true, false, ◌&&◌, ◌||◌, cond, refl, sym, ap, subst, arith}
use Rattle.std.specs.Prelude.{map, filter, nat_lt, bytes_eq}
use Rattle.std.specs.List.Sorted.{IsStrictlySortedBy}
use Rattle.std.specs.Ordering.{nat_cmp}
use Rattle.std.specs.Cmp.Lexicographic.{slice_cmp}
use Rattle.std.proofs.lemmas.Bool.{lt-ltb, ltb-true}
use Rattle.office_policy.specs.History.{submitted, History}
use Rattle.office_policy.specs.Revisions.{submits, revision_count}
use Rattle.office_policy.specs.Names.{with_name}
use Rattle.office_policy.specs.Listing.{profiles_of, listed_profile, listing_of}
use Rattle.office_policy.proofs.NameFacts.{ordered_more, has, among_more}
use Rattle.office_policy.specs.Laws.{listed_names, ListsInOrder, ListsAll}

profiles_ordered : (h : History) (team : List ℕ) → IsStrictlySortedBy (slice_cmp nat_cmp) (profiles_of h team)
unfolding IsStrictlySortedBy
profiles_ordered [] team = tt
profiles_ordered (submitted c q t ∷ h) team =
    elim (bytes_eq team q.team) as (λ b. IsStrictlySortedBy (slice_cmp nat_cmp) (cond b (with_name q.profile (profiles_of h team)) (profiles_of h team))) [
      | true ↦ ordered_more q.profile (profiles_of h team) (profiles_ordered h team)
      | false ↦ profiles_ordered h team
    ]
profiles_ordered (_ ∷ h) team = profiles_ordered h team

-- a listing has the names of the profiles
pub listing_names : (h : History) (team : List ℕ) (names : List (List ℕ)) → listed_names (map (λ name. listed_profile h (record { team = team; profile = name })) names) ≡ names
listing_names h team [] = refl
listing_names h team (name ∷ names) = ap (λ others. name ∷ others) (listing_names h team names)

pub in_order : (h : History) (team : List ℕ) → ListsInOrder h team
in_order h team = subst (IsStrictlySortedBy (slice_cmp nat_cmp)) (sym (listing_names h team (profiles_of h team))) (profiles_ordered h team)

-- the names are those of the profiles that have a revision
among_profiles : (h : History) (team name : List ℕ) → has name (profiles_of h team) ≡ nat_lt 0 (revision_count h (record { team = team; profile = name }))
among_profiles [] team name = refl
among_profiles (submitted c q t ∷ h) team name =
    elim (bytes_eq team q.team) as (λ b. has name (cond b (with_name q.profile (profiles_of h team)) (profiles_of h team)) ≡ nat_lt 0 (length (cond (b && bytes_eq name q.profile) (submitted c q t ∷ before) before))) [
      | true ↦ among_more name q.profile (profiles_of h team) ∙ own (among_profiles h team name) (bytes_eq name q.profile)
      | false ↦ among_profiles h team name
    ]
  where
    before : History
    before = filter (submits (record { team = team; profile = name })) h

    own : has name (profiles_of h team) ≡ nat_lt 0 (length before) → (b : Bool)
        → (b || has name (profiles_of h team)) ≡ nat_lt 0 (length (cond b (submitted c q t ∷ before) before))
    own earlier true = sym (lt-ltb 0 (suc (length before)) (omega arith))
    own earlier false = earlier
among_profiles (_ ∷ h) team name = among_profiles h team name

pub all_listed : (h : History) (team : List ℕ) → ListsAll h team
all_listed h team name = (λ listed. ltb-true 0 count (sym is ∙ listed), λ some. is ∙ lt-ltb 0 count some)
  where
    count : ℕ
    count = revision_count h (record { team = team; profile = name })

    is : has name (listed_names (listing_of h team)) ≡ nat_lt 0 count
    is = ap (has name) (listing_names h team (profiles_of h team)) ∙ among_profiles h team name

-- From one profile of a team to the next.
use Rattle.std.proofs.Common.{◌≡◌, ◌∙◌, ◌⊎◌, inl, inr, ℕ, List, [], ◌∷◌, ◌++◌, map, Option, Some, None, refl, sym, ap, subst, arith, append_assoc, append-nil}
use Rattle.std.proofs.lemmas.List.{map-append}
use Rattle.review_policy.specs.declared.answer.ListedProfile.{ListedProfile}
use Rattle.office_words.specs.declared.listed.ListedRevision.{ListedRevision}
use Rattle.office_words.specs.Tables.{Tables}
use Rattle.office_words.specs.Lists.{profile_of, IsListed}
use Rattle.office_words.proofs.Members.{Has}
use Rattle.office_store.specs.Lists.{IsFirstListed, ComesAfter, IsNextListed}
use Rattle.office_policy.specs.History.{History}
use Rattle.office_policy.specs.Lawful.{IsLawfulHistory}
use Rattle.office_policy.specs.Listing.{profiles_of, listed_profile, listing_of}
use Rattle.office_policy.specs.LooksBack.{LooksBack}
use Rattle.office_policy.specs.Revisions.{state_of}
use Rattle.office_policy.specs.TablesOf.{tables_of}
use Rattle.office_policy.proofs.GroupedFacts.{profiles_rising, profile_has, listed_row, row_listed}
use Rattle.office_policy.proofs.Rising.{IsRising, NameBelow, names_apart, in_either}
use Rattle.office_judging.specs.Listed.{IsStep}

-- ---- the two ends of a rising list

later_rising : (done left : List (List ℕ)) → IsRising NameBelow (done ++ left) → IsRising NameBelow left
later_rising [] left rising = rising
later_rising (x ∷ done) left rising = later_rising done left rising.1

in_later : (done left : List (List ℕ)) (n : List ℕ) → Has left n → Has (done ++ left) n
in_later [] left n has = has
in_later (x ∷ done) left n has = inr (in_later done left n has)

done_below : (done left : List (List ℕ)) → IsRising NameBelow (done ++ left) → (a b : List ℕ) → Has done a → Has left b → NameBelow a b
done_below [] left rising a b has there = absurd has
done_below (x ∷ done) left rising a b (inl is) there = subst (λ n. NameBelow n b) (sym is) (rising.0 b (in_later done left b there))
done_below (x ∷ done) left rising a b (inr has) there = done_below done left rising.1 a b has there

-- what is above a name stands after it
after_it : (done left : List (List ℕ)) (x n : List ℕ) → IsRising NameBelow (done ++ x ∷ left) → Has (done ++ x ∷ left) n → NameBelow x n → Has left n
after_it done left x n rising has above = go (in_either done (x ∷ left) n has)
  where
    go : Has done n ⊎ ((n ≡ x) ⊎ Has left n) → Has left n
    go (inl before) = absurd (names_apart x n above (done_below done (x ∷ left) rising n x before (inl refl)))
    go (inr (inl is)) = let self = subst (NameBelow x) is above in absurd (names_apart x x self self)
    go (inr (inr later)) = later

-- ---- the walk

module _ (h : History) (team : List ℕ) where
  -- the next profile is the first of those that are left
  abbrev pub IsAt : Option ListedRevision → List (List ℕ) → Type 0
  IsAt None left = left ≡ []
  IsAt (Some l) [] = ⊥
  IsAt (Some l) (name ∷ left) = IsListed (tables_of h) team l × (l.profile ≡ name)

  -- what is listed is that of the names that are done
  pub record IsWalked (profiles : List ListedProfile) (next : Option ListedRevision) : Type 0 where
    pub done : List (List ℕ)
    pub left : List (List ℕ)
    pub names : profiles_of h team ≡ done ++ left
    pub listed : profiles ≡ map (λ name. listed_profile h (profile_of team name)) done
    pub next_is : IsAt next left

  abbrev first_of : List ℕ → ListedRevision
  first_of name = record { profile = name; number = 1; state = state_of h (profile_of team name) 1 }

  listed_first : (name : List ℕ) → Has (profiles_of h team) name → IsListed (tables_of h) team (first_of name)
  listed_first name has = listed_row h team (first_of name) (omega arith) (profile_has h team name has) refl

  starts : (Passes : List ℕ → Type 0) (left : List (List ℕ)) → IsRising NameBelow left → ((n : List ℕ) → Has left n → Has (profiles_of h team) n × Passes n)
      → ((n : List ℕ) → Has (profiles_of h team) n → Passes n → Has left n) → (next : Option ListedRevision) → IsFirstListed (tables_of h) team Passes next → IsAt next left
  starts Passes [] rising each all None none = refl
  starts Passes (x ∷ left) rising each all None none = let it = each x (inl refl) in absurd (none (first_of x) (listed_first x it.0) it.1)
  starts Passes [] rising each all (Some l) it = all l.profile (row_listed h team l it.0).profile it.1
  starts Passes (x ∷ left) rising each all (Some l) it = (it.0, same (all l.profile (row_listed h team l it.0).profile it.1))
    where
      same : (l.profile ≡ x) ⊎ Has left l.profile → l.profile ≡ x
      same (inl is) = is
      same (inr later) = let here = each x (inl refl) in absurd (it.2 (first_of x) (listed_first x here.0) here.1 (rising.0 l.profile later))

  pub begins : (next : Option ListedRevision) → IsNextListed (tables_of h) team None next → IsWalked [] next
  begins next first = record {
    done = [];
    left = profiles_of h team;
    names = refl;
    listed = refl;
    next_is = starts (ComesAfter None) (profiles_of h team) (profiles_rising h team) (λ n has. (has, tt)) (λ n has any. has) next first;
  }

  pub is_listed : (profiles : List ListedProfile) (first : ListedRevision) → IsWalked profiles (Some first) → IsListed (tables_of h) team first
  is_listed profiles first walked = at_left walked.left walked.next_is
    where
      at_left : (left : List (List ℕ)) → IsAt (Some first) left → IsListed (tables_of h) team first
      at_left [] at = absurd at
      at_left (x ∷ left) at = at.0

  abbrev listed_as : List ℕ → ListedProfile
  listed_as name = listed_profile h (profile_of team name)

  pub goes_on : (profiles : List ListedProfile) (first : ListedRevision) → IsWalked profiles (Some first) → (profile : ListedProfile) (later : Option ListedRevision)
      → profile ≡ listed_profile h (profile_of team first.profile) → IsNextListed (tables_of h) team (Some first.profile) later → IsWalked (profiles ++ profile ∷ []) later
  goes_on profiles first walked profile later is next = further walked.left walked.names walked.next_is
    where
      further : (left : List (List ℕ)) → profiles_of h team ≡ walked.done ++ left → IsAt (Some first) left → IsWalked (profiles ++ profile ∷ []) later
      further [] names at = absurd at
      further (x ∷ left) names at =
          let rising = subst (IsRising NameBelow) names (profiles_rising h team) in
          let up = later_rising walked.done (x ∷ left) rising in
          let follows = subst (λ name. IsNextListed (tables_of h) team (Some name) later) at.1 next in
          record {
            done = walked.done ++ x ∷ [];
            left = left;
            names = names ∙ sym (append_assoc walked.done (x ∷ []) left);
            listed = (λ i. walked.listed i ++ (is ∙ ap listed_as at.1) i ∷ []) ∙ sym (map-append listed_as walked.done (x ∷ []));
            next_is =
                starts (ComesAfter (Some x)) left up.1
                (λ n has. (subst (λ names. Has names n) (sym names) (in_later walked.done (x ∷ left) n (inr has)), up.0 n has))
                (λ n has above. after_it walked.done left x n rising (subst (λ names. Has names n) names has) above) later follows;
          }

  pub ends : (profiles : List ListedProfile) → IsWalked profiles None → profiles ≡ listing_of h team
  ends profiles walked =
      let all : profiles_of h team ≡ walked.done = walked.names ∙ ap (λ left. walked.done ++ left) walked.next_is ∙ append-nil walked.done in
      walked.listed ∙ ap (map (λ name. listed_profile h (profile_of team name))) (sym all)

-- ---- over the tables of a lawful history

abbrev pub Walked : List ℕ → Tables → List ListedProfile × Option ListedRevision → Type 0
Walked team t walk = (h : History) → IsLawfulHistory h → t ≡ tables_of h → IsWalked h team walk.0 walk.1

pub walk_begins : (team : List ℕ) (next : Option ListedRevision) (t : Tables) → IsNextListed t team None next → Walked team t ([], next)
walk_begins team next t first h lawful same = begins h team next (subst (λ u. IsNextListed u team None next) same first)

pub walk_goes_on : (team : List ℕ) (profiles : List ListedProfile) (first : ListedRevision) (step : ListedProfile × Option ListedRevision) (t : Tables)
    → Walked team t (profiles, Some first) → IsStep team first t step → Walked team t (profiles ++ step.0 ∷ [], step.1)
walk_goes_on team profiles first step t walked is h lawful same =
    let so_far = walked h lawful same in
    let it = is h lawful same (subst (λ u. IsListed u team first) (sym same) (is_listed h team profiles first so_far)) in
    goes_on h team profiles first so_far step.0 step.1 it.0 (subst (λ u. IsNextListed u team (Some first.profile) step.1) same it.1)

pub walk_ends : (team : List ℕ) (profiles : List ListedProfile) (t : Tables) → Walked team t (profiles, None) → LooksBack (λ h. listing_of h team) t profiles
walk_ends team profiles t walked h lawful same = ends h team profiles (walked h lawful same)

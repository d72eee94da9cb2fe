-- The profiles of the revisions of a team are those that are listed.
use Rattle.std.proofs.Common.{◌⊎◌, inl, inr, ◌≡◌, ◌≢◌, ◌∙◌, ◌≤◌, ◌||◌, ℕ, List, [], ◌∷◌, Bool, true, false, Some, None, Option, refl, sym, ap, subst, arith}
use Rattle.std.specs.Prelude.{is_some, option_map, bytes_eq}
use Rattle.std.specs.List.{list_any}
use Rattle.std.proofs.lemmas.Slice.Eq.{bytes_eq-Decides}
use Rattle.office_words.specs.declared.name.ProfileName.{ProfileName}
use Rattle.office_words.specs.declared.revision.State.{State}
use Rattle.review_policy.specs.Rules.{is_issued}
use Rattle.office_words.specs.declared.listed.ListedRevision.{ListedRevision}
use Rattle.office_words.specs.declared.row.RevisionRow.{RevisionRow}
use Rattle.office_words.specs.Lists.{profile_of, IsListed, AreRevisionsOf}
use Rattle.office_words.specs.Tables.{Tables}
use Rattle.office_words.proofs.Members.{Has, has_contained, contains_had}
use Rattle.office_policy.specs.History.{History}
use Rattle.office_policy.specs.Revisions.{Submission, submission_of, revision_count, state_of, number_of, issued_revision}
use Rattle.office_policy.specs.Listing.{profiles_of, listing_of}
use Rattle.office_policy.specs.Laws.{listed_names}
use Rattle.office_policy.specs.TablesOf.{tables_of}
use Rattle.office_policy.proofs.RevisionFacts.{some_within}
use Rattle.office_policy.proofs.StateFacts.{row_at}
use Rattle.office_policy.proofs.Histories.{numbers}
use Rattle.office_policy.proofs.ListingFacts.{listing_names, in_order, all_listed}
use Rattle.office_policy.specs.Grouped.{profiles_in}
use Rattle.office_policy.proofs.Rising.{IsRising, rising_pairs, pairs_rising, same_rising, NameBelow, names_rising}
use Rattle.office_policy.proofs.Rows.{RowBelow, rows_apart, IsRow, rows_of, rows_have, have_rows, rows_rising}
use Rattle.office_policy.proofs.Groups.{IsIssueOf, grouped}
use Rattle.office_policy.proofs.IssuedFacts.{issued_at, issued_there}

-- two lists of the revisions of a team are one
pub one_list : (t : Tables) (team : List ℕ) (xs ys : List ListedRevision) → AreRevisionsOf t team xs → AreRevisionsOf t team ys → xs ≡ ys
one_list t team xs ys a b =
    same_rising RowBelow rows_apart xs ys (rising_pairs RowBelow xs a.rising) (rising_pairs RowBelow ys b.rising)
    (λ row h. has_contained ys row (b.all row (a.each row (contains_had xs row h))))
    (λ row h. has_contained xs row (a.all row (b.each row (contains_had ys row h))))

has_in : (names : List (List ℕ)) (name : List ℕ) → list_any (bytes_eq name) names ≡ true → Has names name
has_in [] name e = absurd (cc)
has_in (x ∷ names) name e = at_first (has_in names name) (bytes_eq name x) refl e
  where
    at_first : (list_any (bytes_eq name) names ≡ true → Has names name) → (b : Bool) → bytes_eq name x ≡ b
        → (b || list_any (bytes_eq name) names) ≡ true → (name ≡ x) ⊎ Has names name
    at_first later true same e = inl ((bytes_eq-Decides name x).0 same)
    at_first later false other e = inr (later e)

in_has : (names : List (List ℕ)) (name : List ℕ) → Has names name → list_any (bytes_eq name) names ≡ true
in_has [] name h = absurd h
in_has (x ∷ names) name (inl same) = rw ((bytes_eq-Decides name x).1 same) refl
in_has (x ∷ names) name (inr h) = either (bytes_eq name x) (in_has names name h)
  where
    either : (b : Bool) → list_any (bytes_eq name) names ≡ true → (b || list_any (bytes_eq name) names) ≡ true
    either true e = refl
    either false e = e

module _ (h : History) (team : List ℕ) where
  abbrev p_of : List ℕ → ProfileName
  p_of name = profile_of team name

  abbrev state : List ℕ → ℕ → State
  state name n = state_of h (p_of name) n

  abbrev count : List ℕ → ℕ
  count name = revision_count h (p_of name)

  abbrev issue : List ℕ → ℕ
  issue name = number_of (issued_revision h (p_of name))

  pub profiles_rising : IsRising NameBelow (profiles_of h team)
  profiles_rising = subst (IsRising NameBelow) (listing_names h team (profiles_of h team)) (names_rising (listed_names (listing_of h team)) (in_order h team))

  pub profile_has : (name : List ℕ) → Has (profiles_of h team) name → 1 ≤ count name
  profile_has name is =
      let among = subst (λ xs. Has xs name) (sym (listing_names h team (profiles_of h team))) is in
      omega (arith, (all_listed h team name).0 (in_has (listed_names (listing_of h team)) name among))

  pub has_profile : (name : List ℕ) → 1 ≤ count name → Has (profiles_of h team) name
  has_profile name some =
      let among = (all_listed h team name).1 (omega (arith, some)) in
      subst (λ xs. Has xs name) (listing_names h team (profiles_of h team)) (has_in (listed_names (listing_of h team)) name among)

  -- ---- the revisions of the tables

  pub listed_row : (l : ListedRevision) → 1 ≤ l.number → l.number ≤ count l.profile → l.state ≡ state l.profile l.number → IsListed (tables_of h) team l
  listed_row l first last same =
      by_submission (submission_of h (p_of l.profile) l.number) refl (some_within h (p_of l.profile) l.number (omega (arith, first)) last)
    where
      by_submission : (s : Option Submission) → submission_of h (p_of l.profile) l.number ≡ s → is_some s ≡ true → IsListed (tables_of h) team l
      by_submission None there some = absurd (cc)
      by_submission (Some s) there some = record {
        revision = row_at h (p_of l.profile) l.number (count l.profile) s;
        there = ap (option_map (row_at h (p_of l.profile) l.number (count l.profile))) there;
        state = sym same;
      }

  pub row_listed : (l : ListedRevision) → IsListed (tables_of h) team l → IsRow state count (profiles_of h team) l
  row_listed l it = by_submission (submission_of h (p_of l.profile) l.number) refl it.there
    where
      by_submission : (s : Option Submission) → submission_of h (p_of l.profile) l.number ≡ s
          → option_map (row_at h (p_of l.profile) l.number (count l.profile)) s ≡ Some it.revision → IsRow state count (profiles_of h team) l
      by_submission None found is = absurd (cc)
      by_submission (Some s) found is =
          let within = (numbers h (p_of l.profile) l.number).0 (ap is_some found) in
          let same : row_at h (p_of l.profile) l.number (count l.profile) s ≡ it.revision = cc in
          record {
            profile = has_profile l.profile (omega (arith, within.0, within.1));
            first = omega (arith, within.0);
            last = within.1;
            state_is = sym it.state ∙ sym (ap (λ (r : RevisionRow). r.state) same);
          }

  -- the revisions of the team's profiles, by profile and number
  team_rows : AreRevisionsOf (tables_of h) team (rows_of state count (profiles_of h team))
  team_rows = record {
    rising = pairs_rising RowBelow (rows_of state count (profiles_of h team)) (rows_rising state count (profiles_of h team) profiles_rising);
    each = λ l c.
        let it = rows_have state count (profiles_of h team) l (has_contained (rows_of state count (profiles_of h team)) l c) in
        listed_row l it.first it.last it.state_is;
    all = λ l it. contains_had (rows_of state count (profiles_of h team)) l (have_rows state count (profiles_of h team) l (row_listed l it));
  }

  -- ---- the number that is issued

  pub issue_of : (name : List ℕ) → IsIssueOf state count name (issue name)
  issue_of name = record { one = one; issued = by_found (issued_revision h (p_of name)) refl }
    where
      by_row : (n : ℕ) (s : Option Submission) → submission_of h (p_of name) n ≡ s → is_some s ≡ true → is_issued (Some (state name n)) ≡ true → n ≡ issue name
      by_row n None found some is = absurd (cc)
      by_row n (Some s) found some is =
          let at = issued_at h (p_of name) n (row_at h (p_of name) n (count name) s) (ap (option_map (row_at h (p_of name) n (count name))) found) is in
          sym (ap number_of at)

      one : (n : ℕ) → 1 ≤ n → n ≤ count name → is_issued (Some (state name n)) ≡ true → n ≡ issue name
      one n first last is = by_row n (submission_of h (p_of name) n) refl (some_within h (p_of name) n (omega (arith, first)) last) is

      there : (r : RevisionRow) (s : Option Submission) → submission_of h (p_of name) r.number ≡ s
          → option_map (row_at h (p_of name) r.number (count name)) s ≡ Some r
          → is_issued (Some r.state) ≡ true → (r.number ≤ count name) × (is_issued (Some (state name r.number)) ≡ true)
      there r None found is issued = absurd (cc)
      there r (Some s) found is issued =
          let same : row_at h (p_of name) r.number (count name) s ≡ r = cc in
          (((numbers h (p_of name) r.number).0 (ap is_some found)).1, ap (λ (x : RevisionRow). is_issued (Some x.state)) same ∙ issued)

      by_found : (o : Option RevisionRow) → issued_revision h (p_of name) ≡ o → number_of o ≢ 0
          → (number_of o ≤ count name) × (is_issued (Some (state name (number_of o))) ≡ true)
      by_found None found some = absurd (some refl)
      by_found (Some r) found some = let it = issued_there h (p_of name) r found in there r (submission_of h (p_of name) r.number) refl it.0 it.1

  -- ---- the listing

  pub listing_is : (rows : List ListedRevision) → AreRevisionsOf (tables_of h) team rows → profiles_in rows ≡ listing_of h team
  listing_is rows are =
      ap profiles_in (one_list (tables_of h) team rows (rows_of state count (profiles_of h team)) are team_rows)
      ∙ grouped state count issue (profiles_of h team) profiles_rising profile_has issue_of

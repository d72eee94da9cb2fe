-- What holds of histories, above the definitions.
use Rattle.std.specs.Prelude.{◌≡◌, ◌≢◌, ◌<◌, ◌≤◌, ◌↔◌, ℕ, List, ◌∷◌, true, Some, is_some, map}
use Rattle.std.specs.Prelude.{bytes_eq}
use Rattle.std.specs.List.{list_any}
use Rattle.std.specs.List.Sorted.{IsStrictlySortedBy}
use Rattle.std.specs.Ordering.{nat_cmp}
use Rattle.std.specs.Cmp.Lexicographic.{slice_cmp}
use Rattle.review_policy.specs.declared.answer.ListedProfile.{ListedProfile}
use Rattle.review_policy.specs.declared.ask.Request.{Request}
use Rattle.review_policy.specs.Rules.{is_issued}
use Rattle.office_words.specs.declared.name.ProfileName.{ProfileName}
use Rattle.office_words.specs.declared.revision.State.TheVariants.{Open}
use Rattle.office_words.specs.declared.row.UserRow.{UserRow}
use Rattle.office_words.specs.declared.row.RevisionRow.{RevisionRow}
use Rattle.office_policy.specs.History.{Event, History}
use Rattle.office_policy.specs.Users.{user_of}
use Rattle.office_policy.specs.Revisions.{Submission, submission_of, revision_of, revision_count}
use Rattle.office_policy.specs.Revisions.{state_in}
use Rattle.office_policy.specs.Listing.{listing_of}
use Rattle.office_policy.specs.Verdict.{verdict, unreached}

-- no two users show one digest
abbrev pub AreApart : History → Type 0
AreApart h =
    (a b : List ℕ) (u v : UserRow) → user_of h a ≡ Some u → user_of h b ≡ Some v
    → u.digest ≡ v.digest → a ≡ b

-- the team of each user is the same after one more event
abbrev pub KeepsTeams : History → Event → Type 0
KeepsTeams h e =
    (name : List ℕ) (u v : UserRow) → user_of h name ≡ Some u → user_of (e ∷ h) name ≡ Some v
    → v.team ≡ u.team

-- each submission is the same after one more event
abbrev pub KeepsSubmissions : History → Event → Type 0
KeepsSubmissions h e =
    (p : ProfileName) (n : ℕ) (s : Submission) → submission_of h p n ≡ Some s
    → submission_of (e ∷ h) p n ≡ Some s

-- the numbers of a profile's submissions are those from 1 to the last
abbrev pub NumbersRun : History → ProfileName → Type 0
NumbersRun h p =
    (n : ℕ) → (is_some (submission_of h p n) ≡ true) ↔ ((0 < n) × (n ≤ revision_count h p))

-- an open revision is the last of its profile
abbrev pub OpenIsLast : History → ProfileName → Type 0
OpenIsLast h p =
    (n : ℕ) (r : RevisionRow) → revision_of h p n ≡ Some r → r.state ≡ Open → n ≡ revision_count h p

-- no two revisions of a profile are issued
abbrev pub OneIssued : History → ProfileName → Type 0
OneIssued h p =
    (n k : ℕ) → is_issued (state_in (revision_of h p n)) ≡ true
    → is_issued (state_in (revision_of h p k)) ≡ true → n ≡ k

-- a rule refuses the request, or it is carried out
abbrev pub IsDecided : History → Request → Type 0
IsDecided h r = verdict h r ≢ unreached

-- the names of a list of profiles
abbrev pub listed_names : List ListedProfile → List (List ℕ)
listed_names profiles = map (λ p. p.profile) profiles

-- a team's profiles are listed in byte order, each once
abbrev pub ListsInOrder : History → List ℕ → Type 0
ListsInOrder h team = IsStrictlySortedBy (slice_cmp nat_cmp) (listed_names (listing_of h team))

-- just those profiles of a team are listed that have a revision
abbrev pub ListsAll : History → List ℕ → Type 0
ListsAll h team =
    (name : List ℕ) → (list_any (bytes_eq name) (listed_names (listing_of h team)) ≡ true)
    ↔ (0 < revision_count h (record { team = team; profile = name }))

-- How a profile stands, and what is found of it and of the next one.
use Rattle.std.specs.Prelude.{◌≡◌, ◌≤◌, ℕ, List, Option, Some, if◌then◌else◌}
use Rattle.office_words.specs.declared.name.ProfileName.{ProfileName}
use Rattle.review_policy.specs.declared.answer.ListedProfile.{ListedProfile}
use Rattle.office_words.specs.declared.revision.State.{State}
use Rattle.review_policy.specs.Rules.{is_issued}
use Rattle.office_words.specs.declared.listed.ListedRevision.{ListedRevision}
use Rattle.office_words.specs.Tables.{Tables}
use Rattle.office_words.specs.Lists.{profile_of, IsListed}
use Rattle.office_store.specs.Lists.{IsNextListed}
use Rattle.office_policy.specs.History.{History}
use Rattle.office_policy.specs.Lawful.{IsLawfulHistory}
use Rattle.office_policy.specs.Listing.{listed_profile}
use Rattle.office_policy.specs.Revisions.{revision_count, state_of, issued_revision, number_of}
use Rattle.office_policy.specs.TablesOf.{tables_of}
use Rattle.office_judging.specs.declared.profiles.Standing.{Standing}

-- how many revisions a profile has, the number that is issued or 0, and the state of the last one
abbrev pub standing_of : History → ProfileName → Standing
standing_of h p = record {
  last = revision_count h p;
  issued = number_of (issued_revision h p);
  state = state_of h p (revision_count h p);
}

-- the number of a revision in this state where that is issued, or 0
abbrev pub issued_if : ℕ → State → ℕ
issued_if number s = if is_issued (Some s) then number else 0

-- a revision of the profile
pub record IsOneOf (h : History) (p : ProfileName) (number : ℕ) (state : State) : Type 0 where
  pub first : 1 ≤ number
  pub last : number ≤ revision_count h p
  pub state_is : state ≡ state_of h p number

-- the last revision of the profile
pub record IsLastOf (h : History) (p : ProfileName) (number : ℕ) (state : State) : Type 0 where
  pub last : number ≡ revision_count h p
  pub one : IsOneOf h p number state

-- how the profile stands, over the tables of a lawful history in which this is known
abbrev pub StandsWhere : (History → Type 0) → ProfileName → Tables → Standing → Type 0
StandsWhere Known p t s =
    (h : History) → IsLawfulHistory h → t ≡ tables_of h → Known h → s ≡ standing_of h p

-- what is listed of the profile of a revision, and a revision of the next profile
abbrev pub IsStep : List ℕ → ListedRevision → Tables → ListedProfile × Option ListedRevision
    → Type 0
IsStep team first t step =
    (h : History) → IsLawfulHistory h → t ≡ tables_of h → IsListed t team first
    → (step.0 ≡ listed_profile h (profile_of team first.profile))
    × IsNextListed t team (Some first.profile) step.1

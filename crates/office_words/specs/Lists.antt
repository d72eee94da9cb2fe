-- What each read of several rows answers: the rows that the tables have, each once, in order.
use Rattle.std.specs.Prelude.{◌≡◌, ◌<◌, ℕ, List, Bool, false, not, ◌&&◌, Option, Some, None}
use Rattle.std.specs.Prelude.{count_by, map, take}
use Rattle.std.specs.List.{AllPairs, Contains}
use Rattle.std.specs.Ordering.{nat_cmp, ordering_then}
use Rattle.std.specs.Cmp.Lexicographic.{slice_cmp}
use Rattle.std.specs.declared.cmp.Ordering.{Ordering}
use Rattle.std.specs.declared.cmp.Ordering.TheVariants.{Less}
use Rattle.office_words.specs.declared.listed.ProfileRevision.{ProfileRevision}
use Rattle.office_words.specs.declared.name.ProfileName.{ProfileName}
use Rattle.office_words.specs.declared.revision.VoteRow.{VoteRow}
use Rattle.office_words.specs.declared.role.Role.{Role}
use Rattle.office_words.specs.declared.role.Role.TheVariants.{Reviewer, Security}
use Rattle.office_words.specs.Role.{has_role}
use Rattle.office_words.specs.declared.row.UserRow.{UserRow}
use Rattle.office_words.specs.declared.row.RevisionRow.{RevisionRow}
use Rattle.office_words.specs.declared.listed.ListedRevision.{ListedRevision}
use Rattle.office_words.specs.declared.listed.Tally.{Tally}
use Rattle.office_words.specs.Tables.{Tables, Vote}

-- the order of names: that of their bytes
abbrev pub name_cmp : List ℕ → List ℕ → Ordering
name_cmp = slice_cmp nat_cmp

-- ---- authors

-- some revision of the profile is by this name
pub record IsAuthor (t : Tables) (p : ProfileName) (name : List ℕ) : Type 0 where
  pub number : ℕ
  pub revision : RevisionRow
  pub there : t.revisions p number ≡ Some revision
  pub author : revision.author ≡ name

-- the authors of a profile, each once, by name
pub record AreAuthors (t : Tables) (p : ProfileName) (names : List (List ℕ)) : Type 0 where
  pub rising : AllPairs (λ a b. name_cmp a b ≡ Less) names
  pub each : (name : List ℕ) → Contains names name → IsAuthor t p name
  pub all : (name : List ℕ) → IsAuthor t p name → Contains names name

-- ---- the revisions of a team

-- by profile and then by number
abbrev pub listed_cmp : ListedRevision → ListedRevision → Ordering
listed_cmp a b = ordering_then (name_cmp a.profile b.profile) (nat_cmp a.number b.number)

abbrev pub profile_of : List ℕ → List ℕ → ProfileName
profile_of team profile = record { team = team; profile = profile }

-- the tables have a revision of the team's profile under that number, in that state
pub record IsListed (t : Tables) (team : List ℕ) (l : ListedRevision) : Type 0 where
  pub revision : RevisionRow
  pub there : t.revisions (profile_of team l.profile) l.number ≡ Some revision
  pub state : revision.state ≡ l.state

-- the revisions of a team, each once, by profile and number
pub record AreRevisionsOf (t : Tables) (team : List ℕ) (listed : List ListedRevision) : Type 0 where
  pub rising : AllPairs (λ a b. listed_cmp a b ≡ Less) listed
  pub each : (l : ListedRevision) → Contains listed l → IsListed t team l
  pub all : (l : ListedRevision) → IsListed t team l → Contains listed l

-- ---- the revisions of a profile

-- what is told of a revision in a list of its profile's
abbrev pub told_revision : RevisionRow → ProfileRevision
told_revision r = record { revision = r.number; state = r.state; digest = r.digest; by = r.author }

-- the revisions of a profile with a number below this one, each once, by falling numbers
pub record AreBelow (t : Tables) (p : ProfileName) (below : ℕ) (rows : List RevisionRow) : Type 0 where
  pub falling : AllPairs (λ (a b : RevisionRow). b.number < a.number) rows
  pub each : (r : RevisionRow) → Contains rows r
      → (t.revisions p r.number ≡ Some r) × (r.number < below)
  pub all : (r : RevisionRow) → t.revisions p r.number ≡ Some r → r.number < below → Contains rows r

-- the first of them are told, as many as the limit lets
pub record AreNewest (t : Tables) (p : ProfileName) (below limit : ℕ)
    (told : List ProfileRevision) : Type 0 where
  pub rows : List RevisionRow
  pub below_it : AreBelow t p below rows
  pub newest : told ≡ map told_revision (take limit rows)

-- ---- votes

-- whether a user is there and holds a role
abbrev pub holds_role : Option UserRow → Role → Bool
holds_role None role = false
holds_role (Some u) role = has_role u.roles role

-- a vote as it stands by the present row of its voter: it counts while that is a reviewer, and it
-- has security where it counts and the voter held that role at the vote and holds it now
abbrev pub standing_vote : List ℕ → Vote → Option UserRow → VoteRow
standing_vote voter v user = record {
  voter = voter;
  approve = v.approves;
  security = holds_role user Reviewer && v.security && holds_role user Security;
  counts = holds_role user Reviewer;
}

-- the row is of a vote on the revision, by its voter's present row
pub record IsStanding (t : Tables) (p : ProfileName) (number : ℕ) (row : VoteRow) : Type 0 where
  pub vote : Vote
  pub there : t.votes p number row.voter ≡ Some vote
  pub stands : row ≡ standing_vote row.voter vote (t.users row.voter)

-- the standing votes on a revision, one for each voter, by name
pub record AreStanding (t : Tables) (p : ProfileName) (number : ℕ)
    (rows : List VoteRow) : Type 0 where
  pub rising : AllPairs (λ (a b : VoteRow). name_cmp a.voter b.voter ≡ Less) rows
  pub each : (row : VoteRow) → Contains rows row → IsStanding t p number row
  pub all : (row : VoteRow) → IsStanding t p number row → Contains rows row

-- how many of these votes count and approve, approve with security, and count and reject
abbrev pub tally_of : List VoteRow → Tally
tally_of rows = record {
  approvals = count_by (λ (row : VoteRow). row.counts && row.approve) rows;
  secure = count_by (λ (row : VoteRow). row.approve && row.security) rows;
  rejections = count_by (λ (row : VoteRow). row.counts && not row.approve) rows;
}

-- the tally of the standing votes on a revision
pub record IsTally (t : Tables) (p : ProfileName) (number : ℕ) (tally : Tally) : Type 0 where
  pub rows : List VoteRow
  pub standing : AreStanding t p number rows
  pub counted : tally ≡ tally_of rows

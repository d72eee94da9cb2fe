-- What the reads of several rows show.
use Rattle.std.specs.Prelude.{◌≡◌, ◌≢◌, ◌<◌, ◌^◌, ℕ, suc, pos, true, List, [], ◌∷◌, map, Option}
use Rattle.std.specs.Prelude.{Some, None, length, Result, Ok, Err}
use Rattle.std.specs.List.{AllByRecursion}
use Rattle.std.specs.declared.cmp.Ordering.TheVariants.{Less}
use Rattle.sqlite.specs.declared.types.Value.TheVariants.{Int, Text, Blob}
use Rattle.sqlite.specs.Order.{Row}
use Rattle.office_words.specs.Limits.{max_listed}
use Rattle.office_words.specs.Words.{is_word}
use Rattle.office_words.specs.declared.listed.ProfileRevision.{ProfileRevision}
use Rattle.office_words.specs.declared.name.ProfileName.{ProfileName}
use Rattle.office_words.specs.declared.revision.VoteRow.{VoteRow}
use Rattle.office_words.specs.declared.row.UserRow.{UserRow}
use Rattle.office_words.specs.declared.row.RevisionRow.{RevisionRow}
use Rattle.office_words.specs.declared.listed.ListedRevision.{ListedRevision}
use Rattle.office_words.specs.Tables.{Tables, Vote}
use Rattle.office_words.specs.Lists.{IsListed, AreStanding, name_cmp, standing_vote, tally_of}
use Rattle.office_words.specs.declared.fault.Fault.{Fault}
use Rattle.office_words.specs.declared.listed.Tally.{Tally}
use Rattle.office_rows.specs.Told.{IsUnread}
use Rattle.office_store.specs.Entries.{state_number, bit}

-- ---- authors

abbrev pub name_row : List ℕ → Row
name_row name = Text name ∷ []

abbrev pub IsWord : List ℕ → Type 0
IsWord name = is_word name ≡ true

-- ---- the revisions of a team

abbrev pub listed_row : ListedRevision → Row
listed_row l = Text l.profile ∷ Int (pos l.number) ∷ Int (pos (state_number l.state)) ∷ []

pub record IsListedForm (l : ListedRevision) : Type 0 where
  pub profile : is_word l.profile ≡ true
  pub number : l.number < 2 ^ 32

-- ---- the newest revisions of a profile

-- one more than a list has, so that the list can tell whether there are more
abbrev pub most_read : ℕ
most_read = suc max_listed

abbrev pub told_row : ProfileRevision → Row
told_row l =
    Int (pos l.revision) ∷ Int (pos (state_number l.state)) ∷ Blob l.digest ∷ Text l.by ∷ []

pub record IsToldForm (l : ProfileRevision) : Type 0 where
  pub revision : l.revision < 2 ^ 32
  pub digest : length l.digest ≡ 32
  pub by : is_word l.by ≡ true

-- ---- from one profile of a team to the next

-- a revision of the first profile of the team whose name passes, or that no name of one passes
abbrev pub IsFirstListed : Tables → List ℕ → (List ℕ → Type 0) → Option ListedRevision → Type 0
IsFirstListed t team Passes None = (l : ListedRevision) → IsListed t team l → Passes l.profile → ⊥
IsFirstListed t team Passes (Some l) =
    IsListed t team l
    × Passes l.profile
    × ((m : ListedRevision) → IsListed t team m → Passes m.profile
    → name_cmp m.profile l.profile ≢ Less)

-- a name comes after that one, where there is that one
abbrev pub ComesAfter : Option (List ℕ) → List ℕ → Type 0
ComesAfter None name = Unit {0}
ComesAfter (Some before) name = name_cmp before name ≡ Less

-- a revision of the first profile of the team, or of the first after that of a name
abbrev pub IsNextListed : Tables → List ℕ → Option (List ℕ) → Option ListedRevision → Type 0
IsNextListed t team after = IsFirstListed t team (ComesAfter after)

-- ---- the number of a revision

abbrev pub number_row : ℕ → Row
number_row n = Int (pos n) ∷ []

abbrev pub IsNumber : ℕ → Type 0
IsNumber n = n < 2 ^ 32

-- the number of such a revision, or that there is none
abbrev pub IsNumberOf : (Option RevisionRow → Type 0) → Option ℕ → Type 0
IsNumberOf IsIt None = IsIt None
IsNumberOf IsIt (Some n) = (r : RevisionRow) × IsIt (Some r) × (r.number ≡ n)

-- ---- votes

-- a vote on a revision, with the present row of its voter
pub record Cast : Type 0 where
  pub voter : List ℕ
  pub vote : Vote
  pub user : Option UserRow

-- the roles of a user; where there is no such user, none
abbrev pub roles_of : Option UserRow → ℕ
roles_of None = 0
roles_of (Some u) = u.roles

abbrev pub cast_row : Cast → Row
cast_row c =
    Text c.voter ∷ Int (bit c.vote.approves) ∷ Int (bit c.vote.security)
    ∷ Int (pos (roles_of c.user)) ∷ []

abbrev pub standing_of : Cast → VoteRow
standing_of c = standing_vote c.voter c.vote c.user

pub record IsCastForm (c : Cast) : Type 0 where
  pub voter : is_word c.voter ≡ true
  pub roles : roles_of c.user < 64

-- the rows of the standing votes on a revision
pub record AreVoteRows (t : Tables) (p : ProfileName) (number : ℕ) (rows : List Row) : Type 0 where
  pub cast : List Cast
  pub rows_are : rows ≡ map cast_row cast
  pub standing : AreStanding t p number (map standing_of cast)
  pub formed : AllByRecursion IsCastForm cast

-- the row is that of a vote, which stands as this by the roles that the row has
pub record IsCastAs (row : Row) (vote : VoteRow) : Type 0 where
  pub cast : Cast
  pub row_is : row ≡ cast_row cast
  pub stands : vote ≡ standing_of cast

-- the rows are those of votes, which stand as these
pub record AreCastAs (rows : List Row) (votes : List VoteRow) : Type 0 where
  pub cast : List Cast
  pub rows_are : rows ≡ map cast_row cast
  pub stand : votes ≡ map standing_of cast

-- the votes are told of the rows
abbrev pub TellsVotes : List Row → Result (List VoteRow) Fault → Type 0
TellsVotes rows (Ok votes) = AreCastAs rows votes
TellsVotes rows (Err f) = IsUnread (map cast_row) (AllByRecursion IsCastForm) rows f

-- the tally is told of such votes
abbrev pub TellsTally : List Row → Result Tally Fault → Type 0
TellsTally rows (Ok tally) =
    (votes : List VoteRow) × TellsVotes rows (Ok votes) × (tally ≡ tally_of votes)
TellsTally rows (Err f) = IsUnread (map cast_row) (AllByRecursion IsCastForm) rows f

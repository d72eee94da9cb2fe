-- The entries of each table: their keys, the columns that SQL keeps of them, and their form.
use Rattle.std.specs.Prelude.{◌≡◌, ◌<◌, ◌^◌, ◌==◌, ◌&&◌, ℕ, ℤ, pos, Bool, true, List, [], ◌∷◌}
use Rattle.std.specs.Prelude.{length, bytes_eq, if◌then◌else◌, IsUtf8}
use Rattle.sqlite.specs.declared.types.Value.TheVariants.{Int, Text, Blob}
use Rattle.sqlite.specs.Order.{Row}
use Rattle.office_words.specs.Words.{is_word}
use Rattle.office_words.specs.declared.name.ProfileName.{ProfileName}
use Rattle.office_words.specs.declared.revision.State.{State}
use Rattle.office_words.specs.declared.revision.State.TheVariants.{Open, Closed, Issued, Replaced}
use Rattle.office_words.specs.declared.revision.State.TheVariants.{Withdrawn}
use Rattle.office_words.specs.declared.row.UserRow.{UserRow}
use Rattle.office_words.specs.declared.row.RevisionRow.{RevisionRow}
use Rattle.office_words.specs.Tables.{Vote, Baseline, is_profile}

-- ---- users, by name

abbrev pub is_named : List ℕ → UserRow → Bool
is_named name u = bytes_eq name u.name

abbrev pub user_row : UserRow → Row
user_row u = Text u.name ∷ Text u.team ∷ Int (pos u.roles) ∷ Blob u.digest ∷ []

pub record IsUser (u : UserRow) : Type 0 where
  pub name : is_word u.name ≡ true
  pub team : is_word u.team ≡ true
  pub roles : u.roles < 64
  pub digest : length u.digest ≡ 32

-- ---- profiles

pub record IsProfileName (p : ProfileName) : Type 0 where
  pub team : is_word p.team ≡ true
  pub profile : is_word p.profile ≡ true

-- ---- revisions, by profile and number

abbrev pub state_number : State → ℕ
state_number Open = 0
state_number Closed = 1
state_number Issued = 2
state_number Replaced = 3
state_number Withdrawn = 4

abbrev pub Revision : Type 0
Revision = ProfileName × RevisionRow

abbrev pub same_revision : ProfileName × ℕ → ProfileName × ℕ → Bool
same_revision a b = is_profile a.0 b.0 && (a.1 == b.1)

abbrev pub revision_key : Revision → ProfileName × ℕ
revision_key e = (e.0, e.1.number)

abbrev pub revision_row : Revision → Row
revision_row e =
    Text e.0.team ∷ Text e.0.profile ∷ Int (pos e.1.number) ∷ Text e.1.author
    ∷ Int (pos (state_number e.1.state)) ∷ Text e.1.body ∷ Blob e.1.digest ∷ []

-- what a read of a revision shows
abbrev pub revision_columns : RevisionRow → Row
revision_columns r =
    Int (pos r.number) ∷ Text r.author ∷ Int (pos (state_number r.state)) ∷ Text r.body
    ∷ Blob r.digest ∷ []

pub record IsRevision (e : Revision) : Type 0 where
  pub profile : IsProfileName e.0
  pub number : e.1.number < 2 ^ 32
  pub author : is_word e.1.author ≡ true
  pub body : IsUtf8 e.1.body
  pub digest : length e.1.digest ≡ 32

-- of some profile
abbrev pub IsRevisionForm : RevisionRow → Type 0
IsRevisionForm r = (p : ProfileName) × IsRevision (p, r)

-- ---- votes, by profile, number and voter

pub record VoteKey : Type 0 where
  pub profile : ProfileName
  pub number : ℕ
  pub voter : List ℕ

-- the key of this voter's vote on a revision
abbrev pub vote_key : ProfileName → ℕ → List ℕ → VoteKey
vote_key p n voter = record { profile = p; number = n; voter = voter }

abbrev pub VoteEntry : Type 0
VoteEntry = VoteKey × Vote

-- the vote of this voter on a revision, with whether it approves and whether it has security
abbrev pub vote_entry : ProfileName → ℕ → List ℕ → (approves security : Bool) → VoteEntry
vote_entry p n voter approves security =
    (vote_key p n voter, record { approves = approves; security = security })

abbrev pub same_vote : VoteKey → VoteKey → Bool
same_vote a b = is_profile a.profile b.profile && (a.number == b.number) && bytes_eq a.voter b.voter

abbrev pub bit : Bool → ℤ
bit b = if b then pos 1 else pos 0

abbrev pub vote_row : VoteEntry → Row
vote_row e =
    Text e.0.profile.team ∷ Text e.0.profile.profile ∷ Int (pos e.0.number) ∷ Text e.0.voter
    ∷ Int (bit e.1.approves) ∷ Int (bit e.1.security) ∷ []

-- what a read of a vote shows
abbrev pub voted_row : Vote → Row
voted_row v = Int (bit v.approves) ∷ Int (bit v.security) ∷ []

pub record IsVote (e : VoteEntry) : Type 0 where
  pub profile : IsProfileName e.0.profile
  pub number : e.0.number < 2 ^ 32
  pub voter : is_word e.0.voter ≡ true

-- ---- baselines, by team

abbrev pub BaselineEntry : Type 0
BaselineEntry = List ℕ × Baseline

-- the entry that makes a revision the baseline of its team
abbrev pub baseline_entry : ProfileName → ℕ → BaselineEntry
baseline_entry p n = (p.team, record { profile = p.profile; number = n })

abbrev pub baseline_row : BaselineEntry → Row
baseline_row e = Text e.0 ∷ Text e.1.profile ∷ Int (pos e.1.number) ∷ []

-- what a read of a baseline shows
abbrev pub adopted_row : Baseline → Row
adopted_row b = Text b.profile ∷ Int (pos b.number) ∷ []

pub record IsBaseline (e : BaselineEntry) : Type 0 where
  pub team : is_word e.0 ≡ true
  pub profile : is_word e.1.profile ≡ true
  pub number : e.1.number < 2 ^ 32

-- ---- holds, by profile

abbrev pub hold_row : ProfileName → Row
hold_row p = Text p.team ∷ Text p.profile ∷ []

-- The six tables of an office, each as what it has at a key.
use Rattle.std.specs.Prelude.{ℕ, List, Bool, ◌&&◌, Option, bytes_eq}
use Rattle.office_words.specs.declared.name.ProfileName.{ProfileName}
use Rattle.office_words.specs.declared.row.UserRow.{UserRow}
use Rattle.office_words.specs.declared.row.RevisionRow.{RevisionRow}

-- whether two names are of one profile
abbrev pub is_profile : ProfileName → ProfileName → Bool
is_profile p q = bytes_eq p.team q.team && bytes_eq p.profile q.profile

-- the last vote of a user on a revision, and whether the voter held the role security at it
pub record Vote : Type 0 where
  pub approves : Bool
  pub security : Bool

-- the revision that a team last adopted
pub record Baseline : Type 0 where
  pub profile : List ℕ
  pub number : ℕ

pub record Tables : Type 0 where
  -- the listed capabilities, fixed at the founding
  pub listed : ℕ
  -- by name
  pub users : List ℕ → Option UserRow
  -- by profile and number
  pub revisions : ProfileName → ℕ → Option RevisionRow
  -- by profile, number and voter
  pub votes : ProfileName → ℕ → List ℕ → Option Vote
  -- by team
  pub baselines : List ℕ → Option Baseline
  -- the profiles that are held
  pub holds : ProfileName → Bool

-- What each read of a store answers of the tables, where that is more than what stands at a key.
use Rattle.std.specs.Prelude.{◌≡◌, ◌≢◌, ◌<◌, ℕ, List, Option, Some, None}
use Rattle.office_words.specs.declared.name.ProfileName.{ProfileName}
use Rattle.office_words.specs.declared.revision.State.TheVariants.{Open, Issued}
use Rattle.office_words.specs.declared.row.UserRow.{UserRow}
use Rattle.office_words.specs.declared.row.RevisionRow.{RevisionRow}
use Rattle.office_words.specs.Tables.{Tables}
use Rattle.office_words.specs.Changes.{with_revision}

-- a user who shows this digest, or that there is none
abbrev pub IsUserShowing : Tables → List ℕ → Option UserRow → Type 0
IsUserShowing t digest None =
    (name : List ℕ) (u : UserRow) → t.users name ≡ Some u → u.digest ≢ digest
IsUserShowing t digest (Some u) = (t.users u.name ≡ Some u) × (u.digest ≡ digest)

-- the revision of a profile with the greatest number, or that there is none
abbrev pub IsLast : Tables → ProfileName → Option RevisionRow → Type 0
IsLast t p None = (n : ℕ) → t.revisions p n ≡ None
IsLast t p (Some r) =
    (t.revisions p r.number ≡ Some r) × ((n : ℕ) → r.number < n → t.revisions p n ≡ None)

-- a revision of the profile that is issued, or that there is none
abbrev pub IsIssued : Tables → ProfileName → Option RevisionRow → Type 0
IsIssued t p None = (n : ℕ) (r : RevisionRow) → t.revisions p n ≡ Some r → r.state ≢ Issued
IsIssued t p (Some r) = (t.revisions p r.number ≡ Some r) × (r.state ≡ Issued)

-- a revision of the profile
pub record HasRevision (t : Tables) (p : ProfileName) : Type 0 where
  pub number : ℕ
  pub revision : RevisionRow
  pub there : t.revisions p number ≡ Some revision

-- a revision that is submitted
abbrev pub submitted : ℕ → List ℕ → List ℕ → List ℕ → RevisionRow
submitted number author body digest =
    record { number = number; author = author; state = Open; body = body; digest = digest }

-- a revision is added, whose number is free
abbrev pub Adds : ProfileName → RevisionRow → Tables → Tables → Type 0
Adds p r t u = (t.revisions p r.number ≡ None) × (u ≡ with_revision p r t)

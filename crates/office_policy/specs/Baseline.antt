-- What the revisions of a team are compared with.
use Rattle.std.specs.Prelude.{ℕ, List, [], ◌∷◌, ◌&&◌, if◌then◌else◌, Option, Some, None}
use Rattle.std.specs.Prelude.{option_map, bytes_eq}
use Rattle.profile_text.specs.declared.profile.Profile.{Profile}
use Rattle.profile_text.specs.Profile.{closed_profile}
use Rattle.review_policy.specs.declared.act.Effect.TheVariants.{Adopts}
use Rattle.office_words.specs.declared.revision.State.{State}
use Rattle.office_words.specs.declared.revision.State.TheVariants.{Withdrawn}
use Rattle.review_policy.specs.Acts.{has_effect}
use Rattle.office_words.specs.declared.row.RevisionRow.{RevisionRow}
use Rattle.office_words.specs.Tables.{Baseline}
use Rattle.office_policy.specs.History.{founded, on_revision, History}
use Rattle.office_policy.specs.Revisions.{revision_of}
use Rattle.office_policy.specs.Documents.{document_of}

-- the listed capabilities, fixed at the founding
abbrev pub listed_of : History → ℕ
listed_of [] = 0
listed_of (founded n t d listed ∷ before) = listed
listed_of (_ ∷ before) = listed_of before

-- the revision of the last adoption that names the team
abbrev pub adoption_of : History → List ℕ → Option Baseline
adoption_of [] team = None
adoption_of (on_revision c act q n ∷ before) team =
    if has_effect act Adopts && bytes_eq team q.team
    then Some (record { profile = q.profile; number = n })
    else adoption_of before team
adoption_of (_ ∷ before) team = adoption_of before team

-- a revision, unless it was withdrawn
abbrev pub unless_withdrawn : Option RevisionRow → Option RevisionRow
unless_withdrawn None = None
unless_withdrawn (Some r) = unless r.state
  where
    unless : State → Option RevisionRow
    unless Withdrawn = None
    unless state = Some r

-- the revision of an adoption, with the name of its profile, where it isn't withdrawn now
abbrev pub standing_adoption : History → (team : List ℕ) → Option Baseline
    → Option (List ℕ × RevisionRow)
standing_adoption h team None = None
standing_adoption h team (Some b) =
    option_map (λ r. (b.profile, r))
    (unless_withdrawn (revision_of h (record { team = team; profile = b.profile }) b.number))

-- the revision that a team last adopted, with the name of its profile, where it isn't withdrawn now
abbrev pub adopted_revision : History → List ℕ → Option (List ℕ × RevisionRow)
adopted_revision h team = standing_adoption h team (adoption_of h team)

-- the document of an adopted revision, else the closed profile
abbrev pub document_or_closed : Option (List ℕ × RevisionRow) → Profile
document_or_closed None = closed_profile
document_or_closed (Some found) = document_of found.1.body

-- the document that a team last adopted, where its revision isn't withdrawn now, else the closed
-- profile
abbrev pub baseline_of : History → List ℕ → Profile
baseline_of h team = document_or_closed (adopted_revision h team)

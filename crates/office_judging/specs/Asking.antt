-- What a request asks about, and what it asks of its caller.
use Rattle.std.specs.Prelude.{ℕ, [], Bool, true, false, not, ◌||◌, Some}
use Rattle.review_policy.specs.declared.act.RevisionAct.TheVariants.{Issue, Withdraw, Adopt}
use Rattle.review_policy.specs.declared.ask.Ask.{Ask}
use Rattle.review_policy.specs.declared.ask.Ask.TheVariants as ask
use Rattle.office_words.specs.declared.name.ProfileName.{ProfileName}
use Rattle.office_words.specs.declared.role.Role.TheVariants.{Registrar, Author, Reviewer}
use Rattle.office_words.specs.declared.role.Role.TheVariants.{Security, Issuer, Machine}
use Rattle.office_words.specs.declared.row.UserRow.{UserRow}
use Rattle.office_words.specs.Lists.{holds_role}
use Rattle.office_policy.specs.Facts.{sees_every_team}
use Rattle.office_policy.specs.Users.{is_of_team}

-- whether a profile is asked about
abbrev pub names_profile : Ask → Bool
names_profile (ask.Enrol user team roles digest) = false
names_profile (ask.List team) = false
names_profile ask.Me = false
names_profile _ = true

-- the profile that is asked about
abbrev pub profile_in : Ask → ProfileName
profile_in (ask.Submit p document) = p
profile_in (ask.Vote p n digest approve) = p
profile_in (ask.ActOnRevision act p n) = p
profile_in (ask.SeeRevision view p n) = p
profile_in (ask.ActOnProfile act p) = p
profile_in (ask.SeeProfile view p) = p
profile_in (ask.Revisions p before) = p
profile_in _ = record { team = []; profile = [] }

-- the number of the revision that is asked about, or 0
abbrev pub number_in : Ask → ℕ
number_in (ask.Vote p n digest approve) = n
number_in (ask.ActOnRevision act p n) = n
number_in (ask.SeeRevision view p n) = n
number_in _ = 0

module _ (caller : UserRow) where
  -- whether the caller holds none of the roles that may ask this
  abbrev pub role_missing : Ask → Bool
  role_missing (ask.Enrol user team roles digest) = not (holds_role (Some caller) Registrar)
  role_missing (ask.Submit p document) = not (holds_role (Some caller) Author)
  role_missing (ask.Vote p n digest approve) = not (holds_role (Some caller) Reviewer)
  role_missing (ask.ActOnRevision Issue p n) = not (holds_role (Some caller) Issuer)
  role_missing (ask.ActOnRevision Withdraw p n) =
      not (holds_role (Some caller) Author || holds_role (Some caller) Security)
  role_missing (ask.ActOnRevision Adopt p n) = not (holds_role (Some caller) Security)
  role_missing (ask.SeeRevision view p n) =
      not (holds_role (Some caller) Author || sees_every_team (Some caller))
  role_missing (ask.List team) =
      not (holds_role (Some caller) Author || sees_every_team (Some caller))
  role_missing (ask.ActOnProfile act p) = not (holds_role (Some caller) Security)
  role_missing (ask.SeeProfile view p) = not (holds_role (Some caller) Machine)
  role_missing ask.Me = false
  role_missing (ask.Revisions p before) =
      not (holds_role (Some caller) Author || sees_every_team (Some caller))

  -- whether the team isn't the caller's, and no role of the caller passes over that
  abbrev pub other_team : Ask → Bool
  other_team (ask.Submit p document) = not (is_of_team (Some caller) p.team)
  other_team (ask.ActOnRevision act p n) =
      not (is_of_team (Some caller) p.team || holds_role (Some caller) Security)
  other_team (ask.SeeRevision view p n) =
      not (is_of_team (Some caller) p.team || sees_every_team (Some caller))
  other_team (ask.List team) =
      not (is_of_team (Some caller) team || sees_every_team (Some caller))
  other_team (ask.SeeProfile view p) = not (is_of_team (Some caller) p.team)
  other_team (ask.Revisions p before) =
      not (is_of_team (Some caller) p.team || sees_every_team (Some caller))
  other_team _ = false

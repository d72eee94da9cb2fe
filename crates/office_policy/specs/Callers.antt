-- Who may ask what, and who asked for what happened.
use Rattle.std.specs.Prelude.{◌≡◌, ℕ, List, [], ◌∷◌, Bool, true, false, ◌&&◌, ◌||◌, Option, Some}
use Rattle.std.specs.Prelude.{None, map, bytes_eq}
use Rattle.std.specs.List.{list_any}
use Rattle.profile_text.specs.Digest.{digest_of}
use Rattle.review_policy.specs.declared.act.RevisionAct.TheVariants.{Issue, Withdraw, Adopt}
use Rattle.review_policy.specs.declared.ask.Ask.{Ask}
use Rattle.review_policy.specs.declared.ask.Ask.TheVariants as ask
use Rattle.review_policy.specs.declared.ask.Request.{Request}
use Rattle.review_policy.specs.declared.denial.Rule.{Rule}
use Rattle.review_policy.specs.declared.denial.Rule.TheVariants.{CallerUnknown, RoleMissing}
use Rattle.review_policy.specs.declared.denial.Rule.TheVariants.{OtherTeam}
use Rattle.office_words.specs.declared.role.Role.{Role}
use Rattle.office_words.specs.declared.role.Role.TheVariants.{Registrar, Author, Reviewer}
use Rattle.office_words.specs.declared.role.Role.TheVariants.{Security, Issuer, Machine}
use Rattle.office_words.specs.declared.row.UserRow.{UserRow}
use Rattle.office_words.specs.Lists.{holds_role}
use Rattle.office_policy.specs.History.{Event, founded, did, History}
use Rattle.office_policy.specs.Users.{user_of}
use Rattle.office_policy.specs.Teams.{team_of}

-- ---- by which role

-- the roles that look at the revisions of every team
abbrev pub onlookers : List Role
onlookers = Reviewer ∷ Security ∷ Issuer ∷ []

-- the roles that may ask this of any team
abbrev pub roles_for_any_team : Ask → List Role
roles_for_any_team (ask.Enrol user team roles digest) = Registrar ∷ []
roles_for_any_team (ask.Submit p document) = []
roles_for_any_team (ask.Vote p n digest approve) = Reviewer ∷ []
roles_for_any_team (ask.ActOnRevision Issue p n) = Issuer ∷ []
roles_for_any_team (ask.ActOnRevision Withdraw p n) = Security ∷ []
roles_for_any_team (ask.ActOnRevision Adopt p n) = Security ∷ []
roles_for_any_team (ask.SeeRevision view p n) = onlookers
roles_for_any_team (ask.List team) = onlookers
roles_for_any_team (ask.ActOnProfile act p) = Security ∷ []
roles_for_any_team (ask.SeeProfile view p) = []
roles_for_any_team ask.Me = []
roles_for_any_team (ask.Revisions p before) = onlookers

-- the roles that may ask it of the own team alone
abbrev pub roles_for_own_team : Ask → List Role
roles_for_own_team (ask.Submit p document) = Author ∷ []
roles_for_own_team (ask.ActOnRevision Withdraw p n) = Author ∷ []
roles_for_own_team (ask.SeeRevision view p n) = Author ∷ []
roles_for_own_team (ask.List team) = Author ∷ []
roles_for_own_team (ask.SeeProfile view p) = Machine ∷ []
roles_for_own_team (ask.Revisions p before) = Author ∷ []
roles_for_own_team _ = []

-- whether every user may ask it, whatever the roles
abbrev pub is_for_all : Ask → Bool
is_for_all ask.Me = true
is_for_all _ = false

-- whether a user holds one of these roles
abbrev pub holds_one : UserRow → List Role → Bool
holds_one user roles = list_any (holds_role (Some user)) roles

-- whether a user may ask this
abbrev pub may_ask : UserRow → Ask → Bool
may_ask user a =
    is_for_all a
    || holds_one user (roles_for_any_team a)
    || (bytes_eq user.team (team_of a) && holds_one user (roles_for_own_team a))

-- ---- the rules that say so

-- whether a rule asks who the caller is
abbrev pub is_of_caller : Rule → Bool
is_of_caller CallerUnknown = true
is_of_caller RoleMissing = true
is_of_caller OtherTeam = true
is_of_caller _ = false

-- the rules in their order, where only those that ask who the caller is refuse
abbrev pub of_caller : List (Rule × Bool) → List (Rule × Bool)
of_caller rules = map (λ r. (r.0, is_of_caller r.0 && r.1)) rules

-- ---- who did what

-- the name of the user who asked for what happened; nobody asks for a founding
abbrev pub caller_of : Event → Option (List ℕ)
caller_of (founded name team digest listed) = None
caller_of (did caller deed) = Some caller

-- what happened, if anything did, was asked for by the user of this name
abbrev pub IsAskedBy : List ℕ → Option Event → Type 0
IsAskedBy name None = Unit {0}
IsAskedBy name (Some e) = caller_of e ≡ Some name

-- a request is carried out for a user who may ask it, and whose present digest is that of the whole
-- token that was shown
pub record IsForCaller (h : History) (r : Request) (event : Option Event) : Type 0 where
  pub caller : UserRow
  pub enrolled : user_of h caller.name ≡ Some caller
  pub shows : caller.digest ≡ digest_of r.token
  pub may : may_ask caller r.ask ≡ true
  pub asked : IsAskedBy caller.name event

-- Which events are shown.
use Rattle.std.specs.Prelude.{ℕ, List, Bool, true, false, ◌&&◌, Option, Some, None, nat_le}
use Rattle.std.specs.Str.{bytes_eq}
use Rattle.office_words.specs.declared.name.ProfileName.{ProfileName}
use Rattle.office_policy.specs.History.{Event, did, founded, enrolled, submitted, voted}
use Rattle.office_policy.specs.History.{on_revision, on_profile}

-- the profile that an event is about, where it is about one
abbrev pub profile_of : Event → Option ProfileName
profile_of (founded name team digest listed) = None
profile_of (enrolled caller name team roles digest) = None
profile_of (submitted caller p text) = Some p
profile_of (voted caller p n digest approves) = Some p
profile_of (on_revision caller act p n) = Some p
profile_of (on_profile caller act p) = Some p

-- the team that it names: of the user who is founded or enrolled, or of the profile
abbrev pub team_of : Event → List ℕ
team_of (founded name team digest listed) = team
team_of (enrolled caller name team roles digest) = team
team_of (submitted caller p text) = p.team
team_of (voted caller p n digest approves) = p.team
team_of (on_revision caller act p n) = p.team
team_of (on_profile caller act p) = p.team

-- the event names this team, where one is asked for
abbrev pub is_of_team : Option (List ℕ) → Event → Bool
is_of_team None e = true
is_of_team (Some team) e = bytes_eq team (team_of e)

-- the event is about a profile, which has this name
abbrev pub is_named : List ℕ → Option ProfileName → Bool
is_named profile None = false
is_named profile (Some p) = bytes_eq profile p.profile

abbrev pub is_about : Option (List ℕ) → Event → Bool
is_about None e = true
is_about (Some profile) e = is_named profile (profile_of e)

-- the event was done by this user, where one is asked for; a founding by the one who is founded
abbrev pub is_by : Option (List ℕ) → Event → Bool
is_by None e = true
is_by (Some user) (founded name team digest listed) = bytes_eq user name
is_by (Some user) (did caller deed) = bytes_eq user caller

-- which events are asked for: those of a team, those about profiles of a name, those that a user
-- did, and those from a line on; and whether as JSON
pub record Asked : Type 0 where
  pub team : Option (List ℕ)
  pub profile : Option (List ℕ)
  pub user : Option (List ℕ)
  pub since : ℕ
  pub json : Bool

-- the event is asked for, on whatever line
abbrev pub is_asked : Asked → Event → Bool
is_asked asked e = is_of_team asked.team e && (is_about asked.profile e && is_by asked.user e)

-- the event of a line is
abbrev pub passes : Asked → (ℕ × Event) → Bool
passes asked placed = nat_le asked.since placed.0 && is_asked asked placed.1

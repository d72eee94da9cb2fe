-- What concerns a team.
use Rattle.std.specs.Prelude.{ℕ, List, [], Bool, true, bytes_eq}
use Rattle.review_policy.specs.declared.ask.Ask.{Ask}
use Rattle.review_policy.specs.declared.ask.Ask.TheVariants as ask
use Rattle.office_policy.specs.History.{Event, founded, enrolled, submitted, voted}
use Rattle.office_policy.specs.History.{on_revision, on_profile}

-- an event of a profile concerns the profile's team; the founding and the enrolments concern every
-- team
abbrev pub concerns : List ℕ → Event → Bool
concerns team (founded n t d listed) = true
concerns team (enrolled c n t r d) = true
concerns team (submitted c p t) = bytes_eq team p.team
concerns team (voted c p n d a) = bytes_eq team p.team
concerns team (on_revision c act p n) = bytes_eq team p.team
concerns team (on_profile c act p) = bytes_eq team p.team

-- the team that a request names; who asks who that is names none
abbrev pub team_of : Ask → List ℕ
team_of (ask.Enrol user team roles digest) = team
team_of (ask.Submit p document) = p.team
team_of (ask.Vote p n digest approve) = p.team
team_of (ask.ActOnRevision act p n) = p.team
team_of (ask.SeeRevision view p n) = p.team
team_of (ask.List team) = team
team_of (ask.ActOnProfile act p) = p.team
team_of (ask.SeeProfile view p) = p.team
team_of ask.Me = []
team_of (ask.Revisions p before) = p.team

-- What a route and a body ask.
use Rattle.std.specs.Prelude.{ℕ, List, [], ◌∷◌, Option, Some, None}
use Rattle.office_words.specs.declared.name.ProfileName.{ProfileName}
use Rattle.json_requests.specs.Bodies.{enrol_in, vote_in}
use Rattle.json_requests.specs.Plain.{PlainAsk, submit, list, act_on_revision, see_revision}
use Rattle.json_requests.specs.Plain.{act_on_profile, see_profile, me, revisions as newest}
use Rattle.http_requests.specs.declared.route.Route.{Route}
use Rattle.http_requests.specs.declared.route.Route.TheVariants.{Users, Me, Team, Revisions, Submit}
use Rattle.http_requests.specs.declared.route.Route.TheVariants.{Profile, Revision}
use Rattle.http_requests.specs.declared.route.ProfileAsk.{ProfileAsk}
use Rattle.http_requests.specs.declared.route.ProfileAsk.TheVariants as profiles
use Rattle.http_requests.specs.declared.route.RevisionAsk.{RevisionAsk}
use Rattle.http_requests.specs.declared.route.RevisionAsk.TheVariants as revisions

-- what has no body is asked by an empty one
abbrev pub without_body : List ℕ → PlainAsk → Option PlainAsk
without_body [] ask = Some ask
without_body (b ∷ bytes) ask = None

-- what is asked of a profile
abbrev pub of_profile : ProfileAsk → ProfileName → List ℕ → Option PlainAsk
of_profile (profiles.Act act) name body = without_body body (act_on_profile act name)
of_profile (profiles.See view) name body = without_body body (see_profile view name)

-- what is asked of a revision
abbrev pub of_revision : RevisionAsk → ProfileName → ℕ → List ℕ → Option PlainAsk
of_revision revisions.Vote name number body = vote_in name number body
of_revision (revisions.Act act) name number body =
    without_body body (act_on_revision act name number)
of_revision (revisions.See view) name number body =
    without_body body (see_revision view name number)

-- what is asked by a route with a body: a submission's body is its document, whatever its bytes
abbrev pub asked_of : Route → List ℕ → Option PlainAsk
asked_of Users body = enrol_in body
asked_of Me body = without_body body me
asked_of (Team team) body = without_body body (list team)
asked_of (Revisions name before) body = without_body body (newest name before)
asked_of (Submit name) body = Some (submit name body)
asked_of (Profile asked name) body = of_profile asked name body
asked_of (Revision asked name number) body = of_revision asked name number body

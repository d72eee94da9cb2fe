-- What a target names, and what a method asks of it.
use Rattle.std.specs.Prelude.{ℕ, List, Option, Some, None, option_map, option_and_then, Result}
use Rattle.std.specs.Prelude.{Err, if◌then◌else◌}
use Rattle.office_words.specs.Words.{is_word}
use Rattle.office_words.specs.declared.name.ProfileName.{ProfileName}
use Rattle.json_requests.specs.Members.{◌>>=◌}
use Rattle.http_requests.specs.Methods.{method_named, with_method}
use Rattle.http_requests.specs.Numbers.{revision_number_of}
use Rattle.http_requests.specs.Parts.{form_of, part_at}
use Rattle.http_requests.specs.Queries.{before_of, path_of, query_of}
use Rattle.http_requests.specs.declared.form.Form.{Form}
use Rattle.http_requests.specs.declared.form.Form.TheVariants.{OfUsers, OfMe, OfTeam, OfRevisions}
use Rattle.http_requests.specs.declared.form.Form.TheVariants.{OfProfile, OfRevision}
use Rattle.http_requests.specs.declared.refusal.Refusal.{Refusal}
use Rattle.http_requests.specs.declared.refusal.Refusal.TheVariants.{NoRoute}
use Rattle.http_requests.specs.declared.resource.Resource.{Resource}
use Rattle.http_requests.specs.declared.resource.Resource.TheVariants as resources
use Rattle.http_requests.specs.declared.resource.Resource.TheVariants.{One}
use Rattle.http_requests.specs.declared.route.ProfileAsk.{ProfileAsk}
use Rattle.http_requests.specs.declared.route.RevisionAsk.{RevisionAsk}
use Rattle.http_requests.specs.declared.route.Route.{Route}
use Rattle.http_requests.specs.declared.route.Route.TheVariants.{Users, Me, Team, Revisions}
use Rattle.http_requests.specs.declared.route.Route.TheVariants.{Profile, Revision}

-- a word
abbrev pub word_of : List ℕ → Option (List ℕ)
word_of text = if is_word text then Some text else None

-- the profile that two words name
abbrev pub name_of : List ℕ → List ℕ → Option ProfileName
name_of team profile = do
  t ← word_of team
  p ← word_of profile
  Some (record { team = t; profile = p })

-- ---- what these parameters name, where they are of their forms

abbrev pub of_team : List ℕ → Option Resource
of_team team = option_map (λ t. One (Team t)) (word_of team)

abbrev pub of_revisions : List ℕ → List ℕ → Option Resource
of_revisions team profile = option_map (λ name. resources.Revisions name) (name_of team profile)

-- the revisions before the number that a query has
abbrev pub of_before : List ℕ → List ℕ → List ℕ → Option Resource
of_before team profile query = do
  n ← before_of query
  name ← name_of team profile
  Some (One (Revisions name (Some n)))

abbrev pub of_profile : ProfileAsk → List ℕ → List ℕ → Option Resource
of_profile act team profile = option_map (λ name. One (Profile act name)) (name_of team profile)

abbrev pub of_revision : RevisionAsk → List ℕ → List ℕ → List ℕ → Option Resource
of_revision act team profile number = do
  n ← revision_number_of number
  name ← name_of team profile
  Some (One (Revision act name n))

-- what a path of a form names, with this team, profile and number
abbrev pub resource_with : Form → List ℕ → List ℕ → List ℕ → Option Resource
resource_with OfUsers team profile number = Some (One Users)
resource_with OfMe team profile number = Some (One Me)
resource_with OfTeam team profile number = of_team team
resource_with OfRevisions team profile number = of_revisions team profile
resource_with (OfProfile act) team profile number = of_profile act team profile
resource_with (OfRevision act) team profile number = of_revision act team profile number

-- with a query, which the revisions of a profile alone have
abbrev pub of_query : Form → List ℕ → List ℕ → List ℕ → Option Resource
of_query OfUsers team profile query = None
of_query OfMe team profile query = None
of_query OfTeam team profile query = None
of_query OfRevisions team profile query = of_before team profile query
of_query (OfProfile act) team profile query = None
of_query (OfRevision act) team profile query = None

-- ---- a target

-- what a path of a form names, with a query or with none, where team, profile and number are its own
-- parts
abbrev pub resource_at : List ℕ → Option (List ℕ) → Form → Option Resource
resource_at path None form = resource_with form (part_at path 2) (part_at path 3) (part_at path 4)
resource_at path (Some query) form = of_query form (part_at path 2) (part_at path 3) query

-- what a target names: its path has a route, and its query is one that the route has
abbrev pub resource_of : List ℕ → Option Resource
resource_of target =
    option_and_then (resource_at (path_of target) (query_of target)) (form_of (path_of target))

-- the answer to a method and what a target names
abbrev pub answer_of : List ℕ → Option Resource → Result Route Refusal
answer_of method None = Err NoRoute
answer_of method (Some resource) = with_method resource (method_named method)

-- Which methods a target has, and what each asks of it.
use Rattle.std.specs.Prelude.{ℕ, List, Bool, true, false, Option, Some, None, Result, Ok, Err}
use Rattle.std.specs.Prelude.{bytes_eq, if◌then◌else◌}
use Rattle.http_requests.specs.Message.{method_text}
use Rattle.http_requests.specs.declared.method.Method.{Method}
use Rattle.http_requests.specs.declared.method.Method.TheVariants.{Get, Post}
use Rattle.http_requests.specs.declared.method.Methods.{Methods}
use Rattle.http_requests.specs.declared.method.Methods.TheVariants as methods
use Rattle.http_requests.specs.declared.refusal.Refusal.{Refusal}
use Rattle.http_requests.specs.declared.refusal.Refusal.TheVariants.{WrongMethod}
use Rattle.http_requests.specs.declared.resource.Resource.{Resource}
use Rattle.http_requests.specs.declared.resource.Resource.TheVariants as resources
use Rattle.http_requests.specs.declared.route.ProfileAsk.{ProfileAsk}
use Rattle.http_requests.specs.declared.route.ProfileAsk.TheVariants as profiles
use Rattle.http_requests.specs.declared.route.RevisionAsk.{RevisionAsk}
use Rattle.http_requests.specs.declared.route.RevisionAsk.TheVariants as revisions
use Rattle.http_requests.specs.declared.route.Route.{Route}
use Rattle.http_requests.specs.declared.route.Route.TheVariants.{Users, Me, Team, Revisions, Submit}
use Rattle.http_requests.specs.declared.route.Route.TheVariants.{Profile, Revision}

-- the method of a name, as written
abbrev pub method_named : List ℕ → Option Method
method_named name =
    if bytes_eq name (method_text Get) then Some Get
    else if bytes_eq name (method_text Post) then Some Post else None

-- the method of what is asked of a profile
abbrev pub profile_method : ProfileAsk → Method
profile_method (profiles.Act act) = Post
profile_method (profiles.See view) = Get

-- the method of what is asked of a revision
abbrev pub revision_method : RevisionAsk → Method
revision_method revisions.Vote = Post
revision_method (revisions.Act act) = Post
revision_method (revisions.See view) = Get

-- the method of each route
abbrev pub method_of : Route → Method
method_of Users = Post
method_of Me = Get
method_of (Team team) = Get
method_of (Revisions name before) = Get
method_of (Submit name) = Post
method_of (Profile asked name) = profile_method asked
method_of (Revision asked name number) = revision_method asked

-- just one method
abbrev pub only : Method → Methods
only Get = methods.Get
only Post = methods.Post

-- whether a request has this method
abbrev pub is_method : Method → Option Method → Bool
is_method Get (Some Get) = true
is_method Get (Some Post) = false
is_method Get None = false
is_method Post (Some Get) = false
is_method Post (Some Post) = true
is_method Post None = false

-- the route, where the method is its own
abbrev pub by_method : Option Method → Route → Result Route Refusal
by_method method route =
    if is_method (method_of route) method then Ok route
    else Err (WrongMethod (only (method_of route)))

-- the revisions of a profile are seen, or one is handed in
abbrev pub with_method : Resource → Option Method → Result Route Refusal
with_method (resources.One route) method = by_method method route
with_method (resources.Revisions name) (Some Get) = Ok (Revisions name None)
with_method (resources.Revisions name) (Some Post) = Ok (Submit name)
with_method (resources.Revisions name) None = Err (WrongMethod methods.GetAndPost)

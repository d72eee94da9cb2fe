-- The routes as a router reads them, and the rows that it has once they are in it.
use Rattle.std.specs.Prelude.{ℕ, List, [], ◌∷◌, Result, Ok, Err, Bool, true, false, not, ◌&&◌}
use Rattle.std.specs.Prelude.{is_some, codes, fold}
use Rattle.matchit.specs.Rows.{RowsOf}
use Rattle.matchit.specs.Order.{placed}
use Rattle.matchit.specs.Route.{Scan, parse_route}
use Rattle.matchit.specs.Router.{RouteOf, nearest, route_from}
use Rattle.matchit.specs.declared.error.InsertError.{InsertError}
use Rattle.review_policy.specs.declared.act.ProfileAct.TheVariants.{Hold, Release}
use Rattle.review_policy.specs.declared.act.ProfileView.TheVariants.{Fetch, Issued}
use Rattle.review_policy.specs.declared.act.RevisionAct.TheVariants.{Issue, Withdraw, Adopt}
use Rattle.review_policy.specs.declared.act.RevisionView.TheVariants.{Show, Sheet}
use Rattle.http_requests.specs.declared.form.Form.{Form}
use Rattle.http_requests.specs.declared.form.Form.TheVariants.{OfUsers, OfMe, OfTeam, OfRevisions}
use Rattle.http_requests.specs.declared.form.Form.TheVariants.{OfProfile, OfRevision}
use Rattle.http_requests.specs.declared.route.ProfileAsk.TheVariants as profiles
use Rattle.http_requests.specs.declared.route.RevisionAsk.TheVariants as revisions

abbrev pub Routes : Type 0
Routes = RowsOf (RouteOf Form)

-- the rows with one route more, where its text is that of a route
abbrev pub with_read : Result Scan InsertError → Form → Routes → Routes
with_read (Ok s) form rows = placed (s.pattern, route_from s form) rows
with_read (Err e) form rows = rows

abbrev pub with_route : Routes → List ℕ × Form → Routes
with_route rows entry = with_read (parse_route entry.0) entry.1 rows

-- no route of these is ill-formed or in conflict with those before it
abbrev pub fits_read : Routes → Result Scan InsertError → Bool
fits_read rows (Ok s) = not (is_some (nearest s.pattern rows))
fits_read rows (Err e) = false

unfoldable pub fits : Routes → List (List ℕ × Form) → Bool
fits rows [] = true
fits rows (entry ∷ rest) = fits_read rows (parse_route entry.0) && fits (with_route rows entry) rest

-- the routes, in the order in which they are inserted
abbrev pub table : List (List ℕ × Form)
table = (codes "/users", OfUsers)
    ∷ (codes "/me", OfMe)
    ∷ (codes "/p/{team}/{profile}", OfRevisions)
    ∷ (codes "/p/{team}", OfTeam)
    ∷ (codes "/p/{team}/{profile}/{n}", OfRevision (revisions.See Show))
    ∷ (codes "/p/{team}/{profile}/{n}/sheet", OfRevision (revisions.See Sheet))
    ∷ (codes "/p/{team}/{profile}/{n}/vote", OfRevision revisions.Vote)
    ∷ (codes "/p/{team}/{profile}/{n}/issue", OfRevision (revisions.Act Issue))
    ∷ (codes "/p/{team}/{profile}/{n}/withdraw", OfRevision (revisions.Act Withdraw))
    ∷ (codes "/p/{team}/{profile}/{n}/adopt", OfRevision (revisions.Act Adopt))
    ∷ (codes "/issued/{team}/{profile}", OfProfile (profiles.See Fetch))
    ∷ (codes "/issued/{team}/{profile}/digest", OfProfile (profiles.See Issued))
    ∷ (codes "/hold/{team}/{profile}", OfProfile (profiles.Act Hold))
    ∷ (codes "/release/{team}/{profile}", OfProfile (profiles.Act Release)) ∷ []

unfoldable pub office_rows : Routes
office_rows = fold with_route [] table

-- What a path asks for, by its parts between slashes.
use Rattle.std.specs.Prelude.{ℕ, ◌==◌, ◌&&◌, Bool, true, false, List, [], ◌∷◌, Option, None}
use Rattle.std.specs.Prelude.{option_map, find, codes, get_or, if◌then◌else◌}
use Rattle.matchit.specs.Seek.{same_text}
use Rattle.review_policy.specs.declared.act.ProfileAct.TheVariants.{Hold, Release}
use Rattle.review_policy.specs.declared.act.ProfileView.TheVariants.{Fetch, Issued}
use Rattle.review_policy.specs.declared.act.RevisionAct.TheVariants.{Issue, Withdraw, Adopt}
use Rattle.review_policy.specs.declared.act.RevisionView.TheVariants.{Show, Sheet}
use Rattle.http_requests.specs.declared.form.Form.{Form}
use Rattle.http_requests.specs.declared.form.Form.TheVariants.{OfUsers, OfMe, OfTeam, OfRevisions}
use Rattle.http_requests.specs.declared.form.Form.TheVariants.{OfProfile, OfRevision}
use Rattle.http_requests.specs.declared.route.ProfileAsk.TheVariants as profiles
use Rattle.http_requests.specs.declared.route.RevisionAsk.TheVariants as revisions

-- a part of a route: just this text, or any that is not empty
pub data Part : Type 0 where
  word : List ℕ → Part
  any : Part

abbrev pub fits_part : Part → List ℕ → Bool
fits_part (word text) w = same_text text w
fits_part any [] = false
fits_part any (b ∷ rest) = true

-- each part is as the route has it, and there is no other
abbrev pub fits_parts : List Part → List (List ℕ) → Bool
fits_parts [] [] = true
fits_parts [] (w ∷ ws) = false
fits_parts (p ∷ ps) [] = false
fits_parts (p ∷ ps) (w ∷ ws) = fits_part p w && fits_parts ps ws

abbrev pub Shapes : Type 0
Shapes = List (List Part × Form)

-- what the parts ask for
abbrev pub form_in : Shapes → List (List ℕ) → Option Form
form_in shapes ws = option_map (λ s. s.1) (find (λ s. fits_parts s.0 ws) shapes)

-- every route by its parts, which stand for a team, a profile and a number where they are any
abbrev pub shapes : Shapes
shapes = (word (codes "users") ∷ [], OfUsers)
    ∷ (word (codes "me") ∷ [], OfMe)
    ∷ (word (codes "p") ∷ any ∷ [], OfTeam)
    ∷ (word (codes "p") ∷ any ∷ any ∷ [], OfRevisions)
    ∷ (word (codes "p") ∷ any ∷ any ∷ any ∷ [], OfRevision (revisions.See Show))
    ∷ (word (codes "p") ∷ any ∷ any ∷ any ∷ word (codes "adopt") ∷ [], OfRevision (revisions.Act Adopt))
    ∷ (word (codes "p") ∷ any ∷ any ∷ any ∷ word (codes "issue") ∷ [], OfRevision (revisions.Act Issue))
    ∷ (word (codes "p") ∷ any ∷ any ∷ any ∷ word (codes "sheet") ∷ [], OfRevision (revisions.See Sheet))
    ∷ (word (codes "p") ∷ any ∷ any ∷ any ∷ word (codes "vote") ∷ [], OfRevision revisions.Vote)
    ∷ (word (codes "p") ∷ any ∷ any ∷ any ∷ word (codes "withdraw") ∷ [], OfRevision (revisions.Act Withdraw))
    ∷ (word (codes "issued") ∷ any ∷ any ∷ [], OfProfile (profiles.See Fetch))
    ∷ (word (codes "issued") ∷ any ∷ any ∷ word (codes "digest") ∷ [], OfProfile (profiles.See Issued))
    ∷ (word (codes "hold") ∷ any ∷ any ∷ [], OfProfile (profiles.Act Hold))
    ∷ (word (codes "release") ∷ any ∷ any ∷ [], OfProfile (profiles.Act Release)) ∷ []

-- one byte more at the front of the first part
abbrev pub onto_first : ℕ → List (List ℕ) → List (List ℕ)
onto_first b [] = (b ∷ []) ∷ []
onto_first b (w ∷ ws) = (b ∷ w) ∷ ws

-- the parts between slashes
abbrev pub parts : List ℕ → List (List ℕ)
parts [] = [] ∷ []
parts (b ∷ rest) = if b == 47 then [] ∷ parts rest else onto_first b (parts rest)

-- the part at a place, where the first is at 0, and nothing where there is none
abbrev pub part_at : List ℕ → ℕ → List ℕ
part_at path place = get_or (parts path) place []

-- what a path asks for: it begins with a slash, and its other parts are those of a route
abbrev pub form_of : List ℕ → Option Form
form_of [] = None
form_of (b ∷ rest) = if b == 47 then form_in shapes (parts rest) else None

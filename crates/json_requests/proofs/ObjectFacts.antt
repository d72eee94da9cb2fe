-- The names of members.
use Rattle.std.proofs.Common.{◌≡◌, ◌∙◌, ℕ, ◌+◌, ◌<◌, List, [], ◌∷◌, Bool, true, false, Bor, get_or, drop, length, map, refl, ap}
use Rattle.std.proofs.lemmas.List.{drop_more}
use Rattle.std.specs.List.{list_any}
use Rattle.std.specs.Prelude.{◌||◌, ◌&&◌}
use Rattle.std.specs.Str.{bytes_eq}
use Rattle.json_tree.specs.View.{members_view}
use Rattle.json_tree.proofs.Views.{Entry}
use Rattle.json_requests.specs.Objects.{all_belong}

abbrev Names : Type 0
Names = List (Bor (List ℕ))

abbrev texts : Names → List (List ℕ)
texts names = map (λ known. known.now) names

among_texts : (name : List ℕ) (names : Names) → list_any (bytes_eq name) (texts names) ≡ list_any (λ known. bytes_eq name known.now) names
among_texts name [] = refl
among_texts name (known ∷ names) = ap (λ b. bytes_eq name known.now || b) (among_texts name names)

-- the members from a place on
from_here : (names : Names) (es : List Entry) (i : ℕ) (d : Entry) (b : Bool) → i < length es → list_any (λ known. bytes_eq (get_or es i d).0.now known.now) names ≡ b
    → all_belong (texts names) (members_view (drop i es)) ≡ (b && all_belong (texts names) (members_view (drop (i + 1) es)))
from_here names es i d b lt is =
    ap (λ ms. all_belong (texts names) (members_view ms)) (drop_more es i d lt)
    ∙ ap (λ a. a && all_belong (texts names) (members_view (drop (i + 1) es))) (among_texts (get_or es i d).0.now names ∙ is)

pub another_here : (names : Names) (es : List Entry) (i : ℕ) (d : Entry) → i < length es → list_any (λ known. bytes_eq (get_or es i d).0.now known.now) names ≡ false
    → all_belong (texts names) (members_view (drop i es)) ≡ false
another_here names es i d lt other = from_here names es i d false lt other

pub belongs_here : (names : Names) (es : List Entry) (i : ℕ) (d : Entry) → i < length es → list_any (λ known. bytes_eq (get_or es i d).0.now known.now) names ≡ true
    → all_belong (texts names) (members_view (drop i es)) ≡ all_belong (texts names) (members_view (drop (i + 1) es))
belongs_here names es i d lt known = from_here names es i d true lt known

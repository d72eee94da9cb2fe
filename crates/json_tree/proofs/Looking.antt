-- A name looked for among members, one after another.
use Rattle.std.proofs.Common.{◌≡◌, ◌∙◌, ℕ, ◌+◌, ◌<◌, ◌≤◌, List, length, get_or, drop, true, false, Option, Some, None, Ordering, Less, Equal, Greater, is_eq, nat_cmp, bytes_eq, refl, ap}
use Rattle.std.proofs.lemmas.List.{drop_more, drop_all}
use Rattle.std.proofs.lemmas.Map.Text.{is_eq-slice_cmp}
use Rattle.std.specs.Cmp.Lexicographic.{slice_cmp}
use Rattle.std.specs.Ordering.{match_ordering}
use Rattle.serde_json.specs.Data.{Data, member}
use Rattle.serde_json.specs.Find.{get_member}
use Rattle.json_tree.specs.View.{view, members_view}
use Rattle.json_tree.proofs.Views.{Entry}

-- the first of members has the name, or it is looked for among the others
at_equal : (o : Ordering) (x y : Option Data) → is_eq o ≡ true → match_ordering o y x y ≡ x
at_equal Less x y e = absurd (cc)
at_equal Equal x y e = refl
at_equal Greater x y e = absurd (cc)

at_other : (o : Ordering) (x y : Option Data) → is_eq o ≡ false → match_ordering o y x y ≡ y
at_other Less x y e = refl
at_other Equal x y e = absurd (cc)
at_other Greater x y e = refl

-- the members from a place on
at_place : (es : List Entry) (i : ℕ) (d : Entry) → i < length es → members_view (drop i es) ≡ member (get_or es i d).0.now (view (get_or es i d).1) (members_view (drop (i + 1) es))
at_place es i d lt = rw (drop_more es i d lt) refl

pub found_here : (name : List ℕ) (es : List Entry) (i : ℕ) (d : Entry) → i < length es → bytes_eq name (get_or es i d).0.now ≡ true → get_member name (members_view (drop i es)) ≡ Some (view (get_or es i d).1)
found_here name es i d lt same =
    ap (get_member name) (at_place es i d lt) ∙ at_equal (slice_cmp nat_cmp name (get_or es i d).0.now) (Some (view (get_or es i d).1)) _ (is_eq-slice_cmp name (get_or es i d).0.now ∙ same)

pub found_later : (name : List ℕ) (es : List Entry) (i : ℕ) (d : Entry) → i < length es → bytes_eq name (get_or es i d).0.now ≡ false
    → get_member name (members_view (drop i es)) ≡ get_member name (members_view (drop (i + 1) es))
found_later name es i d lt other =
    ap (get_member name) (at_place es i d lt) ∙ at_other (slice_cmp nat_cmp name (get_or es i d).0.now) (Some (view (get_or es i d).1)) _ (is_eq-slice_cmp name (get_or es i d).0.now ∙ other)

pub found_none : (name : List ℕ) (es : List Entry) (i : ℕ) → length es ≤ i → get_member name (members_view (drop i es)) ≡ None
found_none name es i ge = rw (drop_all i es ge) refl

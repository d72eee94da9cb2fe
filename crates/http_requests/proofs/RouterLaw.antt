-- The look-up of the office's routes. A path's parts, with a token for each that stands at a parameter, are a pattern. The router finds
-- the row of that pattern, and the shapes find theirs.
use Rattle.std.proofs.Common.{◌≡◌, ◌∙◌, ◌<◌, ◌++◌, ◌&&◌, ℕ, Bool, true, false, cond, List, [], ◌∷◌, Option, Some, None, option_map, refl, sym, ap, arith, get_or, suc, ltb, ◌==◌, append-nil}
use Rattle.std.proofs.lemmas.Bool.Decides.{nat_tests}
use Rattle.matchit.proofs.OnLiterals.{matchit_on_literals}
use Rattle.matchit.proofs.RenameLemmas.{seek-rename}
use Rattle.matchit.specs.Order.{lookup}
use Rattle.matchit.specs.Router.{RouteOf, map_key, rename}
use Rattle.matchit.specs.Rows.{RowsOf}
use Rattle.matchit.specs.Seek.{after_param, first, has_slash, same_text, seek, step}
use Rattle.std.specs.List.{list_any}
use Rattle.std.specs.Prelude.{codes}
use Rattle.http_requests.specs.Parts.{parts, form_of, form_in, shapes}
use Rattle.http_requests.specs.Table.{office_rows}
use Rattle.http_requests.specs.declared.form.Form.{Form}
use Rattle.http_requests.proofs.ShapeFacts.{Kinds, behind, taken, pattern_of, rows, shapes_find}
use Rattle.http_requests.proofs.Split.{AreBytes, AreParts, parts_are, parts_path, path_of}
use Rattle.http_requests.proofs.Walks.{Slash, all, both, lookup_none, lookup_step, same_rows, off_slash, param-empty, param-last, param-part, seek-byte, seek-none, seek-param, slash_free, starts_slash, step_all, step_none}

-- ---- rows

-- what is left of a pattern in a word or behind it, or else at a parameter
abbrev is_rest : Bool → Kinds → List ℕ → Bool
is_rest true words [] = true
is_rest true words (x ∷ t) = cond (x == 47) (is_rest (words Slash) (behind words Slash) t) (ltb x 256 && is_rest true (behind words (x ∷ [])) t)
is_rest false words [] = false
is_rest false words (x ∷ t) = x == 256 && (starts_slash t && is_rest true (behind words (256 ∷ [])) t)

in_word : (words : Kinds) (b : ℕ) → (b == 47) ≡ false → (t : List ℕ) → is_rest true words (b ∷ t) ≡ true → is_rest true (behind words (b ∷ [])) t ≡ true
in_word words b off t h = (both (ltb b 256) (is_rest true (behind words (b ∷ [])) t) (rw off at h)).1

-- where no row has a parameter next, and those behind a slash are as the next part is
record IsReady (words : Kinds) (rs : RowsOf Form) : Type 0 where
  no_param : step 256 rs ≡ []
  no_all : step 257 rs ≡ []
  on : all (is_rest (words Slash) (behind words Slash)) (step 47 rs) ≡ true

ready : (words : Kinds) (rs : RowsOf Form) → all (is_rest true words) rs ≡ true → IsReady words rs
ready words rs h = record {
  no_param = step_none (is_rest true words) 256 (λ t e. e) rs h;
  no_all = step_none (is_rest true words) 257 (λ t e. e) rs h;
  on = step_all (is_rest true words) (is_rest (words Slash) (behind words Slash)) 47 (λ t e. e) rs h;
}

-- rows find the row of this pattern at this path
abbrev Finds : Kinds → List ℕ → List ℕ → Type 0
Finds words path pattern = (rs : RowsOf Form) → all (is_rest true words) rs ≡ true → seek 0 rs path ≡ lookup pattern rs

at_word : (words : Kinds) (path pattern w : List ℕ) (rs : RowsOf Form) → all (is_rest true words) rs ≡ true → has_slash w ≡ false
    → Finds (behind words w) path pattern → seek 0 rs (w ++ path) ≡ lookup (w ++ pattern) rs
at_word words path pattern [] rs h plain rest = rest rs h
at_word words path pattern (b ∷ w) rs h plain rest =
    let here = slash_free b w plain in
    let is = ready words rs h in
    seek-byte rs b (w ++ path) is.no_param is.no_all
    ∙ at_word (behind words (b ∷ [])) path pattern w (step b rs) (step_all (is_rest true words) (is_rest true (behind words (b ∷ []))) b (in_word words b here.0) rs h) here.1 rest
    ∙ lookup_step b (w ++ pattern) rs

at_param : (words : Kinds) (w : List ℕ) (ws : List (List ℕ)) (rs : RowsOf Form) → all (is_rest false words) rs ≡ true → AreBytes w → has_slash w ≡ false
    → Finds (behind words (taken false w)) (path_of ws) (pattern_of (behind words (taken false w)) ws)
    → seek 0 rs (w ++ path_of ws) ≡ lookup (taken false w ++ pattern_of (behind words (taken false w)) ws) rs
unfolding matchit_on_literals
at_param words w ws rs h bytes plain found = go w ws bytes plain found
  where
    other : (y : ℕ) → (y == 256) ≡ false → step y rs ≡ []
    other y off = step_none (is_rest false words) y (λ t e. rw off at e) rs h

    parameter : (x : ℕ) → x < 256 → (p : List ℕ) → seek 0 rs (x ∷ p) ≡ after_param (step 256 rs) (x ∷ p)
    parameter x small p =
        let off : (x == 256) ≡ false = grind (arith, nat_tests) in
        seek-param rs x p (other x off) (other 257 refl)

    slashes : all starts_slash (step 256 rs) ≡ true
    slashes = step_all (is_rest false words) starts_slash 256 (λ t e. (both (starts_slash t) (is_rest true (behind words (256 ∷ [])) t) e).0) rs h

    rest : all (is_rest true (behind words (256 ∷ []))) (step 256 rs) ≡ true
    rest = step_all (is_rest false words) (is_rest true (behind words (256 ∷ []))) 256 (λ t e. (both (starts_slash t) (is_rest true (behind words (256 ∷ [])) t) e).1) rs h

    go : (w : List ℕ) (ws : List (List ℕ)) → AreBytes w → has_slash w ≡ false
        → Finds (behind words (taken false w)) (path_of ws) (pattern_of (behind words (taken false w)) ws)
        → seek 0 rs (w ++ path_of ws) ≡ lookup (taken false w ++ pattern_of (behind words (taken false w)) ws) rs
    go [] [] bytes plain found = lookup_none rs
    go [] (v ∷ vs) bytes plain found =
        let front = taken (words Slash) v in
        let pattern = front ++ pattern_of (behind words (47 ∷ front)) vs in
        parameter 47 (omega arith) (v ++ path_of vs) ∙ param-empty (step 256 rs) (v ++ path_of vs) slashes
        ∙ sym (ap (lookup pattern) (other 47 refl)) ∙ lookup_step 47 pattern rs
    go (x ∷ w) [] bytes plain found =
        rw (append-nil w) (parameter x bytes.0 w ∙ param-last (step 256 rs) x w slashes plain) ∙ found (step 256 rs) rest ∙ lookup_step 256 [] rs
    go (x ∷ w) (v ∷ vs) bytes plain found =
        parameter x bytes.0 (w ++ path_of (v ∷ vs)) ∙ param-part (step 256 rs) x w (v ++ path_of vs) slashes plain
        ∙ found (step 256 rs) rest ∙ lookup_step 256 (pattern_of (behind words (256 ∷ [])) (v ∷ vs)) rs

finds : (words : Kinds) (ws : List (List ℕ)) → AreParts ws → Finds words (path_of ws) (pattern_of words ws)
unfolding matchit_on_literals
finds words [] p rs h = lookup_none rs
finds words (w ∷ ws) p rs h =
    let is = ready words rs h in
    let front = taken (words Slash) w in
    seek-byte rs 47 (w ++ path_of ws) is.no_param is.no_all ∙ part (words Slash) is.on (finds (behind words (47 ∷ front)) ws p.2)
    ∙ lookup_step 47 (front ++ pattern_of (behind words (47 ∷ front)) ws) rs
  where
    part : (v : Bool) → all (is_rest v (behind words Slash)) (step 47 rs) ≡ true
        → Finds (behind words (47 ∷ taken v w)) (path_of ws) (pattern_of (behind words (47 ∷ taken v w)) ws)
        → seek 0 (step 47 rs) (w ++ path_of ws) ≡ lookup (taken v w ++ pattern_of (behind words (47 ∷ taken v w)) ws) (step 47 rs)
    part true on found = at_word (behind words Slash) (path_of ws) (pattern_of (behind words (47 ∷ w)) ws) w (step 47 rs) on p.1 found
    part false on found = at_param (behind words Slash) w ws (step 47 rs) on p.0 p.1 found

-- ---- the routes of the office

-- words are first, behind a number, and behind an issued profile
abbrev numbered : List ℕ
numbered = codes "/p/" ++ 256 ∷ 47 ∷ 256 ∷ 47 ∷ 256 ∷ 47 ∷ []

abbrev issued : List ℕ
issued = codes "/issued/" ++ 256 ∷ 47 ∷ 256 ∷ 47 ∷ []

abbrev words : Kinds
words front = list_any (same_text front) (Slash ∷ numbered ∷ issued ∷ [])

office_forms : RowsOf Form
office_forms = rename (λ r. r.value) office_rows

forms_rest : (all (is_rest true words) office_forms ≡ true) × (all starts_slash office_forms ≡ true)
unfolding matchit_on_literals office_rows office_forms
forms_rest = (refl, refl)

forms_are : (m : List ℕ) → lookup m office_forms ≡ lookup m (rows shapes)
unfolding matchit_on_literals office_rows office_forms
forms_are m = same_rows office_forms (rows shapes) m refl refl

no_path : seek 0 office_forms [] ≡ None
unfolding matchit_on_literals office_rows office_forms
no_path = refl

on_path : (path : List ℕ) → AreBytes path → seek 0 office_forms path ≡ form_of path
on_path [] h = no_path
on_path (b ∷ rest) h = go (b == 47) refl
  where
    go : (v : Bool) → (b == 47) ≡ v → seek 0 office_forms (b ∷ rest) ≡ cond v (form_in shapes (parts rest)) None
    go true e =
        let is : b ≡ 47 = grind (arith, nat_tests) in
        let are = parts_are rest h.1 in
        rw is (ap (seek 0 office_forms) (sym (parts_path rest)) ∙ finds words (parts rest) are office_forms forms_rest.0
        ∙ forms_are (pattern_of words (parts rest)) ∙ sym (shapes_find words shapes (parts rest) refl are))
    go false e =
        let r = ready words office_forms forms_rest.0 in
        seek-byte office_forms b rest r.no_param r.no_all ∙ ap (λ rs. seek 0 rs rest) (off_slash b e office_forms forms_rest.1) ∙ seek-none 0 rest

abbrev pub value_at : Option (RouteOf Form) → Option Form
value_at = option_map (λ r. r.value)

value_is : (found : Option (RouteOf Form)) → value_at found ≡ map_key (λ r. r.value) found
value_is None = refl
value_is (Some r) = refl

-- the law of routes: the look-up finds the route whose parts are those of the path
pub law : (path : List ℕ) → AreBytes path → value_at (first office_rows path) ≡ form_of path
unfolding office_forms
law path h = value_is (first office_rows path) ∙ sym (seek-rename (λ r. r.value) 0 office_rows path) ∙ on_path path h

bytes_of : (path : List ℕ) → ((k : ℕ) → get_or path k 0 < 256) → AreBytes path
bytes_of [] h = tt
bytes_of (b ∷ rest) h = (h 0, bytes_of rest (λ k. h (suc k)))

-- the same of a text
pub text_law : (path : List ℕ) → ((k : ℕ) → get_or path k 0 < 256) → value_at (first office_rows path) ≡ form_of path
text_law path h = law path (bytes_of path h)

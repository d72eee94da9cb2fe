-- The shapes of the routes, by patterns: parts fit a shape where their pattern, with a token for each that stands at a parameter, is its own.
use Rattle.std.proofs.Common.{◌≡◌, ◌∙◌, ◌++◌, ◌&&◌, ℕ, Bool, true, false, cond, not, List, [], ◌∷◌, Some, option_map, refl, arith, nat_eq, subst}
use Rattle.std.specs.List.{find}
use Rattle.std.proofs.lemmas.Bool.Decides.{nat_tests, Decides-eqb}
use Rattle.std.proofs.lemmas.Slice.Eq.{slice_eq-Decides}
use Rattle.matchit.specs.Order.{lookup}
use Rattle.matchit.specs.Rows.{RowsOf}
use Rattle.matchit.specs.Seek.{has_slash, same_text}
use Rattle.http_requests.specs.Parts.{Part, Shapes, any, fits_part, fits_parts, form_in, word}
use Rattle.http_requests.specs.declared.form.Form.{Form}
use Rattle.http_requests.proofs.Split.{AreParts}
use Rattle.http_requests.proofs.Walks.{Slash, both, slash_free}

-- behind which patterns, which end in a slash, the routes have a word: behind the others they have a parameter
abbrev pub Kinds : Type 0
Kinds = List ℕ → Bool

-- the same behind a pattern
abbrev pub behind : Kinds → List ℕ → Kinds
behind words front = λ rest. words (front ++ rest)

-- the pattern of the parts of a path
abbrev pub taken : Bool → List ℕ → List ℕ
taken true w = w
taken false [] = []
taken false (b ∷ w) = 256 ∷ []

abbrev pub pattern_of : Kinds → List (List ℕ) → List ℕ
pattern_of words [] = []
pattern_of words (w ∷ ws) = 47 ∷ taken (words Slash) w ++ pattern_of (behind words (47 ∷ taken (words Slash) w)) ws

abbrev front : Part → List ℕ
front (word t) = t
front any = 256 ∷ []

abbrev pattern : List Part → List ℕ
pattern [] = []
pattern (p ∷ ps) = 47 ∷ front p ++ pattern ps

abbrev pub rows : Shapes → RowsOf Form
rows [] = []
rows ((ps, form) ∷ ss) = (pattern ps, form) ∷ rows ss

abbrev is_at : Bool → Part → Bool
is_at true (word t) = not (has_slash t)
is_at true any = false
is_at false (word t) = false
is_at false any = true

abbrev follows : Kinds → List Part → Bool
follows words [] = true
follows words (p ∷ ps) = is_at (words Slash) p && follows (behind words (47 ∷ front p)) ps

abbrev pub all_follow : Kinds → Shapes → Bool
all_follow words [] = true
all_follow words ((ps, form) ∷ ss) = follows words ps && all_follow words ss

not_true : (b : Bool) → not b ≡ true → b ≡ false
not_true true e = cc e
not_true false e = refl

word_fits : (t w : List ℕ) (ps : List Part) (words : Kinds) (ws : List (List ℕ)) → has_slash t ≡ false → has_slash w ≡ false
    → (same_text t w && same_text (pattern ps) (pattern_of words ws)) ≡ same_text (t ++ pattern ps) (w ++ pattern_of words ws)
word_fits [] [] ps words ws h plain = refl
word_fits [] (y ∷ w) [] words ws h plain = refl
word_fits [] (y ∷ w) (p ∷ ps) words ws h plain =
    let here = slash_free y w plain in
    let off : nat_eq 47 y ≡ false = grind (arith, nat_tests) in
    rw off refl
word_fits (x ∷ t) [] ps words [] h plain = refl
word_fits (x ∷ t) [] ps words (v ∷ vs) h plain = rw (slash_free x t h).0 refl
word_fits (x ∷ t) (y ∷ w) ps words ws h plain = go (nat_eq x y) (word_fits t w ps words ws (slash_free x t h).1 (slash_free y w plain).1)
  where
    go : (v : Bool) → (same_text t w && same_text (pattern ps) (pattern_of words ws)) ≡ same_text (t ++ pattern ps) (w ++ pattern_of words ws)
        → ((v && same_text t w) && same_text (pattern ps) (pattern_of words ws)) ≡ (v && same_text (t ++ pattern ps) (w ++ pattern_of words ws))
    go true ih = ih
    go false ih = refl

any_fits : (w : List ℕ) (ps : List Part) (words : Kinds) (ws : List (List ℕ)) → fits_parts ps ws ≡ same_text (pattern ps) (pattern_of (behind words (47 ∷ 256 ∷ [])) ws)
    → (fits_part any w && fits_parts ps ws) ≡ same_text (256 ∷ pattern ps) (taken false w ++ pattern_of (behind words (47 ∷ taken false w)) ws)
any_fits [] ps words [] same = refl
any_fits [] ps words (v ∷ vs) same = refl
any_fits (b ∷ w) ps words ws same = same

-- behind a word that is the route's, the parts are looked at; behind another one nothing fits
same_word : (t w : List ℕ) (ps : List Part) (words : Kinds) (ws : List (List ℕ)) → fits_parts ps ws ≡ same_text (pattern ps) (pattern_of (behind words (47 ∷ t)) ws)
    → (same_text t w && fits_parts ps ws) ≡ (same_text t w && same_text (pattern ps) (pattern_of (behind words (47 ∷ w)) ws))
same_word t w ps words ws same = go (same_text t w) refl
  where
    go : (v : Bool) → same_text t w ≡ v → (v && fits_parts ps ws) ≡ (v && same_text (pattern ps) (pattern_of (behind words (47 ∷ w)) ws))
    go true e =
        let is : t ≡ w = (slice_eq-Decides Decides-eqb t w (same_text t w) refl).0 e in
        subst (λ (u : List ℕ). fits_parts ps ws ≡ same_text (pattern ps) (pattern_of (behind words (47 ∷ u)) ws)) is same
    go false e = refl

-- parts fit a shape where their pattern is that of the shape
fits_is : (words : Kinds) (ps : List Part) (ws : List (List ℕ)) → follows words ps ≡ true → AreParts ws → fits_parts ps ws ≡ same_text (pattern ps) (pattern_of words ws)
fits_is words [] [] f are = refl
fits_is words [] (w ∷ ws) f are = refl
fits_is words (p ∷ ps) [] f are = refl
fits_is words (p ∷ ps) (w ∷ ws) f are =
    let here = both (is_at (words Slash) p) (follows (behind words (47 ∷ front p)) ps) f in
    part (words Slash) p here.0 (fits_is (behind words (47 ∷ front p)) ps ws here.1 are.2)
  where
    part : (v : Bool) (q : Part) → is_at v q ≡ true → fits_parts ps ws ≡ same_text (pattern ps) (pattern_of (behind words (47 ∷ front q)) ws)
        → (fits_part q w && fits_parts ps ws) ≡ same_text (front q ++ pattern ps) (taken v w ++ pattern_of (behind words (47 ∷ taken v w)) ws)
    part true any e same = cc e
    part false (word t) e same = cc e
    part true (word t) e same = same_word t w ps words ws same ∙ word_fits t w ps (behind words (47 ∷ w)) ws (not_true (has_slash t) e) are.1
    part false any e same = any_fits w ps words ws same

pub shapes_find : (words : Kinds) (ss : Shapes) (ws : List (List ℕ)) → all_follow words ss ≡ true → AreParts ws → form_in ss ws ≡ lookup (pattern_of words ws) (rows ss)
shapes_find words [] ws f are = refl
shapes_find words ((ps, form) ∷ ss) ws f are =
    let here = both (follows words ps) (all_follow words ss) f in
    rw (fits_is words ps ws here.0 are) (go (same_text (pattern ps) (pattern_of words ws)) (shapes_find words ss ws here.1 are))
  where
    go : (v : Bool) → form_in ss ws ≡ lookup (pattern_of words ws) (rows ss)
        → option_map (λ s. s.1) (cond v (Some (ps, form)) (find (λ s. fits_parts s.0 ws) ss)) ≡ cond v (Some form) (lookup (pattern_of words ws) (rows ss))
    go true ih = refl
    go false ih = ih

-- Lines, and the bytes that they are cut from.
use Rattle.std.proofs.Common.{◌≡◌, ◌≢◌, ◌∙◌, ℕ, ◌<◌, ◌==◌, List, [], ◌∷◌, ◌++◌, true, false, cond, length, refl, sym, ap, arith, inl, inr, append_assoc, append-nil, length-append, eq-eqb, ne_eqb}
use Rattle.std.proofs.lemmas.Bool.{cases_eq}
use Rattle.std.proofs.lemmas.List.Elements.{All-nil, All-cons, All-head, All-tail}
use Rattle.streams.specs.Held.{HasLine}
use Rattle.streams.specs.Lines.{onto_first, lines_of, first_line, after_line, NoFeed, EndsLine}

abbrev IsNoFeed : ℕ → Type 0
IsNoFeed b = b ≢ 10

-- the first line of bytes with no line feed is all of them
pub first_line-all : (bytes : List ℕ) → NoFeed bytes → first_line bytes ≡ bytes
first_line-all [] none = refl
first_line-all (b ∷ bytes) none =
    let other : b ≢ 10 = All-head IsNoFeed b bytes none in
    rw (ne_eqb b 10 other) (ap (λ l. b ∷ l) (first_line-all bytes (All-tail IsNoFeed b bytes none)))

-- what stands before bytes and has no line feed belongs to their first line
pub first_line-front : (front bytes : List ℕ) → NoFeed front → first_line (front ++ bytes) ≡ front ++ first_line bytes
first_line-front [] bytes none = refl
first_line-front (b ∷ front) bytes none =
    let other : b ≢ 10 = All-head IsNoFeed b front none in
    rw (ne_eqb b 10 other) (ap (λ l. b ∷ l) (first_line-front front bytes (All-tail IsNoFeed b front none)))

pub after_line-front : (front bytes : List ℕ) → NoFeed front → after_line (front ++ bytes) ≡ after_line bytes
after_line-front [] bytes none = refl
after_line-front (b ∷ front) bytes none =
    let other : b ≢ 10 = All-head IsNoFeed b front none in
    rw (ne_eqb b 10 other) (after_line-front front bytes (All-tail IsNoFeed b front none))

pub first_line-no_feed : (bytes : List ℕ) → NoFeed (first_line bytes)
first_line-no_feed [] = All-nil IsNoFeed
first_line-no_feed (b ∷ bytes) =
    elim (cases_eq b 10) [
      | inl same ↦ rw (eq-eqb b 10 same) (All-nil IsNoFeed)
      | inr other ↦ rw (ne_eqb b 10 other) (All-cons IsNoFeed b (first_line bytes) other (first_line-no_feed bytes))
    ]

-- ---- a line and its line feed

pub first_line-feed : (line rest : List ℕ) → NoFeed line → first_line (line ++ 10 ∷ rest) ≡ line
first_line-feed line rest none = first_line-front line (10 ∷ rest) none ∙ append-nil line

pub after_line-feed : (line rest : List ℕ) → NoFeed line → after_line (line ++ 10 ∷ rest) ≡ rest
after_line-feed line rest none = after_line-front line (10 ∷ rest) none

pub has_line : (line rest : List ℕ) → NoFeed line → HasLine (line ++ 10 ∷ rest)
has_line line rest none = rw (first_line-feed line rest none, after_line-feed line rest none) refl

pub has_line-front : (front bytes : List ℕ) → NoFeed front → HasLine bytes → HasLine (front ++ bytes)
has_line-front front bytes none has =
    rw (first_line-front front bytes none, after_line-front front bytes none)
    (ap (λ l. front ++ l) has ∙ sym (append_assoc front (first_line bytes) (10 ∷ after_line bytes)))

pub has_line-not : (bytes : List ℕ) → NoFeed bytes → HasLine bytes → ⊥
has_line-not bytes none has = omega (arith, ap length has, ap length (first_line-all bytes none), length-append (first_line bytes) (10 ∷ after_line bytes))

-- ---- the lines of a stream

pub lines_of-line : (line rest : List ℕ) → NoFeed line → lines_of (line ++ 10 ∷ rest) ≡ line ∷ lines_of rest
lines_of-line [] rest none = refl
lines_of-line (b ∷ line) rest none =
    let other : b ≢ 10 = All-head IsNoFeed b line none in
    rw (ne_eqb b 10 other, lines_of-line line rest (All-tail IsNoFeed b line none)) refl

-- the first line, and those of what follows it
pub lines_of-has : (bytes more : List ℕ) → HasLine bytes → lines_of (bytes ++ more) ≡ first_line bytes ∷ lines_of (after_line bytes ++ more)
lines_of-has bytes more has =
    ap (λ l. lines_of (l ++ more)) has ∙ ap lines_of (append_assoc (first_line bytes) (10 ∷ after_line bytes) more)
    ∙ lines_of-line (first_line bytes) (after_line bytes ++ more) (first_line-no_feed bytes)

-- a last line without its line feed
pub lines_of-last : (bytes : List ℕ) → NoFeed bytes → 0 < length bytes → lines_of bytes ≡ bytes ∷ []
lines_of-last [] none some = absurd (omega arith)
lines_of-last (b ∷ []) none some = let other : b ≢ 10 = All-head IsNoFeed b [] none in rw (ne_eqb b 10 other) refl
lines_of-last (b ∷ c ∷ bytes) none some =
    let other : b ≢ 10 = All-head IsNoFeed b (c ∷ bytes) none in
    rw (ne_eqb b 10 other, lines_of-last (c ∷ bytes) (All-tail IsNoFeed b (c ∷ bytes) none) (omega arith)) refl

-- bytes that are there have a line
some_line : (b : ℕ) (bytes : List ℕ) → 0 < length (lines_of (b ∷ bytes))
some_line b bytes = elim (b == 10) as (λ t. 0 < length (cond t ([] ∷ lines_of bytes) (onto_first b (lines_of bytes)))) [
  | true ↦ omega arith
  | false ↦ onto_some b (lines_of bytes)
]
  where
    onto_some : (b : ℕ) (ls : List (List ℕ)) → 0 < length (onto_first b ls)
    onto_some b [] = omega arith
    onto_some b (l ∷ ls) = omega arith

onto_first-append : (b : ℕ) (ls more : List (List ℕ)) → 0 < length ls → onto_first b (ls ++ more) ≡ onto_first b ls ++ more
onto_first-append b [] more some = absurd (omega arith)
onto_first-append b (l ∷ ls) more some = refl

-- the lines of what follows whole lines follow theirs
pub lines_of-whole : (whole rest : List ℕ) → EndsLine whole → lines_of (whole ++ rest) ≡ lines_of whole ++ lines_of rest
lines_of-whole [] rest ends = refl
lines_of-whole (b ∷ []) rest ends = rw ends refl
lines_of-whole (b ∷ c ∷ whole) rest ends =
    let ih : lines_of ((c ∷ whole) ++ rest) ≡ lines_of (c ∷ whole) ++ lines_of rest = lines_of-whole (c ∷ whole) rest ends in
    elim (b == 10) as (λ t. cond t ([] ∷ lines_of ((c ∷ whole) ++ rest)) (onto_first b (lines_of ((c ∷ whole) ++ rest)))
    ≡ cond t ([] ∷ lines_of (c ∷ whole)) (onto_first b (lines_of (c ∷ whole))) ++ lines_of rest) [
      | true ↦ ap (λ ls. [] ∷ ls) ih
      | false ↦ ap (onto_first b) ih ∙ onto_first-append b (lines_of (c ∷ whole)) (lines_of rest) (some_line c whole)
    ]

-- ---- whole lines

pub ends_line : (line : List ℕ) → EndsLine (line ++ 10 ∷ [])
ends_line [] = refl
ends_line (b ∷ []) = refl
ends_line (b ∷ c ∷ line) = ends_line (c ∷ line)

pub ends_line-append : (xs ys : List ℕ) → EndsLine xs → EndsLine ys → EndsLine (xs ++ ys)
ends_line-append [] ys p q = q
ends_line-append (b ∷ []) [] p q = p
ends_line-append (b ∷ []) (c ∷ ys) p q = q
ends_line-append (b ∷ c ∷ xs) ys p q = ends_line-append (c ∷ xs) ys p q

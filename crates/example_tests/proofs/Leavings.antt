-- What can be left behind the journal of a founding.
use Rattle.std.proofs.Common.{◌≡◌, ◌∙◌, ◌≤◌, ◌<◌, ◌+◌, ◌==◌, inl, inr, ℕ, List, [], ◌∷◌, ◌++◌, map, length, slice_index_or, Bool, true, false, Option, Some, None, refl, sym, ap, subst, arith, lit<, All, append-nil, append_assoc, length-append}
use Rattle.std.specs.Prelude.{option_and_then}
use Rattle.std.proofs.lemmas.Bool.{eqb-true}
use Rattle.std.proofs.lemmas.List.Elements.{All-head}
use Rattle.streams.specs.Lines.{NoFeed}
use Rattle.sealed_log.specs.Sealed.{IsBody, longest, no_seal, seal_of, sealed_line, sealed_lines, sealed_text, sealed_with}
use Rattle.sealed_log.specs.Told.{told, told_behind}
use Rattle.sealed_log.proofs.SealFacts.{length-sealed_line, sealed_lines-append}
use Rattle.sealed_log.proofs.ToldFacts.{told_tail, told_unended}
use Rattle.office_policy.specs.History.{Event, History}
use Rattle.office_policy.specs.Runs.{with_event as with_stood}
use Rattle.journal.specs.Begun.{IsBegun, IsEnding, done_bodies, with_event}
use Rattle.journal.specs.Journal.{IsEntry, Says, history_from, history_in, settled_if}
use Rattle.journal.specs.Journals.{BeginsWith}
use Rattle.journal.specs.Lines.{Line, happened, strike, done, text_of}
use Rattle.journal.specs.Writing.{IsLeftIn}
use Rattle.journal.proofs.JournalFacts.{bodies_of_says, no_line, says_one}
use Rattle.journal.proofs.Lengths.{allowed_entry, both_fit, done_entry}
use Rattle.journal.proofs.LineFacts.{same_line}
use Rattle.journal.proofs.Texts.{one_more}
use Rattle.example_tests.specs.Examples.{enrols, founding, founds}
use Rattle.example_tests.specs.JournalExamples.{first_line}
use Rattle.example_tests.proofs.Founded.{enrols_allowed}
use Rattle.example_tests.proofs.Lines.{enrols_forms, first_says, founds_forms, nothing_said}

-- ---- what is left

pub nothing_left : (bodies settling : List (List ℕ)) (body : List ℕ) → IsLeftIn bodies settling body (sealed_text bodies)
nothing_left bodies settling body = record { tail = []; short = omega arith; is = sym (append-nil (sealed_text bodies)) }

pub whole_left : (bodies : List (List ℕ)) (body : List ℕ) → IsLeftIn bodies [] body (sealed_text (bodies ++ body ∷ []))
whole_left bodies body = record {
  tail = sealed_lines (seal_of bodies) (body ∷ []);
  short = omega (arith, length-append (sealed_line (seal_of bodies) body) []);
  is = sealed_lines-append no_seal bodies (body ∷ []);
}

-- a line has more than one byte
pub part_left : (bodies : List (List ℕ)) (body : List ℕ) → IsLeftIn bodies [] body (sealed_text bodies ++ 0 ∷ [])
part_left bodies body = record { tail = 0 ∷ []; short = omega (arith, length-sealed_line (seal_of bodies) body); is = refl }

-- ---- bodies in front of bytes

-- they are the first of those that the bytes tell
pub front : (before bodies : List (List ℕ)) (tail rest : List ℕ) → All IsBody before → All IsBody bodies → NoFeed rest → sealed_text bodies ++ rest ≡ sealed_text before ++ tail
    → BeginsWith before bodies
front before bodies tail rest are all none is = record {
  more = told_behind (seal_of before) tail;
  is = sym (append-nil bodies) ∙ ap (λ (l : List (List ℕ)). bodies ++ l) (sym (told_unended (seal_of bodies) rest none)) ∙ sym (told_tail bodies rest all) ∙ ap told is ∙ told_tail before tail are;
}

-- none stand in front of no bytes
pub none_in_front : (bodies : List (List ℕ)) (rest : List ℕ) → [] ≡ sealed_text bodies ++ rest → bodies ≡ []
none_in_front [] rest is = refl
none_in_front (body ∷ more) rest is = absurd (no_line no_seal body _ (is ∙ append_assoc (sealed_line no_seal body) _ rest))

never_said : Says [] founding → ⊥
never_said says = let k : ◌≡◌ {A = ℕ} 1 0 = ap (λ (h : History). length h) (says_one [] founding [] says nothing_said) in absurd (omega (arith, k))

-- those that say the founding are its line, and behind it at most more
only_first : (before : List (List ℕ)) → Says before founding → BeginsWith before first_line → before ≡ first_line
only_first [] says begins = absurd (never_said says)
only_first (a ∷ []) says begins = ap (λ (l : List (List ℕ)). slice_index_or l 0 [] ∷ []) (sym begins.is)
only_first (a ∷ b ∷ more) says begins =
    let k : 1 ≡ length (a ∷ b ∷ (more ++ begins.more)) = ap (λ (l : List (List ℕ)). length l) begins.is in
    absurd (omega (arith, k))

-- they don't say an event more
never_more : (bodies : List (List ℕ)) → Says bodies founding → BeginsWith (with_event bodies enrols) first_line → ⊥
never_more [] says begins = never_said says
never_more (a ∷ more) says begins =
    let k : 1 ≡ length (a ∷ ((more ++ text_of (happened enrols) ∷ []) ++ begins.more)) = ap (λ (l : List (List ℕ)). length l) begins.is in
    omega (arith, k, length-append (more ++ text_of (happened enrols) ∷ []) begins.more, length-append more (text_of (happened enrols) ∷ []))

-- ---- the line behind that of the founding

abbrev how_many : Option History → ℕ
how_many None = 0
how_many (Some h) = length h

settles : (line : Line) → history_in (happened (founds 5) ∷ line ∷ []) ≡ Some founding → line ≡ done 1
settles (happened e) is = let k : ◌≡◌ {A = ℕ} 2 1 = ap how_many is in absurd (omega (arith, k))
settles strike is = let k : ◌≡◌ {A = ℕ} 0 1 = ap how_many is in absurd (omega (arith, k))
settles (done n) is = at (n == 1) refl is
  where
    at : (b : Bool) → (n == 1) ≡ b
        → option_and_then (λ (t : Option Event × Option Event). history_from 2 (with_stood t.0 []) t.1 []) (settled_if b (founds 5)) ≡ Some founding → done n ≡ done 1
    at true same is = ap done (eqb-true n 1 same)
    at false other is = let k : ◌≡◌ {A = ℕ} 0 1 = ap how_many is in absurd (omega (arith, k))

-- where the founding is said still, the line says that it is carried out
settling_text : (body : List ℕ) → Says (text_of (happened (founds 5)) ∷ body ∷ []) founding → body ≡ text_of (done 1)
settling_text body says = from says.lines says.entries says.are says.history
  where
    other_size : (n : ℕ) (lines : List Line) → text_of (happened (founds 5)) ∷ body ∷ [] ≡ map text_of lines → length (map text_of lines) ≡ n → n ≡ 2
    other_size n lines are size = sym size ∙ ap (λ (l : List (List ℕ)). length l) (sym are)

    from : (lines : List Line) → All IsEntry lines → text_of (happened (founds 5)) ∷ body ∷ [] ≡ map text_of lines → history_in lines ≡ Some founding → body ≡ text_of (done 1)
    from [] entries are history = let k = other_size 0 [] are refl in absurd (omega (arith, k))
    from (a ∷ []) entries are history = let k = other_size 1 (a ∷ []) are refl in absurd (omega (arith, k))
    from (a ∷ b ∷ []) entries are history =
        let first : text_of (happened (founds 5)) ≡ text_of a = ap (λ (l : List (List ℕ)). slice_index_or l 0 []) are in
        let second : body ≡ text_of b = ap (λ (l : List (List ℕ)). slice_index_or l 1 []) are in
        let same = same_line (happened (founds 5)) a founds_forms (All-head IsEntry a (b ∷ []) entries).formed first in
        second ∙ ap text_of (settles b (ap (λ (l : Line). history_in (l ∷ b ∷ [])) same ∙ history))
    from (a ∷ b ∷ c ∷ more) entries are history = let k = other_size (length (map text_of more) + 3) (a ∷ b ∷ c ∷ more) are (omega arith) in absurd (omega (arith, k))

-- ---- no more than lines is left

module _ (tail : List ℕ) (none : NoFeed tail) (long : longest < length tail) where
  in_front : (before : List (List ℕ)) (left : List ℕ) → Says before founding → sealed_text first_line ++ tail ≡ sealed_text before ++ left → before ≡ first_line
  in_front before left says is = only_first before says (front before first_line left tail (bodies_of_says before founding says) (bodies_of_says first_line founding first_says) none is)

  -- what stands behind them is all of it
  too_long : (before : List (List ℕ)) (left : List ℕ) → Says before founding → sealed_text first_line ++ tail ≡ sealed_text before ++ left → length left ≤ longest → ⊥
  too_long before left says is short =
      let sizes : length (sealed_text first_line ++ tail) ≡ length (sealed_text before ++ left) = ap (λ (l : List ℕ). length l) is in
      let fronts : length (sealed_text before) ≡ length (sealed_text first_line) = ap (λ (b : List (List ℕ)). length (sealed_text b)) (in_front before left says is) in
      omega (arith, long, short, sizes, fronts, length-append (sealed_text first_line) tail, length-append (sealed_text before) left)

  -- the line that says that the founding is carried out isn't longer
  done_text : (before : List (List ℕ)) (left : List ℕ) (number : ℕ) → Says before founding → Says (before ++ text_of (done number) ∷ []) founding
      → sealed_text first_line ++ tail ≡ sealed_text before ++ left → text_of (done number) ≡ text_of (done 1)
  done_text before left number says with_done is =
      settling_text (text_of (done number)) (subst (λ (b : List (List ℕ)). Says (b ++ text_of (done number) ∷ []) founding) (in_front before left says is) with_done)

  pub never_ending : IsEnding founding (sealed_text first_line ++ tail) → ⊥
  never_ending ends =
      let short : length ends.left.tail ≤ length (sealed_line (seal_of ends.before) (text_of (done ends.number))) = ends.left.short in
      let texts : length (text_of (done ends.number)) ≡ length (text_of (done 1)) = ap (λ (l : List ℕ). length l) (done_text ends.before ends.left.tail ends.number ends.says ends.with_done ends.left.is) in
      let fits : length (text_of (done 1)) + 84 ≤ longest = (done_entry 1 (lit< tt)).body.fits in
      too_long ends.before ends.left.tail ends.says ends.left.is (omega (arith, short, texts, fits, length-sealed_line (seal_of ends.before) (text_of (done ends.number))))

  never_line : (before : List (List ℕ)) (settling : Option ℕ) → Says before founding → Says (before ++ done_bodies settling) founding
      → IsLeftIn before (done_bodies settling) (text_of (happened enrols)) (sealed_text first_line ++ tail) → ⊥
  never_line before None says settled left =
      let short : length left.tail ≤ length (sealed_line (seal_of before) (text_of (happened enrols))) = left.short in
      let fits : length (text_of (happened enrols)) + 84 ≤ longest = (allowed_entry founding enrols enrols_allowed enrols_forms).body.fits in
      too_long before left.tail says left.is (omega (arith, short, fits, length-sealed_line (seal_of before) (text_of (happened enrols))))
  never_line before (Some number) says settled left =
      let text = done_text before left.tail number says settled left.is in
      let short : length left.tail ≤ length (sealed_with (seal_of before) (text_of (done 1) ∷ []) (text_of (happened enrols))) =
      subst (λ (b : List ℕ). length left.tail ≤ length (sealed_with (seal_of before) (b ∷ []) (text_of (happened enrols)))) text left.short in
      too_long before left.tail says left.is (omega (arith, short, both_fit founding enrols 1 (seal_of before) enrols_allowed enrols_forms (lit< tt)))

  never_strike : (bodies : List (List ℕ)) → Says bodies founding → IsLeftIn (with_event bodies enrols) [] (text_of strike) (sealed_text first_line ++ tail) → ⊥
  never_strike bodies says left =
      let with_it = one_more bodies founding enrols (allowed_entry founding enrols enrols_allowed enrols_forms) says in
      never_more bodies says
      (front (with_event bodies enrols) first_line left.tail tail (bodies_of_says (with_event bodies enrols) _ with_it) (bodies_of_says first_line founding first_says) none left.is)

  pub never_begun : IsBegun founding enrols (sealed_text first_line ++ tail) → ⊥
  never_begun begun = elim begun.left [
    | inl line ↦ never_line begun.before begun.settling begun.says begun.settled line
    | inr struck ↦ never_strike (begun.before ++ done_bodies begun.settling) begun.settled struck
  ]

-- ---- nothing is left of no journal

none_left : (bodies : List (List ℕ)) (rest : List ℕ) → Says bodies founding → [] ≡ sealed_text bodies ++ rest → ⊥
none_left bodies rest says is = never_said (subst (λ (b : List (List ℕ)). Says b founding) (none_in_front bodies rest is) says)

pub never_ending_nothing : IsEnding founding [] → ⊥
never_ending_nothing ends = none_left ends.before ends.left.tail ends.says ends.left.is

pub never_begun_nothing : (e : Event) → IsBegun founding e [] → ⊥
never_begun_nothing e begun = elim begun.left [
  | inl line ↦ none_left begun.before line.tail begun.says line.is
  | inr struck ↦
      let bodies = begun.before ++ done_bodies begun.settling in
      let size = ap (λ (l : List (List ℕ)). length l) (none_in_front (with_event bodies e) struck.tail struck.is) in
      omega (arith, size, length-append bodies (text_of (happened e) ∷ []))
]

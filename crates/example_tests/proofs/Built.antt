-- Journals of a founding and an enrolment, and how far they are told.
use Rattle.std.proofs.Common.{◌≡◌, ◌≢◌, ◌∙◌, ◌≤◌, ◌+◌, ◌-◌, ◌^◌, ℕ, min, List, [], ◌∷◌, ◌++◌, map, drop, length, slice_index_or, Bool, true, false, Option, Some, None, IfSome, refl, sym, ap, ap₂, subst, arith, All, append-nil, append_assoc, length-append}
use Rattle.std.proofs.lemmas.List.{length-map, length-reverse}
use Rattle.std.proofs.lemmas.List.Elements.{All-cons, All-head, All-nil, All-tail}
use Rattle.streams.specs.Lines.{NoFeed}
use Rattle.sealed_log.specs.Sealed.{no_seal, seal_on, sealed_line, sealed_text}
use Rattle.sealed_log.specs.Told.{told as bodies_told}
use Rattle.sealed_log.proofs.SealFacts.{length-last_seal, length-no_seal}
use Rattle.sealed_log.proofs.ToldFacts.{told_unended}
use Rattle.sealed_log.specs.declared.unreadable.Unreadable.{Unreadable}
use Rattle.sealed_log.specs.declared.unreadable.Unreadable.TheVariants.{NoEventBefore, Read, TornLine}
use Rattle.office_policy.specs.Handled.{Stands}
use Rattle.office_policy.specs.History.{Event, History}
use Rattle.journal.specs.Journal.{IsEntry}
use Rattle.journal.specs.Journals.{BeginsWith}
use Rattle.journal.specs.Lines.{Line, happened, strike, text_of}
use Rattle.journal.specs.Told.{CannotTake, GoesOn, HasOnEvent, IsBegun, IsStopped, Place, held_after, history_told, seal_behind, standing, start, told}
use Rattle.journal.proofs.JournalFacts.{all_bodies, same_sealed}
use Rattle.journal.proofs.Lengths.{allowed_entry, strike_entry}
use Rattle.journal.proofs.LineFacts.{same_line}
use Rattle.journal.proofs.ToldFacts.{begins_first, goes_further, line_taken, stops_here}
use Rattle.journal_office.specs.Rebuilding.{IsBuiltTo, ends_at, kept_at, kept_by}
use Rattle.example_tests.specs.Examples.{Sketch, counting, enrolment, enrols, founding, founds, grown, quiet}
use Rattle.example_tests.specs.JournalExamples.{behind_first, behind_second, first_line, first_text, second_lines, struck_lines}
use Rattle.example_tests.proofs.Founded.{enrolment_lawful, enrols_allowed, is_lawful}
use Rattle.example_tests.proofs.Leavings.{front}
use Rattle.example_tests.proofs.Lines.{enrols_forms, founds_entry, founds_forms, told_first}
use Rattle.example_tests.proofs.Replays.{founded_of, stands_founded, stands_grown}

-- ---- the lines, their texts and seals

abbrev founding_text : List ℕ
founding_text = text_of (happened (founds 5))

abbrev enrolment_text : List ℕ
enrolment_text = text_of (happened enrols)

abbrev one_line : List Line
one_line = happened (founds 5) ∷ []

abbrev two_lines : List Line
two_lines = happened (founds 5) ∷ happened enrols ∷ []

abbrev three_lines : List Line
three_lines = happened (founds 5) ∷ happened enrols ∷ strike ∷ []

abbrev first_seal : List ℕ
first_seal = seal_on no_seal founding_text

abbrev second_seal : List ℕ
second_seal = seal_on first_seal enrolment_text

enrols_entry : IsEntry (happened enrols)
enrols_entry = allowed_entry founding enrols enrols_allowed enrols_forms

one_entries : All IsEntry one_line
one_entries = All-cons IsEntry (happened (founds 5)) [] founds_entry (All-nil IsEntry)

two_entries : All IsEntry two_lines
two_entries = All-cons IsEntry (happened (founds 5)) (happened enrols ∷ []) founds_entry (All-cons IsEntry (happened enrols) [] enrols_entry (All-nil IsEntry))

three_entries : All IsEntry three_lines
three_entries =
    All-cons IsEntry (happened (founds 5)) (happened enrols ∷ strike ∷ []) founds_entry
    (All-cons IsEntry (happened enrols) (strike ∷ []) enrols_entry (All-cons IsEntry strike [] strike_entry (All-nil IsEntry)))

no_feed : NoFeed (0 ∷ [])
no_feed = All-cons (λ b. b ≢ 10) 0 [] (λ same. omega (arith, same)) (All-nil (λ b. b ≢ 10))

some_byte : (let none : List ℕ = [] in 0 ∷ none ≢ none)
some_byte is = let k : ◌≡◌ {A = ℕ} 1 0 = ap (λ (l : List ℕ). length l) is in omega (arith, k)

-- ---- how far they are read

goes_one : (rest : List ℕ) → GoesOn (start (Some (sealed_line no_seal founding_text ++ rest))) (behind_first (Some rest)) []
goes_one rest =
    line_taken 0 None (Some (founds 5)) None (Some (sealed_line no_seal founding_text ++ rest)) (Some rest) no_seal first_seal founding_text
    (record { rest = rest; is = refl; is_body = founds_entry.body; sealed = refl; left = refl }) (record { line = happened (founds 5); says = refl; formed = founds_forms; taken = refl })

goes_two : (rest : List ℕ) → GoesOn (start (Some (sealed_line no_seal founding_text ++ (sealed_line first_seal enrolment_text ++ rest)))) (behind_second (Some rest)) ((1, founds 5) ∷ [])
goes_two rest =
    goes_further (start (Some (sealed_line no_seal founding_text ++ (sealed_line first_seal enrolment_text ++ rest)))) (behind_first (Some (sealed_line first_seal enrolment_text ++ rest))) (behind_second (Some rest))
    ((1, founds 5) ∷ []) (goes_one (sealed_line first_seal enrolment_text ++ rest))
    (line_taken 1 (Some (founds 5)) (Some enrols) (Some (founds 5)) (Some (sealed_line first_seal enrolment_text ++ rest)) (Some rest) first_seal second_seal enrolment_text
    (record { rest = rest; is = refl; is_body = enrols_entry.body; sealed = refl; left = refl }) (record { line = happened enrols; says = refl; formed = enrols_forms; taken = refl }))

first_torn : first_text ++ 0 ∷ [] ≡ sealed_line no_seal founding_text ++ 0 ∷ []
first_torn = append_assoc (sealed_line no_seal founding_text) [] (0 ∷ [])

second_torn : sealed_text second_lines ++ 0 ∷ [] ≡ sealed_line no_seal founding_text ++ (sealed_line first_seal enrolment_text ++ 0 ∷ [])
second_torn =
    append_assoc (sealed_line no_seal founding_text) (sealed_line first_seal enrolment_text ++ []) (0 ∷ [])
    ∙ ap (λ (l : List ℕ). sealed_line no_seal founding_text ++ l) (append_assoc (sealed_line first_seal enrolment_text) [] (0 ∷ []))

-- ---- the office that is built

pub built_founding : IsBuiltTo (Some (first_text ++ 0 ∷ [])) quiet (counting 3) 2 TornLine
built_founding = record {
  last = behind_first (Some (0 ∷ []));
  before = [];
  told = subst (λ (t : List ℕ). GoesOn (start (Some t)) (behind_first (Some (0 ∷ []))) []) (sym first_torn) (goes_one (0 ∷ []));
  cannot = (no_feed, some_byte);
  counted = refl;
  lawful = λ clean. is_lawful;
  stands = λ clean. stands_founded 3 founding (founded_of 3);
}

pub built_torn : IsBuiltTo (Some (sealed_text second_lines ++ 0 ∷ [])) quiet (grown 3) 3 TornLine
built_torn = record {
  last = behind_second (Some (0 ∷ []));
  before = (1, founds 5) ∷ [];
  told = subst (λ (t : List ℕ). GoesOn (start (Some t)) (behind_second (Some (0 ∷ []))) ((1, founds 5) ∷ [])) (sym second_torn) (goes_two (0 ∷ []));
  cannot = (no_feed, some_byte);
  counted = refl;
  lawful = λ clean. enrolment_lawful;
  stands = λ clean. stands_grown founding refl;
}

pub built_unread : IsBuiltTo (Some (sealed_text struck_lines)) quiet (counting 3) 3 Read
built_unread = record {
  last = behind_second (Some (sealed_line second_seal (text_of strike) ++ []));
  before = (1, founds 5) ∷ [];
  told = goes_two (sealed_line second_seal (text_of strike) ++ []);
  cannot = tt;
  counted = refl;
  lawful = λ clean. is_lawful;
  stands = λ clean. stands_founded 3 founding (founded_of 3);
}

-- ---- which lines stand before a place

begin_same : (lines all : List Line) → All IsEntry lines → All IsEntry all → BeginsWith (map text_of lines) (map text_of all) → BeginsWith lines all
begin_same [] all is_l is_a begins = record { more = all; is = refl }
begin_same (l ∷ ls) [] is_l is_a begins = let k : 0 ≡ length (text_of l ∷ (map text_of ls ++ begins.more)) = ap (λ (x : List (List ℕ)). length x) begins.is in absurd (omega (arith, k))
begin_same (l ∷ ls) (a ∷ more_lines) is_l is_a begins =
    let first : text_of a ≡ text_of l = ap (λ (x : List (List ℕ)). slice_index_or x 0 []) begins.is in
    let rest : map text_of more_lines ≡ map text_of ls ++ begins.more = ap (drop 1) begins.is in
    let more = begin_same ls more_lines (All-tail IsEntry l ls is_l) (All-tail IsEntry a more_lines is_a) (record { more = begins.more; is = rest }) in
    record { more = more.more; is = ap₂ (λ x xs. x ∷ xs) (same_line a l (All-head IsEntry a more_lines is_a).formed (All-head IsEntry l ls is_l).formed first) more.is }

begins_lines : (all lines : List Line) (tail rest : List ℕ) → All IsEntry all → All IsEntry lines → NoFeed tail → sealed_text (map text_of all) ++ tail ≡ sealed_text (map text_of lines) ++ rest → BeginsWith lines all
begins_lines all lines tail rest is_a is_l none is = begin_same lines all is_l is_a (front (map text_of lines) (map text_of all) rest tail (all_bodies lines is_l) (all_bodies all is_a) none is)

-- two of them are the founding and the enrolment
are_two : (more lines : List Line) → length lines ≡ 2 → BeginsWith lines (happened (founds 5) ∷ happened enrols ∷ more) → two_lines ≡ lines
are_two more [] size begins = absurd (omega (arith, size))
are_two more (a ∷ []) size begins = absurd (omega (arith, size))
are_two more (a ∷ b ∷ []) size begins =
    ap₂ (λ (x y : Line). x ∷ y ∷ []) (ap (λ (l : List Line). slice_index_or l 0 strike) begins.is) (ap (λ (l : List Line). slice_index_or l 1 strike) begins.is)
are_two more (a ∷ b ∷ c ∷ rest) size begins = absurd (omega (arith, size))

-- ---- how many events an office has

how_many : (es : List (ℕ × Event)) → length (history_told es) ≡ length es
how_many es =
    let event : ℕ × Event → Event = λ p. p.1 in
    length-reverse (map event es) ∙ length-map es event

keeps_few : (ends : Bool) (before held : List (ℕ × Event)) → length (kept_by ends before held) ≤ length held
keeps_few true before held = omega arith
keeps_few false [] held = omega arith
keeps_few false (e ∷ before) held = omega arith

keeps_none : (before held : List (ℕ × Event)) → 1 ≤ length before → length (kept_by false before held) ≡ 0
keeps_none [] held some = absurd (omega (arith, some))
keeps_none (e ∷ before) held some = refl

abbrev size_of : Option (List (ℕ × Event)) → ℕ
size_of None = 0
size_of (Some es) = length es

-- an office of these events
has_events : (h : History) (x : Sketch) (es : List (ℕ × Event)) → Stands quiet (history_told es) x → x.history ≡ h → length es ≡ length h
has_events h x es stands is = sym (how_many es) ∙ ap (λ (k : History). length k) (stands.is_of.1 ∙ is)

-- the line of the founding tells one event at most
tells_one : (lines : List Line) → BeginsWith lines one_line → size_of (told 0 None lines) ≤ 1
tells_one [] begins = omega arith
tells_one (a ∷ []) begins =
    let first : happened (founds 5) ≡ a = ap (λ (l : List Line). slice_index_or l 0 strike) begins.is in
    subst (λ (l : Line). size_of (told 0 None (l ∷ [])) ≤ 1) first (omega arith)
tells_one (a ∷ b ∷ more) begins = let k : 1 ≡ length (a ∷ b ∷ (more ++ begins.more)) = ap (λ (l : List Line). length l) begins.is in absurd (omega (arith, k))

first_begun : (p : Place) (es : List (ℕ × Event)) (begun : IsBegun 0 None no_seal first_text p es) → BeginsWith begun.lines one_line
first_begun p es begun = begins_lines one_line begun.lines [] begun.rest one_entries begun.entries (All-nil (λ b. b ≢ 10)) (append-nil first_text ∙ begun.says)

-- ---- what is told to a place

pub told_first_place : IsBegun 0 None no_seal first_text (behind_first (Some [])) []
told_first_place = record { lines = one_line; entries = one_entries; rest = []; says = sym (append-nil first_text); left = refl; sealed = refl; counted = refl; tells = refl }

pub told_second_place : IsBegun 0 None no_seal (sealed_text second_lines) (behind_second (Some [])) ((1, founds 5) ∷ [])
told_second_place = record { lines = two_lines; entries = two_entries; rest = []; says = sym (append-nil (sealed_text second_lines)); left = refl; sealed = refl; counted = refl; tells = refl }

pub never_further : (p : Place) (es : List (ℕ × Event)) → p.taken ≡ 2 → IsBegun 0 None no_seal first_text p es → ⊥
never_further p es two begun =
    let begins = first_begun p es begun in
    let few : 1 ≡ length (begun.lines ++ begins.more) = ap (λ (l : List Line). length l) begins.is in
    let counted = begun.counted in
    omega (arith, two, few, counted, length-append begun.lines begins.more)

pub never_unsealed : (p : Place) (es : List (ℕ × Event)) → p.seal ≡ [] → IsBegun 0 None no_seal first_text p es → ⊥
never_unsealed p es none begun =
    let size = ap (λ (l : List ℕ). length l) (sym none ∙ begun.sealed) in
    omega (arith, size, length-last_seal no_seal (map text_of begun.lines) length-no_seal)

pub never_told_before : IsBegun 0 None no_seal first_text (behind_first (Some [])) ((1, founds 5) ∷ []) → ⊥
never_told_before begun =
    let few : size_of (told 0 None begun.lines) ≤ 1 = tells_one begun.lines (first_begun (behind_first (Some [])) ((1, founds 5) ∷ []) begun) in
    let two : size_of (told 0 None begun.lines) ≡ 2 = ap size_of begun.tells in
    omega (arith, few, two)

-- ---- what isn't built

pub never_told : (line : ℕ) (fault : Unreadable) → IsBuiltTo (Some first_text) quiet (grown 3) line fault → ⊥
never_told line fault is =
    let begun : IsBegun 0 None no_seal first_text is.last is.before = begins_first (start (Some first_text)) is.last is.before is.told in
    let held = standing is.last.taken is.last.held in
    let few : size_of (told 0 None begun.lines) ≤ 1 = tells_one begun.lines (first_begun is.last is.before begun) in
    let tells : size_of (told 0 None begun.lines) ≡ length (is.before ++ held) = ap size_of begun.tells in
    let events : length (is.before ++ kept_at fault is.before is.last) ≡ 2 = has_events enrolment (grown 3) (is.before ++ kept_at fault is.before is.last) (is.stands tt) refl in
    omega (arith, few, tells, events, keeps_few (ends_at fault) is.before held, length-append is.before held, length-append is.before (kept_at fault is.before is.last))

-- what is left behind the journal of the founding
none_torn : (lines : List Line) (rest : List ℕ) → BeginsWith lines one_line → first_text ≡ sealed_text (map text_of lines) ++ rest → NoFeed rest → rest ≢ [] → ⊥
none_torn [] rest begins is none some =
    let k : first_line ≡ [] = sym told_first ∙ ap bodies_told is ∙ told_unended no_seal rest none in
    let size = ap (λ (l : List (List ℕ)). length l) k in
    omega (arith, size)
none_torn (a ∷ more) [] begins is none some = some refl
none_torn (a ∷ []) (byte ∷ rest) begins is none some =
    let first : a ≡ happened (founds 5) = ap (λ (l : List Line). slice_index_or l 0 strike) (sym begins.is) in
    let size : length first_text ≡ length (first_text ++ byte ∷ rest) = ap (λ (l : List ℕ). length l) (is ∙ ap (λ (l : Line). sealed_text (text_of l ∷ []) ++ byte ∷ rest) first) in
    omega (arith, size, length-append first_text (byte ∷ rest))
none_torn (a ∷ b ∷ more) (byte ∷ rest) begins is none some = let k : 1 ≡ length (a ∷ b ∷ (more ++ begins.more)) = ap (λ (l : List Line). length l) begins.is in omega (arith, k)

pub never_left : IsBegun 0 None no_seal first_text (behind_first (Some (0 ∷ []))) [] → ⊥
never_left begun =
    let rest : ◌≡◌ {A = Option (List ℕ)} (Some (0 ∷ [])) (Some begun.rest) = begun.left in
    let same : 0 ∷ [] ≡ begun.rest = cc in
    none_torn begun.lines begun.rest (first_begun (behind_first (Some (0 ∷ []))) [] begun) begun.says (subst NoFeed same no_feed) (subst (λ (l : List ℕ). l ≢ []) same some_byte)

pub never_torn : (x : Sketch) (line : ℕ) → IsBuiltTo (Some first_text) quiet x line TornLine → ⊥
never_torn x line is =
    let begun : IsBegun 0 None no_seal first_text is.last is.before = begins_first (start (Some first_text)) is.last is.before is.told in
    let torn : CannotTake TornLine is.last.taken is.last.held is.last.seal begun.rest =
    subst (λ (l : Option (List ℕ)). IfSome l (λ bytes. CannotTake TornLine is.last.taken is.last.held is.last.seal bytes)) begun.left is.cannot in
    none_torn begun.lines begun.rest (first_begun is.last is.before begun) begun.says torn.0 torn.1

-- a place behind two lines
taken_two : (p : Place) (lines : List Line) → 3 ≡ min (p.taken + 1) (2 ^ 64 - 1) → p.taken ≡ 0 + length lines → length lines ≡ 2
taken_two p lines line counted = omega (arith, line, counted)

pub never_left_out : IsBuiltTo (Some (sealed_text second_lines ++ 0 ∷ [])) quiet (counting 3) 3 TornLine → ⊥
never_left_out is =
    let text : List ℕ = sealed_text second_lines ++ 0 ∷ [] in
    let begun : IsBegun 0 None no_seal text is.last is.before = begins_first (start (Some text)) is.last is.before is.told in
    let lines = are_two [] begun.lines (taken_two is.last begun.lines is.counted begun.counted) (begins_lines two_lines begun.lines (0 ∷ []) begun.rest two_entries begun.entries no_feed begun.says) in
    let two : 2 ≡ length (is.before ++ standing is.last.taken is.last.held) = ap (λ (l : List Line). size_of (told 0 None l)) lines ∙ ap size_of begun.tells in
    let events : length (is.before ++ standing is.last.taken is.last.held) ≡ 1 = has_events founding (counting 3) (is.before ++ standing is.last.taken is.last.held) (is.stands tt) refl in
    omega (arith, two, events)

module _ (p : Place) (es : List (ℕ × Event)) (on : GoesOn (start (Some (sealed_text struck_lines))) p es) (line : 3 ≡ min (p.taken + 1) (2 ^ 64 - 1)) where
  abbrev text : List ℕ
  text = sealed_text struck_lines

  begun : IsBegun 0 None no_seal text p es
  begun = begins_first (start (Some text)) p es on

  of_two : (lines : List Line) (rest : List ℕ) → All IsEntry lines → length lines ≡ 2 → text ≡ sealed_text (map text_of lines) ++ rest → two_lines ≡ lines
  of_two lines rest entries size says = are_two (strike ∷ []) lines size (begins_lines three_lines lines [] rest three_entries entries (All-nil (λ b. b ≢ 10)) (append-nil text ∙ says))

  lines_are : two_lines ≡ begun.lines
  lines_are = of_two begun.lines begun.rest begun.entries (taken_two p begun.lines line begun.counted) begun.says

  -- the strike is left
  left_is : sealed_line second_seal (text_of strike) ++ [] ≡ begun.rest
  left_is =
      let says : text ≡ sealed_text second_lines ++ begun.rest = subst (λ (l : List Line). text ≡ sealed_text (map text_of l) ++ begun.rest) (sym lines_are) begun.says in
      let first = same_sealed no_seal founding_text founding_text _ _ founds_entry.body founds_entry.body (says ∙ append_assoc (sealed_line no_seal founding_text) (sealed_line first_seal enrolment_text ++ []) begun.rest) in
      (same_sealed first_seal enrolment_text enrolment_text _ _ enrols_entry.body enrols_entry.body (first.rests ∙ append_assoc (sealed_line first_seal enrolment_text) [] begun.rest)).rests

  sealed_so : p.seal ≡ second_seal
  sealed_so = begun.sealed ∙ sym (ap (λ (l : List Line). seal_behind no_seal l) lines_are)

  -- so an event is held back
  never_settled : p.held ≡ None → ⊥
  never_settled none =
      let strikes : HasOnEvent p.seal begun.rest = record {
        body = text_of strike;
        rest = [];
        is = sym left_is ∙ ap (λ (s : List ℕ). sealed_line s (text_of strike) ++ []) (sym sealed_so);
        is_body = strike_entry.body;
        on = record { line = strike; says = refl; formed = tt; needs = λ before. refl };
      } in
      let here : IfSome p.left (λ bytes. CannotTake NoEventBefore p.taken p.held p.seal bytes) =
      subst (λ (l : Option (List ℕ)). IfSome l (λ bytes. CannotTake NoEventBefore p.taken p.held p.seal bytes)) (sym begun.left) (strikes, none) in
      let stopped : IsStopped 0 None no_seal text p.taken NoEventBefore = on.stops p.taken NoEventBefore (stops_here p.taken p.held p.seal p.left NoEventBefore here) in
      let size : length stopped.lines ≡ 2 = let counted = stopped.counted in omega (arith, counted, line) in
      let lines = of_two stopped.lines stopped.rest stopped.entries size stopped.says in
      let held : ◌≡◌ {A = Option (Option Event)} (Some (Some enrols)) (Some None) =
      ap (λ (l : List Line). held_after 0 None l) lines ∙ stopped.holds ∙ ap (λ (e : Option Event). Some e) stopped.cannot.1 in
      cc

  one_before : (held : Option Event) → p.held ≡ held → length es ≡ 1
  one_before None is = absurd (never_settled is)
  one_before (Some e) is =
      let two : 2 ≡ length (es ++ standing p.taken p.held) = ap (λ (l : List Line). size_of (told 0 None l)) lines_are ∙ ap size_of begun.tells in
      let one : length (standing p.taken p.held) ≡ 1 = ap (λ (e : Option Event). length (standing p.taken e)) is in
      omega (arith, two, one, length-append es (standing p.taken p.held))

pub never_kept : IsBuiltTo (Some (sealed_text struck_lines)) quiet (grown 3) 3 Read → ⊥
never_kept is =
    let one : length is.before ≡ 1 = one_before is.last is.before is.told is.counted is.last.held refl in
    let kept = kept_at Read is.before is.last in
    let none : length kept ≡ 0 = keeps_none is.before (standing is.last.taken is.last.held) (omega (arith, one)) in
    let events : length (is.before ++ kept) ≡ 2 = has_events enrolment (grown 3) (is.before ++ kept) (is.stands tt) refl in
    omega (arith, one, none, events, length-append is.before kept)

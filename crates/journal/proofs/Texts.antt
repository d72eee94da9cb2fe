-- What a line more makes of the text of a journal.
use Rattle.std.proofs.Common.{◌≡◌, ◌∙◌, ◌+◌, ◌<◌, ◌^◌, ◌==◌, ℕ, List, [], ◌∷◌, ◌++◌, All, true, length, map, Option, Some, None, codes, refl, sym, ap, subst, arith, append_assoc, length-append}
use Rattle.std.specs.Prelude.{option_and_then}
use Rattle.std.proofs.lemmas.Bool.{eq-eqb}
use Rattle.std.proofs.lemmas.List.{length-map, map-append}
use Rattle.std.proofs.lemmas.List.Elements.{All-append, All-cons, All-head, All-nil, All-push, All-tail}
use Rattle.review_policy.specs.declared.ask.Ask.{Ask}
use Rattle.review_policy.specs.declared.ask.Ask.TheVariants as ask
use Rattle.profile_text.specs.Text.{text_of as profile_text}
use Rattle.office_policy.specs.Asked.{IsAsked}
use Rattle.office_policy.specs.Formed.{HasNumber as AskHasNumber}
use Rattle.office_policy.specs.History.{Event, enrolled, submitted, voted, on_revision, on_profile, History}
use Rattle.office_policy.specs.Runs.{with_event as with_was}
use Rattle.office_policy.specs.EventForms.{HasNumber}
use Rattle.journal.specs.Journal.{EndsWithEvent, IsEntry, Says, history_from, history_in, settled_if, taken}
use Rattle.journal.specs.Lines.{Line, done, happened, strike, text_of}
use Rattle.sealed_log.specs.Sealed.{IsBody}
use Rattle.journal.proofs.Lengths.{done_entry, strike_entry}
use Rattle.journal.proofs.LineExamples.{strike_is}
use Rattle.journal.proofs.LineFacts.{same_line}
use Rattle.journal.specs.Begun.{with_event, with_struck}

-- ---- the last of lines

-- there is none, or one behind others
pub data HasLast (ls : List Line) : Type 0 where
  no_line : ls ≡ [] → HasLast ls
  last_line : (before : List Line) (l : Line) → ls ≡ before ++ l ∷ [] → HasLast ls

pub last_of : (ls : List Line) → HasLast ls
last_of [] = no_line refl
last_of (l ∷ ls) = onto (last_of ls)
  where
    onto : HasLast ls → HasLast (l ∷ ls)
    onto (no_line none) = last_line [] l (ap (λ k. l ∷ k) none)
    onto (last_line before last is) = last_line (l ∷ before) last (ap (λ k. l ∷ k) is)

pub last_entry : (before : List Line) (l : Line) → All IsEntry (before ++ l ∷ []) → IsEntry l
last_entry [] l entries = All-head IsEntry l [] entries
last_entry (b ∷ before) l entries = last_entry before l (All-tail IsEntry b (before ++ l ∷ []) entries)

abbrev last_from : List ℕ → List (List ℕ) → List ℕ
last_from a [] = a
last_from a (x ∷ xs) = last_from x xs

last_from-push : (a : List ℕ) (xs : List (List ℕ)) (x : List ℕ) → last_from a (xs ++ x ∷ []) ≡ x
last_from-push a [] x = refl
last_from-push a (y ∷ xs) x = last_from-push y xs x

pub last_same : (xs ys : List (List ℕ)) (x y : List ℕ) → xs ++ x ∷ [] ≡ ys ++ y ∷ [] → x ≡ y
last_same xs ys x y same = sym (last_from-push [] xs x) ∙ ap (last_from []) same ∙ last_from-push [] ys y

-- ---- the events that stand

-- one event more stands
abbrev WithLine : List Line → Type 0
WithLine lines =
    (before : ℕ) (g : History) (was : Option Event) (h : History) (e : Event) → history_from before g was lines ≡ Some h
    → history_from before g was (lines ++ happened e ∷ []) ≡ Some (e ∷ h)

with_line : (lines : List Line) → WithLine lines
with_line [] before g was h e is = let same : with_was was g ≡ h = cc in ap (λ k. Some (e ∷ k)) same
with_line (l ∷ lines) before g was h e is = at (with_line lines) (taken before was l) is
  where
    at : WithLine lines → (o : Option (Option Event × Option Event)) → option_and_then (λ t. history_from (before + 1) (with_was t.0 g) t.1 lines) o ≡ Some h
        → option_and_then (λ t. history_from (before + 1) (with_was t.0 g) t.1 (lines ++ happened e ∷ [])) o ≡ Some (e ∷ h)
    at rest None given = cc
    at rest (Some t) given = rest (before + 1) (with_was t.0 g) t.1 h e given

-- and none, where it is struck out
abbrev WithStruck : List Line → Type 0
WithStruck lines =
    (before : ℕ) (g : History) (was : Option Event) (h : History) (e : Event) → history_from before g was lines ≡ Some h
    → history_from before g was (lines ++ happened e ∷ strike ∷ []) ≡ Some h

with_struck_out : (lines : List Line) → WithStruck lines
with_struck_out [] before g was h e is = is
with_struck_out (l ∷ lines) before g was h e is = at (with_struck_out lines) (taken before was l) is
  where
    at : WithStruck lines → (o : Option (Option Event × Option Event)) → option_and_then (λ t. history_from (before + 1) (with_was t.0 g) t.1 lines) o ≡ Some h
        → option_and_then (λ t. history_from (before + 1) (with_was t.0 g) t.1 (lines ++ happened e ∷ strike ∷ [])) o ≡ Some h
    at rest None given = cc
    at rest (Some t) given = rest (before + 1) (with_was t.0 g) t.1 h e given

-- an event that is said to be carried out stands as it did
abbrev WithDone : List Line → Type 0
WithDone lines =
    (before n : ℕ) (g : History) (was : Option Event) (h : History) (e : Event) → n ≡ before + length lines + 1 → history_from before g was (lines ++ happened e ∷ []) ≡ Some h
    → history_from before g was (lines ++ happened e ∷ done n ∷ []) ≡ Some h

with_done : (lines : List Line) → WithDone lines
with_done [] before n g was h e counted is =
    let same : (n == before + 1) ≡ true = eq-eqb n (before + 1) (omega (arith, counted)) in
    ap (λ b. option_and_then (λ (t : Option Event × Option Event). Some (with_was t.1 (with_was t.0 (with_was was g)))) (settled_if b e)) same ∙ is
with_done (l ∷ lines) before n g was h e counted is = at (with_done lines) (taken before was l) is
  where
    at : WithDone lines → (o : Option (Option Event × Option Event)) → option_and_then (λ t. history_from (before + 1) (with_was t.0 g) t.1 (lines ++ happened e ∷ [])) o ≡ Some h
        → option_and_then (λ t. history_from (before + 1) (with_was t.0 g) t.1 (lines ++ happened e ∷ done n ∷ [])) o ≡ Some h
    at rest None given = cc
    at rest (Some t) given = rest (before + 1) n (with_was t.0 g) t.1 h e (omega (arith, counted)) given

-- the bodies with that of one event more
pub one_more : (bodies : List (List ℕ)) (h : History) (e : Event) → IsEntry (happened e) → Says bodies h → Says (with_event bodies e) (e ∷ h)
one_more bodies h e entry is = record {
  lines = is.lines ++ happened e ∷ [];
  entries = All-push IsEntry is.lines (happened e) is.entries entry;
  are = ap (λ l. l ++ text_of (happened e) ∷ []) is.are ∙ sym (map-append text_of is.lines (happened e ∷ []));
  history = with_line is.lines 0 [] None h e is.history;
}

-- and with that of the line that strikes it out
pub one_struck : (bodies : List (List ℕ)) (h : History) (e : Event) → IsEntry (happened e) → Says bodies h → Says (with_struck bodies e) h
one_struck bodies h e entry is = record {
  lines = is.lines ++ happened e ∷ strike ∷ [];
  entries = All-append IsEntry is.lines (happened e ∷ strike ∷ []) is.entries (All-cons IsEntry (happened e) (strike ∷ []) entry (All-cons IsEntry strike [] strike_entry (All-nil IsEntry)));
  are = append_assoc bodies (text_of (happened e) ∷ []) (text_of strike ∷ []) ∙ ap (λ l. l ++ text_of (happened e) ∷ text_of strike ∷ []) is.are
      ∙ sym (map-append text_of is.lines (happened e ∷ strike ∷ []));
  history = with_struck_out is.lines 0 [] None h e is.history;
}

-- and with that of the line that says that the last event is carried out
pub one_done : (bodies : List (List ℕ)) (h : History) → Says bodies h → EndsWithEvent bodies → length bodies < 2 ^ 64 → Says (bodies ++ text_of (done (length bodies)) ∷ []) h
one_done bodies h is ends few = at (last_of is.lines)
  where
    at : HasLast is.lines → Says (bodies ++ text_of (done (length bodies)) ∷ []) h
    at (no_line none) =
        let empty : bodies ≡ [] = is.are ∙ ap (map text_of) none in
        let size = ap length (sym empty ∙ ends.is) in
        absurd (omega (arith, size, length-append ends.before (text_of (happened ends.event) ∷ [])))
    at (last_line before l split) =
        let here : bodies ≡ map text_of before ++ text_of l ∷ [] = is.are ∙ ap (map text_of) split ∙ map-append text_of before (l ∷ []) in
        let texts : text_of l ≡ text_of (happened ends.event) = last_same (map text_of before) ends.before (text_of l) (text_of (happened ends.event)) (sym here ∙ ends.is) in
        let entry : IsEntry l = last_entry before l (subst (All IsEntry) split is.entries) in
        let same : l ≡ happened ends.event = same_line l (happened ends.event) entry.formed ends.forms texts in
        let lines : is.lines ≡ before ++ happened ends.event ∷ [] = split ∙ ap (λ k. before ++ k ∷ []) same in
        let count : length bodies ≡ 0 + length before + 1 =
        omega (arith, ap length is.are, length-map is.lines text_of, ap length lines, length-append before (happened ends.event ∷ [])) in
        record {
          lines = is.lines ++ done (length bodies) ∷ [];
          entries = All-push IsEntry is.lines (done (length bodies)) is.entries (done_entry (length bodies) few);
          are = ap (λ b. b ++ text_of (done (length bodies)) ∷ []) is.are ∙ sym (map-append text_of is.lines (done (length bodies) ∷ []));
          history = ap history_in (ap (λ k. k ++ done (length bodies) ∷ []) lines ∙ append_assoc before (happened ends.event ∷ []) (done (length bodies) ∷ []))
              ∙ with_done before 0 (length bodies) [] None h ends.event count (ap history_in (sym lines) ∙ is.history);
        }

-- the text of the line that strikes out
pub strike_body : IsBody (codes "{\"event\":\"strike\"}")
strike_body = subst IsBody strike_is strike_entry.body

-- ---- the forms of what was allowed

same_event : (e f : Event) → Some e ≡ Some f → e ≡ f
same_event e f is = cc

-- the number that an event names is the one that was asked for
pub numbered_by : (caller : List ℕ) (a : Ask) (e : Event) → IsAsked caller a (Some e) → AskHasNumber a → HasNumber e
numbered_by caller (ask.Enrol user team roles digest) e is number = subst HasNumber (sym (same_event e (enrolled caller user team roles digest) is)) tt
numbered_by caller (ask.Submit p document) e is number = subst HasNumber (sym (same_event e (submitted caller p (profile_text is.read)) is.happened)) tt
numbered_by caller (ask.Vote p n digest approve) e is number = subst HasNumber (sym (same_event e (voted caller p n digest approve) is)) number
numbered_by caller (ask.ActOnRevision act p n) e is number = subst HasNumber (sym (same_event e (on_revision caller act p n) is)) number
numbered_by caller (ask.SeeRevision view p n) e is number = absurd cc
numbered_by caller (ask.List team) e is number = absurd cc
numbered_by caller (ask.ActOnProfile act p) e is number = subst HasNumber (sym (same_event e (on_profile caller act p) is)) tt
numbered_by caller (ask.SeeProfile view p) e is number = absurd cc
numbered_by caller ask.Me e is number = absurd cc
numbered_by caller (ask.Revisions p before) e is number = absurd cc

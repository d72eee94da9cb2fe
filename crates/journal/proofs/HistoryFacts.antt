-- What a journal tells is its history.
use Rattle.std.proofs.Common.{◌≡◌, ◌∙◌, ℕ, ◌+◌, List, [], ◌∷◌, ◌++◌, Option, Some, None, refl, sym, ap, append_assoc, append-nil, map}
use Rattle.std.specs.Prelude.{option_and_then, option_map, reverse}
use Rattle.std.proofs.lemmas.List.{map-append, reverse-append}
use Rattle.office_policy.specs.History.{Event, History}
use Rattle.office_policy.specs.Runs.{with_event}
use Rattle.sealed_log.specs.Sealed.{no_seal, sealed_text}
use Rattle.journal.specs.Journal.{IsJournalOf, IsSealedJournal, history_from, history_in, taken}
use Rattle.journal.specs.Lines.{Line, text_of}
use Rattle.journal.proofs.ToldFacts.{still_known}
use Rattle.journal.specs.Told.{Ends, GoesOn, IsBegun, IsJournalTo, IsTold, Place, history_told, standing, start, text_behind, told}

abbrev Placed : Type 0
Placed = ℕ × Event

-- the event that stands comes onto the history
one_more : (number : ℕ) (stands : Option Event) (h : History) → history_told (standing number stands) ++ h ≡ with_event stands h
one_more number None h = refl
one_more number (Some e) h = refl

joined : (number : ℕ) (stands : Option Event) (es : List Placed) (h : History) → history_told es ++ with_event stands h ≡ history_told (standing number stands ++ es) ++ h
joined number stands es h =
    let events : List Placed → List Event = λ ps. map (λ p. p.1) ps in
    let first = events (standing number stands) in
    let parts : history_told (standing number stands ++ es) ≡ history_told es ++ history_told (standing number stands) =
    ap reverse (map-append (λ p. p.1) (standing number stands) es) ∙ reverse-append first (events es) in
    sym (ap (λ l. l ++ h) parts ∙ append_assoc (history_told es) (history_told (standing number stands)) h ∙ ap (λ l. history_told es ++ l) (one_more number stands h))

-- what the lines from here on tell is what they add to the history
abbrev Adds : List Line → Type 0
Adds lines =
    (before : ℕ) (held : Option Event) (es : List Placed) (h : History) → told before held lines ≡ Some es → history_from before h held lines ≡ Some (history_told es ++ h)

adds_rest : (lines : List Line) → Adds lines → (before : ℕ) (stands kept : Option Event) (es : List Placed) (h : History)
    → option_map (λ es. standing before stands ++ es) (told (before + 1) kept lines) ≡ Some es → history_from (before + 1) (with_event stands h) kept lines ≡ Some (history_told es ++ h)
adds_rest lines adds before stands kept es h tells = at (told (before + 1) kept lines) refl tells
  where
    at : (rest : Option (List Placed)) → told (before + 1) kept lines ≡ rest → option_map (λ es. standing before stands ++ es) rest ≡ Some es
        → history_from (before + 1) (with_event stands h) kept lines ≡ Some (history_told es ++ h)
    at None is given = cc
    at (Some rest) is given =
        let same : standing before stands ++ rest ≡ es = cc in
        adds (before + 1) kept rest (with_event stands h) is ∙ ap (λ l. Some l) (joined before stands rest h ∙ ap (λ l. history_told l ++ h) same)

adds : (lines : List Line) → Adds lines
adds [] before held es h tells =
    let same : standing before held ≡ es = cc in
    ap (λ l. Some l) (sym (one_more before held h) ∙ ap (λ l. history_told l ++ h) same)
adds (line ∷ lines) before held es h tells = at (adds lines) (taken before held line) tells
  where
    at : Adds lines → (t : Option (Option Event × Option Event)) → option_and_then (λ t. option_map (λ es. standing before t.0 ++ es) (told (before + 1) t.1 lines)) t ≡ Some es
        → option_and_then (λ t. history_from (before + 1) (with_event t.0 h) t.1 lines) t ≡ Some (history_told es ++ h)
    at rest None given = cc
    at rest (Some t) given = adds_rest lines rest before t.0 t.1 es h given

pub lines_tell : (lines : List Line) (es : List (ℕ × Event)) → told 0 None lines ≡ Some es → history_in lines ≡ Some (history_told es)
lines_tell lines es tells = adds lines 0 None es [] tells ∙ ap (λ l. Some l) (append-nil (history_told es))

pub journal_told : (text : List ℕ) (es : List (ℕ × Event)) → IsTold 0 None no_seal text es → IsJournalOf text (history_told es)
journal_told text es t = record {
  bodies = map text_of t.lines;
  is = t.says;
  says = record { lines = t.lines; entries = t.entries; are = refl; history = lines_tell t.lines es t.tells };
}

pub before_place : (text : List ℕ) (p : Place) (es : List (ℕ × Event)) → IsBegun 0 None no_seal text p es → IsJournalTo p text (history_told (es ++ standing p.taken p.held))
before_place text p es b = record {
  front = text_behind no_seal b.lines;
  rest = b.rest;
  parts = b.says;
  left = b.left;
  journal = record {
    bodies = map text_of b.lines;
    is = refl;
    says = record { lines = b.lines; entries = b.entries; are = refl; history = lines_tell b.lines (es ++ standing p.taken p.held) b.tells };
  };
  sealed = b.sealed;
}

-- what was read to the end is all of the journal
pub read_whole : (text : List ℕ) (here end : Place) (es : List (ℕ × Event)) → GoesOn (start (Some text)) here es → Ends here end → IsSealedJournal text (history_told es) end.seal
read_whole text here end es on ends =
    let begun : IsBegun 0 None no_seal text end (es ++ []) = on.begins end [] ends.begins in
    let tells : told 0 None begun.lines ≡ Some es =
    begun.tells ∙ ap (λ (held : Option Event). Some ((es ++ []) ++ standing end.taken held)) ends.held ∙ ap (λ l. Some l) (append-nil (es ++ []) ∙ append-nil es) in
    let left : end.left ≡ Some [] = still_known (start (Some text)) here es (end.left ≡ Some []) on ends.left in
    let none : begun.rest ≡ [] = let both : ◌≡◌ {A = Option (List ℕ)} (Some begun.rest) (Some []) = sym begun.left ∙ left in cc in
    record {
      journal = record {
        bodies = map text_of begun.lines;
        is = begun.says ∙ ap (λ (l : List ℕ). text_behind no_seal begun.lines ++ l) none ∙ append-nil (text_behind no_seal begun.lines);
        says = record { lines = begun.lines; entries = begun.entries; are = refl; history = lines_tell begun.lines es tells };
      };
      sealed = begun.sealed;
    }

-- ---- each history is told

abbrev IsToldBy : List Line → Type 0
IsToldBy lines =
    (before : ℕ) (held : Option Event) (g h : History) → history_from before g held lines ≡ Some h → (es : List Placed) × (told before held lines ≡ Some es)

told_by : (lines : List Line) → IsToldBy lines
told_by [] before held g h is = (standing before held, refl)
told_by (line ∷ lines) before held g h is = at (told_by lines) (taken before held line) is
  where
    at : IsToldBy lines → (t : Option (Option Event × Option Event)) → option_and_then (λ t. history_from (before + 1) (with_event t.0 g) t.1 lines) t ≡ Some h
        → (es : List Placed) × (option_and_then (λ t. option_map (λ es. standing before t.0 ++ es) (told (before + 1) t.1 lines)) t ≡ Some es)
    at further None given = cc
    at further (Some t) given =
        let rest = further (before + 1) t.1 (with_event t.0 g) h given in
        (standing before t.0 ++ rest.0, ap (λ o. option_map (λ es. standing before t.0 ++ es) o) rest.1)

pub journal_tells : (text : List ℕ) (h : History) → IsJournalOf text h → (es : List (ℕ × Event)) × IsTold 0 None no_seal text es × (h ≡ history_told es)
journal_tells text h is =
    let says = is.says in
    let all = told_by says.lines 0 None [] h says.history in
    let both : ◌≡◌ {A = Option History} (Some h) (Some (history_told all.0)) = sym says.history ∙ lines_tell says.lines all.0 all.1 in
    (all.0, record { lines = says.lines; entries = says.entries; says = is.is ∙ ap sealed_text says.are; tells = all.1 }, cc)

-- Events that happen again, one after the other.
use Rattle.std.proofs.Common.{◌≡◌, ◌∙◌, ℕ, List, [], ◌∷◌, ◌++◌, length, Option, Some, None, IfSome, sym, ap, subst, arith, append_assoc, append-nil, map}
use Rattle.std.specs.Prelude.{reverse}
use Rattle.std.proofs.lemmas.List.{map-append, reverse-append, length-map, length-reverse}
use Rattle.office_policy.specs.History.{Event, History}
use Rattle.office_policy.specs.Lawful.{IsAllowed, IsLawfulHistory}
use Rattle.office_policy.specs.Handled.{Stands}
use Rattle.office_policy.specs.Meaning.{Meaning}
use Rattle.review_office.specs.Replayed.{HasHappened}
use Rattle.journal.specs.Journal.{IsSealedJournal}
use Rattle.journal.specs.Told.{Begins, Ends, GoesOn, IsBegun, Place, Tells, history_told, start, text_behind}
use Rattle.journal.specs.Lines.{text_of}
use Rattle.journal.proofs.JournalFacts.{all_bodies}
use Rattle.journal.proofs.ToldFacts.{still_known}
use Rattle.sealed_log.specs.Sealed.{no_seal, sealed_text}
use Rattle.sealed_log.specs.Told.{told}
use Rattle.sealed_log.proofs.ToldFacts.{told_text}
use Rattle.journal.proofs.HistoryFacts.{read_whole}
use Rattle.journal_office.specs.Rebuilt.{HasReplayed, IsRebuilt}

abbrev Line : Type 0
Line = ℕ × Event

-- what is told from one place to the next, and from there on
pub goes_then : (a b c : Place) (es fs : List (ℕ × Event)) → GoesOn a b es → GoesOn b c fs → GoesOn a c (es ++ fs)
goes_then a b c es fs ab bc = record {
  tells = λ xs t. subst (Tells a) (sym (append_assoc es fs xs)) (ab.tells (fs ++ xs) (bc.tells xs t));
  begins = λ later xs t. subst (Begins a later) (sym (append_assoc es fs xs)) (ab.begins later (fs ++ xs) (bc.begins later xs t));
  stops = λ after fault s. ab.stops after fault (bc.stops after fault s);
  only = λ bytes all is t.
      let x = ab.only bytes all is t in
      let y = bc.only x.bytes x.rest x.left x.tells in
      record {
        bytes = y.bytes;
        left = y.left;
        rest = y.rest;
        tells = y.tells;
        parts = x.parts ∙ ap (λ (l : List Line). es ++ l) y.parts ∙ sym (append_assoc es fs y.rest);
      };
}

-- the history of what is told further on stands onto that of what was told
pub told_on : (es rest : List (ℕ × Event)) → history_told (es ++ rest) ≡ history_told rest ++ history_told es
told_on es rest =
    let event : Line → Event = λ p. p.1 in
    ap reverse (map-append event es rest) ∙ reverse-append (map event es) (map event rest)

pub told_more : (es : List (ℕ × Event)) (line : ℕ) (e : Event) → history_told (es ++ (line, e) ∷ []) ≡ e ∷ history_told es
told_more es line e = told_on es ((line, e) ∷ [])

told_length : (es : List Line) → length (history_told es) ≡ length es
told_length es =
    let event : Line → Event = λ p. p.1 in
    length-reverse (map event es) ∙ length-map es event

lawful_more : (h : History) (e : Event) → IsAllowed h e → IsLawfulHistory h → IsLawfulHistory (e ∷ h)
lawful_more [] e allowed lawful = absurd lawful
lawful_more (f ∷ h) e allowed lawful = (allowed, lawful)

-- what was read to the end are all of its lines
lines_whole : (text : List ℕ) (here end : Place) (es : List (ℕ × Event)) → GoesOn (start (Some text)) here es → Ends here end → end.taken ≡ length (told text)
lines_whole text here end es on ends =
    let begun : IsBegun 0 None no_seal text end (es ++ []) = on.begins end [] ends.begins in
    let left : end.left ≡ Some [] = still_known (start (Some text)) here es (end.left ≡ Some []) on ends.left in
    let none : begun.rest ≡ [] = let both : ◌≡◌ {A = Option (List ℕ)} (Some begun.rest) (Some []) = sym begun.left ∙ left in cc in
    let is : text ≡ sealed_text (map text_of begun.lines) =
    begun.says ∙ ap (λ (l : List ℕ). text_behind no_seal begun.lines ++ l) none ∙ append-nil (text_behind no_seal begun.lines) in
    let size : length (told text) ≡ length begun.lines =
    ap length (ap told is ∙ told_text (map text_of begun.lines) (all_bodies begun.lines begun.entries)) ∙ length-map begun.lines text_of in
    let counted = begun.counted in
    omega (arith, counted, size)

module _ {X : Type 0} (m : Meaning X) (bytes : Option (List ℕ)) where
  -- an event that happens again
  module _ (here : Place) (es : List (ℕ × Event)) (line : ℕ) (e : Event) (old new : X) (before : HasReplayed bytes m here es old) (happened : HasHappened m old new e) where
    pub more_lawful : m.is_clean new → IsLawfulHistory (history_told (es ++ (line, e) ∷ []))
    more_lawful clean =
        let was = happened.survives.clean clean in
        subst IsLawfulHistory (sym (told_more es line e))
        (lawful_more (history_told es) e (happened.allowed (history_told es) (before.stands was).is_of clean) (before.lawful was))

    pub more_stands : m.is_clean new → Stands m (history_told (es ++ (line, e) ∷ [])) new
    more_stands clean =
        let was = happened.survives.clean clean in
        subst (λ (h : History). Stands m h new) (sym (told_more es line e)) (happened.stands (history_told es) (before.stands was).is_of clean)

  pub more : (here after : Place) (es : List (ℕ × Event)) (line : ℕ) (e : Event) (old new : X) → HasReplayed bytes m here es old → GoesOn here after ((line, e) ∷ [])
      → HasHappened m old new e → HasReplayed bytes m after (es ++ (line, e) ∷ []) new
  more here after es line e old new before on happened = record {
    told = goes_then (start bytes) here after es ((line, e) ∷ []) before.told on;
    lawful = more_lawful here es line e old new before happened;
    stands = more_stands here es line e old new before happened;
  }

  -- the journal is at its end
  pub ended : (here end : Place) (es : List (ℕ × Event)) (count : ℕ) (office : X) → HasReplayed bytes m here es office → Ends here end → count ≡ length es
      → IsRebuilt bytes m count end.seal end.taken office
  ended here end es count office all ends counted = record {
    history = history_told es;
    journal = journal bytes all.told;
    lined = lined bytes all.told;
    counted = counted ∙ sym (told_length es);
    lawful = all.lawful;
    stands = all.stands;
  }
    where
      journal : (bytes : Option (List ℕ)) → GoesOn (start bytes) here es → IfSome bytes (λ text. IsSealedJournal text (history_told es) end.seal)
      journal None told = tt
      journal (Some text) told = read_whole text here end es told ends

      lined : (bytes : Option (List ℕ)) → GoesOn (start bytes) here es → IfSome bytes (λ text. end.taken ≡ length (told text))
      lined None goes = tt
      lined (Some text) goes = lines_whole text here end es goes ends

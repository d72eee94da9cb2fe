-- How far the answering of a stream has come, and what stands where it stops.
use Rattle.std.proofs.Common.{◌≡◌, ◌∙◌, ℕ, zero, suc, ◌+◌, ◌<◌, ◌≤◌, List, [], ◌∷◌, ◌++◌, Option, Some, None, IfSome, Result, Ok, Err, length, take, refl, sym, ap, subst, arith, length-append, append_assoc, add-one}
use Rattle.std.specs.Prelude.{⊤, OnOk, IfErr}
use Rattle.std.specs.Io.KnownBytes.{IsAtEnd}
use Rattle.std.specs.Option.{option_or}
use Rattle.office_policy.specs.Meaning.{Meaning}
use Rattle.streams.specs.Handed.{Handed, KeepsHanded, HandsOut}
use Rattle.streams.specs.Held.{Held, Holds, HasLine, size}
use Rattle.streams.specs.Lines.{first_line, lines_of, NoFeed}
use Rattle.streams.specs.declared.counted.Counted.{Counted}
use Rattle.streams.proofs.HandedFacts.{all_handed, last_held, next_held}
use Rattle.streams.proofs.HeldFacts.{holds_no_feed}
use Rattle.desk_lines.specs.declared.fault.DeskFault.{DeskFault}
use Rattle.desk_lines.specs.declared.fault.DeskFault.TheVariants.{Read, Write, TooManyReads, NoMemory, Unbegun}
use Rattle.desk_lines.specs.declared.outcome.LineOutcome.{LineOutcome}
use Rattle.desk_lines.specs.Notes.{HasNote}
use Rattle.desk_lines.specs.Outcomes.{told, want_of}
use Rattle.desk_lines.specs.declared.ended.Ended.{Ended}
use Rattle.desk_lines.specs.Stands.{IsHandled, HasHandled, HasNoted, AreAnswered, AreCutShort, StopsWriting, StandsAfter, IsUnfinished}
use Rattle.desk_lines.specs.Written.{IsServed}
use Rattle.desk_lines.proofs.OutcomeFacts.{answered_none, answered_more, cut_short, cut_before, none_handled, handled_more, notes_now}
use Rattle.no_memory.specs.Witness.{witness}
use Rattle.no_memory.specs.declared.witness.NoMemory.{«NoMemory» as Want}

-- ---- how it ended

pub well_so : (ended : Ended) (want : Option Want) (Holds : Option Want → Type 0) → ended ≡ record { answered = Ok (tt {0}); witness = want } → Holds want
    → OnOk ended.answered (Holds ended.witness)
well_so ended want Holds is holds = subst (λ (e : Ended). OnOk e.answered (Holds e.witness)) (sym is) holds

pub stopped_so : (ended : Ended) (fault : DeskFault) (want : Option Want) (Holds : Option Want → DeskFault → Type 0) → ended ≡ record { answered = Err fault; witness = want }
    → Holds want fault → IfErr ended.answered (Holds ended.witness)
stopped_so ended fault want Holds is holds = subst (λ (e : Ended). IfErr e.answered (Holds e.witness)) (sym is) holds

module _ {X E : Type 0} (m : Meaning X) (said_of : E → Option (List ℕ)) where
  -- the lines that were handed out are answered
  pub record Progress (old now : X) (held : Held) (unread rest before current : Option (List ℕ)) (errors noted : Counted E) (want : Option Want) (number : ℕ) : Type 0 where
    pub lines : List (List ℕ)
    pub handed : Handed held unread rest lines
    pub count : number ≡ length lines
    pub answered : AreAnswered m said_of errors noted old now before current lines want

  pub progress_none : (s : X) (held : Held) (stream w : Option (List ℕ)) (errors : Counted E) → ((any : Option (List ℕ)) → Handed held any any [])
      → Progress s s held stream stream w w errors errors None 0
  progress_none s held stream w errors none = record { lines = []; handed = none stream; count = refl; answered = answered_none m said_of s w errors }

  -- more is read, and nothing else happens
  pub progress_read : (old now : X) (held next : Held) (unread was rest before current : Option (List ℕ)) (errors noted : Counted E) (want : Option Want) (number : ℕ)
      → Progress old now held unread was before current errors noted want number
      → KeepsHanded held next was rest → Progress old now next unread rest before current errors noted want number
  progress_read old now held next unread was rest before current errors noted want number p keeps =
      record { lines = p.lines; handed = keeps unread p.lines p.handed; count = p.count; answered = p.answered }

  -- the front of a list up to and with one more item
  front : (done others : List (List ℕ)) (first : List ℕ) → take (suc (length done)) (done ++ first ∷ others) ≡ done ++ first ∷ []
  front [] others first = refl
  front (l ∷ done) others first = ap (λ ls. l ∷ ls) (front done others first)

  pub none_has : (s : X) → HasHandled m s s
  none_has s = record { lines = []; outcomes = []; handled = none_handled m s }

  pub none_noted : (s : X) (errors : Counted E) → HasNoted m said_of errors errors s s
  unfolding none_has
  none_noted s errors = (none_has s, refl)

  -- a line is handled, and this is written and noted of it, behind lines that tell this want of memory
  abbrev pub ServesLine : (mid new : X) → (line : List ℕ) → (between after : Option (List ℕ)) → (said noted : Counted E) → Option Want → ℕ → Ended → Type 0
  ServesLine mid new line between after said noted want number ended =
      (o : LineOutcome) × IsHandled m mid new line o × IsServed between after (told o) number ended.answered
      × (ended.witness ≡ option_or want (want_of o)) × HasNote said_of number line o said noted

  -- so is the same line
  pub served_as : (mid new : X) (line same : List ℕ) (between after : Option (List ℕ)) (said noted : Counted E) (want : Option Want) (number : ℕ) (ended : Ended) → line ≡ same
      → ServesLine mid new line between after said noted want number ended → ServesLine mid new same between after said noted want number ended
  served_as mid new line same between after said noted want number ended is serves =
      subst (λ (l : List ℕ). ServesLine mid new l between after said noted want number ended) is serves

  -- so is the first line that is held
  abbrev pub ServesFirst : (mid new : X) → Held → (between after : Option (List ℕ)) → (said noted : Counted E) → Option Want → ℕ → Ended → Type 0
  ServesFirst mid new held between after said noted want number ended =
      (bytes : List ℕ) → Holds held bytes → ServesLine mid new (first_line bytes) between after said noted want number ended

  -- ---- where the reading stops

  module _ (old now : X) (held : Held) (unread rest before current : Option (List ℕ)) (errors noted : Counted E) (want : Option Want) (number : ℕ)
      (p : Progress old now held unread rest before current errors noted want number) where
    pub all_answered : size held ≡ 0 → IsAtEnd rest → IfSome unread (λ input. AreAnswered m said_of errors noted old now before current (lines_of input) want)
    all_answered none end = with_all unread (all_handed held unread rest p.lines p.handed none end)
      where
        with_all : (u : Option (List ℕ)) → IfSome u (λ input. lines_of input ≡ p.lines) → IfSome u (λ input. AreAnswered m said_of errors noted old now before current (lines_of input) want)
        with_all None all = tt
        with_all (Some input) all = subst (λ (ls : List (List ℕ)). AreAnswered m said_of errors noted old now before current ls want) (sym all) p.answered

    -- and noted
    pub all_noted : HasNoted m said_of errors noted old now
    all_noted = (record { lines = p.lines; outcomes = p.answered.outcomes; handled = p.answered.handled }, p.answered.notes)

    -- what is held is a part of a line, of which nothing is handled
    pub unfinished : NoFeed held.bytes → IsUnfinished m said_of errors noted old now unread rest before current want (number + 1)
    unfinished none = record {
      bytes = p.handed.whole ++ p.handed.rest;
      whole = p.handed.whole;
      unfinished = p.handed.rest;
      read = p.handed.read;
      cut = record { parts = refl; ended = p.handed.ended; no_feed = holds_no_feed held p.handed.rest p.handed.holds none };
      number = add-one number ∙ ap suc (p.count ∙ ap length p.handed.lines_are);
      answered = subst (λ (ls : List (List ℕ)). AreAnswered m said_of errors noted old now before current ls want) p.handed.lines_are p.answered;
    }

    -- what is held is the next line of the stream
    abbrev pub IsNext : Type 0
    IsNext = IfSome unread (λ input. (more : List (List ℕ)) × (lines_of input ≡ p.lines ++ first_line p.handed.rest ∷ more))

    pub next_whole : HasLine held.bytes → IsNext
    next_whole has = next_held held unread rest p.lines p.handed has

    pub next_last : NoFeed held.bytes → 0 < size held → IsAtEnd rest → IsNext
    next_last none some end = with_last unread (last_held held unread rest p.lines p.handed none some end)
      where
        with_last : (u : Option (List ℕ)) → IfSome u (λ input. lines_of input ≡ p.lines ++ first_line p.handed.rest ∷ [])
            → IfSome u (λ input. (more : List (List ℕ)) × (lines_of input ≡ p.lines ++ first_line p.handed.rest ∷ more))
        with_last None all = tt
        with_last (Some input) all = ([], all)

  -- ---- the line that is held

  module _ (old mid new : X) (held : Held) (unread rest before between after : Option (List ℕ)) (errors said noted : Counted E) (want : Option Want) (number : ℕ)
      (p : Progress old mid held unread rest before between errors said want number) (ended : Ended) where
    abbrev pub Serves : Type 0
    Serves = ServesFirst mid new held between after said noted want (number + 1) ended

    -- the number of the line that is held
    next_number : number + 1 ≡ 1 + length p.lines
    next_number = omega (arith, p.count)

    abbrev line : List ℕ
    line = first_line p.handed.rest

    pub served_handled : Serves → HasHandled m old new
    served_handled serves =
        let so = serves p.handed.rest p.handed.holds in
        record {
          lines = p.lines ++ line ∷ [];
          outcomes = p.answered.outcomes ++ so.0 ∷ [];
          handled = handled_more m old mid new p.lines p.answered.outcomes line so.0 p.answered.handled so.1;
        }

    pub served_noted : Serves → HasNoted m said_of errors noted old new
    unfolding served_handled
    served_noted serves =
        let so = serves p.handed.rest p.handed.holds in (
          served_handled serves,
          notes_now m said_of old mid new before between after errors said noted p.lines line so.0 want ended.witness (number + 1) p.answered so.1 so.3 next_number so.4,
        )

    -- the desk had begun
    pub served_later : Serves → ended.answered ≡ Err (Unbegun witness) → ⊥
    served_later serves is =
        let so = serves p.handed.rest p.handed.holds in
        subst (λ (r : Result ⊤ DeskFault). IsServed between after (told so.0) (number + 1) r) is so.2

    served_whole : Serves → ended.answered ≡ Ok tt → AreAnswered m said_of errors noted old new before after (p.lines ++ line ∷ []) ended.witness
    served_whole serves is =
        let so = serves p.handed.rest p.handed.holds in
        answered_more m said_of old mid new before between after errors said noted p.lines line so.0 want ended.witness (number + 1) p.answered so.1 so.3 next_number so.4
        (subst (λ (r : Result ⊤ DeskFault). IsServed between after (told so.0) (number + 1) r) is so.2)

    pub progress_more : (next : Held) → HandsOut held next → Serves → ended.answered ≡ Ok tt
        → Progress old new next unread rest before after errors noted ended.witness (number + 1)
    progress_more next hands serves is = record {
      lines = p.lines ++ line ∷ [];
      handed = hands unread rest p.lines p.handed;
      count = ap (λ n. n + 1) p.count ∙ sym (length-append p.lines (line ∷ []));
      answered = served_whole serves is;
    }

    pub last_answered : NoFeed held.bytes → 0 < size held → IsAtEnd rest → Serves
        → OnOk ended.answered (IfSome unread (λ input. AreAnswered m said_of errors noted old new before after (lines_of input) ended.witness))
    last_answered none some end serves =
        elim ended.answered as (λ r. ended.answered ≡ r → OnOk r (IfSome unread (λ input. AreAnswered m said_of errors noted old new before after (lines_of input) ended.witness))) [
          | Ok u ↦ λ is. with_last is unread (last_held held unread rest p.lines p.handed none some end)
          | Err e ↦ λ is. tt
        ] refl
      where
        with_last : ended.answered ≡ Ok tt → (u : Option (List ℕ)) → IfSome u (λ input. lines_of input ≡ p.lines ++ first_line p.handed.rest ∷ [])
            → IfSome u (λ input. AreAnswered m said_of errors noted old new before after (lines_of input) ended.witness)
        with_last is None all = tt
        with_last is (Some input) all = subst (λ (ls : List (List ℕ)). AreAnswered m said_of errors noted old new before after ls ended.witness) (sym all) (served_whole serves is)

    module _ (input : List ℕ) (more : List (List ℕ)) (all : lines_of input ≡ p.lines ++ first_line p.handed.rest ∷ more) where
      within : number + 1 ≤ length (lines_of input)
      within = omega (arith, ap length all, length-append p.lines (first_line p.handed.rest ∷ more), p.count)

      up_to : take (number + 1) (lines_of input) ≡ p.lines ++ line ∷ []
      up_to =
          ap (λ n. take n (lines_of input)) (add-one number ∙ ap suc p.count) ∙ ap (λ ls. take (suc (length p.lines)) ls) all
          ∙ front p.lines more (first_line p.handed.rest)

      stops : (e : DeskFault) (o : LineOutcome) → IsHandled m mid new line o → IsServed between after (told o) (number + 1) (Err e) → ended.witness ≡ option_or want (want_of o)
          → HasNote said_of (number + 1) line o said noted
          → StopsWriting m said_of errors noted old new before after (lines_of input) ended.witness e
      stops (Write n) o handled served tells note =
          let cut : (count : ℕ) × AreCutShort m said_of errors noted old new before after (p.lines ++ line ∷ []) ended.witness count =
          cut_short m said_of old mid new before between after errors said noted p.lines line o want ended.witness (number + 1) p.answered handled tells next_number note served.1 in
          rw (served.0) (omega arith, within, cut.0, rw up_to cut.1)
      stops (NoMemory n _) o handled served tells note =
          rw (served.0) (omega arith, within, rw (up_to, served.1) (cut_before m said_of old mid new before between after errors said noted p.lines line o want ended.witness (number + 1) p.answered handled tells next_number note))
      stops (Read n) o handled served tells note = absurd served
      stops (TooManyReads n) o handled served tells note = absurd served
      stops (Unbegun _) o handled served tells note = absurd served

    stops_in : (u : Option (List ℕ)) → IfSome u (λ input. (more : List (List ℕ)) × (lines_of input ≡ p.lines ++ first_line p.handed.rest ∷ more))
        → (e : DeskFault) (o : LineOutcome) → IsHandled m mid new line o → IsServed between after (told o) (number + 1) (Err e) → ended.witness ≡ option_or want (want_of o)
        → HasNote said_of (number + 1) line o said noted → IfSome u (λ input. StopsWriting m said_of errors noted old new before after (lines_of input) ended.witness e)
    stops_in None next e o handled served tells note = tt
    stops_in (Some input) next e o handled served tells note = stops input next.0 next.1 e o handled served tells note

    -- its answer was not written whole
    pub stands_last : IsNext old mid held unread rest before between errors said want number p → Serves → IfErr ended.answered (StandsAfter m said_of errors noted old new unread rest before after ended.witness)
    stands_last next serves =
        let so = serves p.handed.rest p.handed.holds in
        elim ended.answered as (λ r. IsServed between after (told so.0) (number + 1) r → IfErr r (StandsAfter m said_of errors noted old new unread rest before after ended.witness)) [
          | Ok u ↦ λ served. tt
          | Err e ↦ λ served. stands e so.0 so.1 served so.3 so.4
        ] so.2
      where
        stands : (e : DeskFault) (o : LineOutcome) → IsHandled m mid new line o → IsServed between after (told o) (number + 1) (Err e) → ended.witness ≡ option_or want (want_of o)
            → HasNote said_of (number + 1) line o said noted → StandsAfter m said_of errors noted old new unread rest before after ended.witness e
        stands (Write n) o handled served tells note = stops_in unread next (Write n) o handled served tells note
        stands (NoMemory n _) o handled served tells note = stops_in unread next (NoMemory n witness) o handled served tells note
        stands (Read n) o handled served tells note = absurd served
        stands (TooManyReads n) o handled served tells note = absurd served
        stands (Unbegun _) o handled served tells note = absurd served

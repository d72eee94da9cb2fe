-- What an office with a journal is to those who see neither store nor file.
use Rattle.std.proofs.Common.{◌≡◌, ◌⊎◌, inl, inr, ◌∙◌, ◌+◌, ◌-◌, ◌^◌, [], ◌∷◌, ◌++◌, ◌≤◌, ◌&&◌, ℕ, List}
use Rattle.std.proofs.Common.{Bool, true, false, not, length, flat_map, if◌then◌else◌, IsTrue, ap}
use Rattle.std.proofs.lemmas.Bool.{and_parts, false≢true}
use Rattle.std.proofs.Common.{refl, sym, subst, append-nil, append_assoc, ◌==◌, Option, Some, None}
use Rattle.std.specs.Prelude.{Result, Ok, Err, ⊤, IfErr, OnErr, OnOk}
use Rattle.std.proofs.lemmas.Grind.{flat_map-append}
use Rattle.review_policy.specs.declared.ask.Request.{Request}
use Rattle.review_policy.specs.declared.answer.Answer.{Answer}
use Rattle.review_policy.specs.declared.answer.Answer.TheVariants as answers
use Rattle.office_words.specs.declared.fault.Fault.{Fault}
use Rattle.office_policy.specs.History.{Event, History}
use Rattle.office_policy.specs.Meaning.{Meaning, Entry, no_entry, entry_of, struck_entry_of}
use Rattle.office_policy.specs.Handled.{Stands, Survives}
use Rattle.office_policy.specs.Judging.{IsAnswered, LeavesAll}
use Rattle.sealed_log.specs.Sealed.{IsBody, no_seal, seal_of, sealed_lines, sealed_text}
use Rattle.sealed_log.proofs.SealFacts.{sealed_lines-append}
use Rattle.journal.specs.Journal.{EndsWithEvent, IsJournalOf, Says}
use Rattle.journal.specs.Lines.{done, happened, strike, text_of}
use Rattle.journal.specs.declared.journaled.Journaled.{Journaled}
use Rattle.journal.specs.Begun.{IsBegun, IsEnding, done_bodies, with_event}
use Rattle.journal.specs.Writing.{Writing, IsAppended, IsLeftIn, IsMet}

-- the journal, as it stands, with another office
abbrev pub with_office : {O J : Type 0} → Journaled O J → O → Journaled O J
with_office x office = record {
  office = office;
  journal = x.journal;
  has_stray = x.has_stray;
  is_settled = x.is_settled;
}

-- events that didn't happen, each with the line that strikes it out; and before it, where it has a
-- number, the line which says of the event of that number that it is carried out
abbrev pub struck_body : Option ℕ × Event → List (List ℕ)
struck_body s = done_bodies s.0 ++ text_of (happened s.1) ∷ text_of strike ∷ []

abbrev pub struck_bodies : List (Option ℕ × Event) → List (List ℕ)
struck_bodies events = flat_map struck_body events

-- the second are the first, and such events behind them
pub record HasStruck (old new : List (List ℕ)) : Type 0 where
  pub events : List (Option ℕ × Event)
  pub is : new ≡ old ++ struck_bodies events

pub struck_none : (bodies : List (List ℕ)) → HasStruck bodies bodies
struck_none bodies = record { events = []; is = sym (append-nil bodies) }

pub struck_on : (a b c : List (List ℕ)) → HasStruck a b → HasStruck b c → HasStruck a c
struck_on a b c first then_ = record {
  events = first.events ++ then_.events;
  is = then_.is ∙ ap (λ l. l ++ struck_bodies then_.events) first.is
      ∙ append_assoc a (struck_bodies first.events) (struck_bodies then_.events)
      ∙ ap (λ l. a ++ l) (sym (flat_map-append struck_body first.events then_.events));
}

-- a file has the line of this event, and behind it at most what is left of the one that strikes it
-- out
pub record HasUnstruck (e : Event) (file : List ℕ) : Type 0 where
  pub before : List (List ℕ)
  pub left : IsLeftIn (with_event before e) [] (text_of strike) file

-- the number of the line of the last event, where no line says yet what became of that and the number
-- can be told
abbrev pub unsettled : {O J : Type 0} (w : Writing J) → Journaled O J → Option ℕ
unsettled w x =
    if x.is_settled then None
    else if w.lines x.journal == 2 ^ 64 - 1 then None else Some (w.lines x.journal)

-- the second are the first, or these and the line that says that their last event is carried out
abbrev pub HasSettled : (old new : List (List ℕ)) → Type 0
HasSettled old new = (new ≡ old) ⊎ (new ≡ old ++ text_of (done (length old)) ∷ [])

-- the bodies of what is written down of an event
abbrev pub bodies_for : Entry → List (List ℕ)
bodies_for no_entry = []
bodies_for (entry_of e) = text_of (happened e) ∷ []
bodies_for (struck_entry_of e) = text_of (happened e) ∷ text_of strike ∷ []

-- the second begin with the first
pub record BeginsWith {A : Type 0} (first all : List A) : Type 0 where
  pub more : List A
  pub is : all ≡ first ++ more

pub begins_on : {A : Type 0} (a b c : List A) → BeginsWith a b → BeginsWith b c → BeginsWith a c
begins_on a b c first then_ = record {
  more = first.more ++ then_.more;
  is = then_.is ∙ ap (λ l. l ++ then_.more) first.is ∙ append_assoc a first.more then_.more;
}

-- the text of a journal that begins with another begins with that one's
pub text_begins : (a b : List (List ℕ)) → BeginsWith a b
    → BeginsWith (sealed_text a) (sealed_text b)
text_begins a b begins = record {
  more = sealed_lines (seal_of a) begins.more;
  is = ap sealed_text begins.is ∙ sealed_lines-append no_seal a begins.more;
}

-- what came of a change, without what was told when its event was taken back
abbrev pub fault_in : Result ⊤ (Fault × Option Answer) → Result ⊤ Fault
fault_in (Ok unit) = Ok unit
fault_in (Err met) = Err met.0

module _ {O J : Type 0} (m : Meaning O) (w : Writing J) where
  -- the journal is open, and has no event that didn't happen
  abbrev pub goes_on : Journaled O J → Bool
  goes_on x = w.is_open x.journal && not x.has_stray

  -- what both keep things in has returned what was written
  abbrev pub is_clean : Journaled O J → Type 0
  is_clean x = m.is_clean x.office × w.is_clean x.journal

  -- the office is that of a history, and its journal says that history
  pub record IsOf (h : History) (x : Journaled O J) : Type 0 where
    pub office : m.is_of h x.office
    pub says : is_clean x → IsTrue (goes_on x) → Says (w.bodies x.journal) h
    -- where its last event isn't settled, the last line has it
    pub ends : is_clean x → IsTrue (goes_on x) → x.is_settled ≡ false
        → EndsWithEvent (w.bodies x.journal)

  -- a journal that goes on went on before, and has what it had. Behind that stand at most events that
  -- are struck out, and the done lines that come before them
  abbrev pub KeepsJournal : (old new : Journaled O J) → Type 0
  KeepsJournal old new = IsTrue (goes_on new)
      → IsTrue (goes_on old) × HasStruck (w.bodies old.journal) (w.bodies new.journal)

  -- A journal that goes on went on before, and has what it had, and just this entry behind that. Where no
  -- line said that the last event is carried out, one does before the entry.
  abbrev pub Adds : Entry → (old new : Journaled O J) → Type 0
  Adds no_entry old new = IsTrue (goes_on new)
      → IsTrue (goes_on old) × (w.bodies new.journal ≡ w.bodies old.journal)
      × (unsettled w new ≡ unsettled w old)
  Adds entry old new = IsTrue (goes_on new)
      → IsTrue (goes_on old) × (w.bodies new.journal
      ≡ w.bodies old.journal ++ (done_bodies (unsettled w old) ++ bodies_for entry))

  -- a journal that goes on went on before, and begins with what it had; what a crash leaves could be left
  -- before, or begins with all that the journal had, which went on
  pub record Grows (old new : Journaled O J) : Type 0 where
    pub bodies : IsTrue (goes_on new)
        → IsTrue (goes_on old) × BeginsWith (w.bodies old.journal) (w.bodies new.journal)
    pub files : (file : List ℕ) → w.may_leave new.journal file
        → w.may_leave old.journal file
        ⊎ (IsTrue (goes_on old) × BeginsWith (sealed_text (w.bodies old.journal)) file)

  -- an event that didn't happen is the last one of its journal, and couldn't be struck out
  pub record IsUnstruck (e : Event) (x : Journaled O J) : Type 0 where
    pub stray : x.has_stray ≡ true
    pub line : w.is_clean x.journal → (file : List ℕ) → w.may_leave x.journal file
        → HasUnstruck e file

  -- a journal with such an event doesn't go on
  pub stops : (x : Journaled O J) → x.has_stray ≡ true → IsTrue (goes_on x) → ⊥
  stops x has_stray goes =
      let none : IsTrue (not x.has_stray) = (and_parts (w.is_open x.journal) _ goes).1 in
      false≢true (subst (λ b. IsTrue (not b)) has_stray none)

  -- an event is a stray of its office, or of its journal
  abbrev pub HasAsStray : Event → Journaled O J → Type 0
  HasAsStray e x = m.is_stray e x.office ⊎ IsUnstruck e x

  pub strays_shut : (e : Event) (x : Journaled O J) → HasAsStray e x
      → m.is_open x.office × IsTrue (goes_on x) → ⊥
  strays_shut e x (inl within) is_open = m.strays_shut e x.office within is_open.0
  strays_shut e x (inr last) is_open = stops x last.stray is_open.1

  pub adds_none : (x : Journaled O J) → Adds no_entry x x
  adds_none x = λ goes. (goes, refl, refl)

  pub adds_on : (e : Entry) (x y z : Journaled O J) → Adds no_entry x y → Adds e y z → Adds e x z
  adds_on no_entry x y z first then_ = λ goes.
      let later = then_ goes in
      let earlier = first later.0 in
      (earlier.0, later.1 ∙ earlier.1, later.2 ∙ earlier.2)
  adds_on (entry_of e) x y z first then_ = λ goes.
      let later = then_ goes in
      let earlier = first later.0 in (
        earlier.0,
        later.1 ∙ ap (λ l. l ++ (done_bodies (unsettled w y) ++ bodies_for (entry_of e))) earlier.1
            ∙ ap (λ n. w.bodies x.journal ++ (done_bodies n ++ bodies_for (entry_of e)))
            earlier.2,
      )
  adds_on (struck_entry_of e) x y z first then_ = λ goes.
      let later = then_ goes in
      let earlier = first later.0 in (
        earlier.0,
        later.1
            ∙ ap (λ l. l ++ (done_bodies (unsettled w y) ++ bodies_for (struck_entry_of e)))
            earlier.1
            ∙ ap (λ n. w.bodies x.journal ++ (done_bodies n ++ bodies_for (struck_entry_of e)))
            earlier.2,
      )

  pub grows_itself : (x : Journaled O J) → Grows x x
  grows_itself x = record {
    bodies = λ goes. (goes, record { more = []; is = sym (append-nil (w.bodies x.journal)) });
    files = λ file may. inl may;
  }

  pub grows_on : (x y z : Journaled O J) → Grows x y → Grows y z → Grows x z
  grows_on x y z first then_ = record {
    bodies = λ goes.
        let later = then_.bodies goes in
        let earlier = first.bodies later.0 in (
          earlier.0,
          begins_on (w.bodies x.journal) (w.bodies y.journal) (w.bodies z.journal)
              earlier.1 later.1,
        );
    files = λ file may. elim (then_.files file may) [
      | inl before ↦ first.files file before
      | inr behind ↦
          let earlier = first.bodies behind.0 in
          inr (
            earlier.0,
            begins_on (sealed_text (w.bodies x.journal))
                (sealed_text (w.bodies y.journal)) file
                (text_begins (w.bodies x.journal) (w.bodies y.journal) earlier.1) behind.1,
          )
    ];
  }

  -- the meaning of an office with a journal: what is left of it are tables and a file
  abbrev pub journaled : Meaning (Journaled O J)
  journaled = record {
    is_clean = is_clean;
    is_open = λ x. m.is_open x.office × IsTrue (goes_on x);
    faults = λ x. m.faults x.office + w.faults x.journal;
    refuses = λ x. m.refuses x.office;
    is_of = IsOf;
    keeps = λ x y. m.keeps x.office y.office × KeepsJournal x y;
    is_stray = HasAsStray;
    adds = Adds;
    grows = Grows;
    Left = m.Left × List ℕ;
    may_leave = λ x left. m.may_leave x.office left.0 × w.may_leave x.journal left.1;
    are_of = λ h left. m.are_of h left.0 × IsJournalOf left.1 h;
    are_begun = λ h e left.
        (m.are_of h left.0 ⊎ m.are_begun h e left.0) × IsBegun h e left.1;
    lawful = λ h x of. m.lawful h x.office of.office;
    keeps_itself = λ x. (m.keeps_itself x.office, λ goes. (goes, struck_none (w.bodies x.journal)));
    keeps_on = λ x y z first then_. (
      m.keeps_on x.office y.office z.office first.0 then_.0,
      λ goes.
          let later = then_.1 goes in
          let earlier = first.1 later.0 in (
            earlier.0,
            struck_on (w.bodies x.journal) (w.bodies y.journal) (w.bodies z.journal)
                earlier.1 later.1,
          ),
    );
    adds_none = adds_none;
    adds_on = adds_on;
    grows_itself = grows_itself;
    grows_on = grows_on;
    strays_shut = strays_shut;
  }

  -- the line of an event was written, and before it the one that says that the last event is carried
  -- out, where no line said yet what became of that; none says what became of this one
  pub record HasWritten (old new : Journaled O J) (e : Event) : Type 0 where
    pub bodies : w.is_clean new.journal → w.bodies new.journal
        ≡ w.bodies old.journal ++ (done_bodies (unsettled w old) ++ text_of (happened e) ∷ [])
    pub unsaid : new.is_settled ≡ false

  -- the office stands as it did before, of each history that it was of
  abbrev pub StandsStill : (old new : Journaled O J) → Type 0
  StandsStill old new =
      (h : History) → m.is_of h old.office → m.is_clean new.office → Stands m h new.office

  -- the event of the last line was struck out
  pub record IsStruck (old new : Journaled O J) : Type 0 where
    pub stands : StandsStill old new
    pub no_stray : new.has_stray ≡ false
    pub settled : new.is_settled ≡ true
    pub is_open : IsTrue (w.is_open new.journal)
    pub bodies : w.is_clean new.journal
        → w.bodies new.journal ≡ w.bodies old.journal ++ text_of strike ∷ []

  -- the event of the last line couldn't be struck out: the line of its strike met this fault
  pub record IsHalfStruck (old new : Journaled O J) (fault : Fault) : Type 0 where
    pub stands : StandsStill old new
    pub stray : new.has_stray ≡ true
    pub append : IsAppended w old.journal new.journal [] (text_of strike) (Err fault)

  -- the event of the last line wasn't struck out: its request wasn't allowed again, but answered so, and
  -- the office may not stand as it did
  pub record IsStray (r : Request) (old new : Journaled O J) (told : Answer) : Type 0 where
    pub stray : new.has_stray ≡ true
    pub journal : new.journal ≡ old.journal
    pub again : IsAnswered m old.office new.office r told

  -- where nothing is told, the event of the last line was struck out; else it wasn't, since its request
  -- was answered so, or its strike met this fault
  abbrev pub IsStruckOr : Request → (old new : Journaled O J) → Option Answer → Type 0
  IsStruckOr r old new None = IsStruck old new
  IsStruckOr r old new (Some told) = IsStray r old new told
      ⊎ ((fault : Fault) × (told ≡ answers.Fault fault) × IsHalfStruck old new fault)

  -- the event of the last line, which this request asked for, was taken back as far as that could be;
  -- where it still stands, this is told
  pub record IsTakenBack (r : Request) (old new : Journaled O J) (told : Option Answer)
      : Type 0 where
    pub leaves : LeavesAll m old.office new.office
    pub clean : w.is_clean new.journal → w.is_clean old.journal
    pub counts : w.faults old.journal ≤ w.faults new.journal
    pub journal : IsStruckOr r old new told

  -- the line of this event was not written: the journal met this fault, or the event is too long for it
  pub record IsUnwritten (old new : Journaled O J) (e : Event) (fault : Fault) : Type 0 where
    pub stray : new.has_stray ≡ old.has_stray
    pub office : new.office ≡ old.office
    pub append : IsBody (text_of (happened e)) → IsAppended w old.journal new.journal
        (done_bodies (unsettled w old)) (text_of (happened e)) (Err fault)

  -- after this fault the line of this event wasn't written; or it was, and then taken back so
  abbrev pub IsUndone : Request → (old new : Journaled O J) → Event → Fault → Option Answer → Type 0
  IsUndone r old new e fault told = (IsUnwritten old new e fault × (told ≡ None))
      ⊎ ((mid : Journaled O J) × HasWritten old mid e × IsTakenBack r mid new told)

  -- the last event is settled, where it wasn't and the journal goes on
  pub record IsSettled (old new : Journaled O J) (result : Result ⊤ Fault) : Type 0 where
    -- the office is as it was, and nothing of it was asked
    pub office : new.office ≡ old.office
    pub survives : Survives journaled old new
    -- of each history that it was of it is still
    pub of : (h : History) → IsOf h old → IsOf h new
    -- a journal that goes on still does, and its last event is settled, unless its lines are more than
    -- can be counted
    pub settled : OnOk result (IsTrue (goes_on old) → IsTrue (goes_on new)
        × ((new.is_settled ≡ true) ⊎ (2 ^ 64 - 1 ≤ w.lines old.journal)))
    -- a fault is told only where the journal goes on and no line says what became of its last event
    pub asked : OnErr result (IsTrue (goes_on old) × (old.is_settled ≡ false))
    -- the journal has what it had, or one line more; after a fault one that goes on has what it had
    pub bodies : w.is_clean new.journal → IsTrue (goes_on new)
        → HasSettled (w.bodies old.journal) (w.bodies new.journal)
    pub failed : IfErr result (λ fault. w.is_clean new.journal → IsTrue (goes_on new)
        → w.bodies new.journal ≡ w.bodies old.journal)
    -- the fault is that of the call that failed, or `memory`
    pub cause : IfErr result (λ fault. w.is_clean new.journal
        → IsMet w old.journal new.journal fault)
    -- a crash leaves what it could leave before, or the journal with that line or a part of it
    pub crash : is_clean new → (left : m.Left × List ℕ) → journaled.may_leave new left
        → journaled.may_leave old left
        ⊎ (m.may_leave old.office left.0 × ((h : History) → IsOf h old → IsEnding h left.1))

-- What is told from one place of a journal on, and what from the next.
use Rattle.std.proofs.Common.{inl, inr, ◌≡◌, ◌∙◌, ℕ, ◌+◌, List, [], ◌∷◌, ◌++◌, length, Option, Some, None, IfSome, Result, Ok, Err, refl, sym, ap, subst, arith, append_assoc, append-nil, length-append, All}
use Rattle.std.specs.Prelude.{IfErr, IsErrAnd}
use Rattle.std.proofs.lemmas.List.Elements.{All-nil, All-cons, All-head, All-tail}
use Rattle.sealed_log.specs.Input.{IsBodyOf, IsTooLong, IsUnsealed}
use Rattle.sealed_log.specs.Sealed.{IsBody, seal_on, sealed_line}
use Rattle.sealed_log.specs.declared.unreadable.Unreadable.{Unreadable}
use Rattle.sealed_log.specs.declared.unreadable.Unreadable.TheVariants.{NotALine, NoEventBefore, Unsealed, TornLine, Read, NoMemory}
use Rattle.office_policy.specs.History.{Event}
use Rattle.journal.specs.Journal.{IsEntry, taken}
use Rattle.journal.specs.Lines.{Line, text_of}
use Rattle.journal.specs.Reading.{IsTaken}
use Rattle.journal.specs.Told.{Begins, CannotTake, Ends, GoesOn, IsBegun, IsStopped, IsThen, IsTold, Leaves, Place, Stops, seal_behind, standing, text_behind, told}
use Rattle.journal.proofs.FirstFacts.{first_told}
use Rattle.journal.proofs.JournalFacts.{no_line, same_sealed}
use Rattle.journal.proofs.LineFacts.{same_line}

-- from itself on a place tells all
stays_only : (p : Place) (bytes : List ℕ) (all : List (ℕ × Event)) → p.left ≡ Some bytes → IsTold p.taken p.held p.seal bytes all → IsThen p [] all
stays_only p bytes all is t = record { bytes = bytes; left = is; rest = all; tells = t; parts = refl }

pub stays : (p : Place) → GoesOn p p []
stays p = record { tells = λ es t. t; begins = λ later es b. b; stops = λ after fault s. s; only = stays_only p }

pub goes_further : (a b c : Place) (first : List (ℕ × Event)) → GoesOn a b [] → GoesOn b c first → GoesOn a c first
goes_further a b c first ab bc = record {
  tells = λ es t. ab.tells (first ++ es) (bc.tells es t);
  begins = λ later es b. ab.begins later (first ++ es) (bc.begins later es b);
  stops = λ after fault s. ab.stops after fault (bc.stops after fault s);
  only = λ bytes all is t.
      let x = ab.only bytes all is t in
      let y = bc.only x.bytes x.rest x.left x.tells in
      record { bytes = y.bytes; left = y.left; rest = y.rest; tells = y.tells; parts = x.parts ∙ y.parts };
}

-- up to itself a place tells nothing
pub begins_here : (p : Place) → Begins p p []
begins_here p = at p.left refl
  where
    at : (left : Option (List ℕ)) → p.left ≡ left → IfSome left (λ bytes. IsBegun p.taken p.held p.seal bytes p [])
    at None is = tt
    at (Some bytes) is =
        record { lines = []; entries = All-nil IsEntry; rest = bytes; says = refl; left = is; sealed = refl; counted = omega arith; tells = refl }

-- so what comes first is told up to the new place
pub begins_first : (old new : Place) (first : List (ℕ × Event)) → GoesOn old new first → Begins old new first
begins_first old new first on = subst (Begins old new) (append-nil first) (on.begins new [] (begins_here new))

-- ---- a line more

module _ (before : ℕ) (held kept stands : Option Event) (prior bytes rest : List ℕ) (line : Line) (entry : IsEntry line)
    (front : bytes ≡ sealed_line prior (text_of line) ++ rest) (is : taken before held line ≡ Some (stands, kept)) where
  abbrev next : List ℕ
  next = seal_on prior (text_of line)

  more_told : (es : List (ℕ × Event)) → IsTold (before + 1) kept next rest es → IsTold before held prior bytes (standing before stands ++ es)
  more_told es t = record {
    lines = line ∷ t.lines;
    entries = All-cons IsEntry line t.lines entry t.entries;
    says = front ∙ ap (λ l. sealed_line prior (text_of line) ++ l) t.says;
    tells = rw (is, t.tells) refl;
  }

  more_begun : (later : Place) (es : List (ℕ × Event)) → IsBegun (before + 1) kept next rest later es → IsBegun before held prior bytes later (standing before stands ++ es)
  more_begun later es b = record {
    lines = line ∷ b.lines;
    entries = All-cons IsEntry line b.lines entry b.entries;
    rest = b.rest;
    says = front ∙ ap (λ l. sealed_line prior (text_of line) ++ l) b.says ∙ sym (append_assoc (sealed_line prior (text_of line)) (text_behind next b.lines) b.rest);
    left = b.left;
    sealed = b.sealed;
    counted = let counted = b.counted in omega arith;
    tells = rw (is, b.tells) (ap (λ l. Some l) (sym (append_assoc (standing before stands) es (standing later.taken later.held))));
  }

  more_stopped : (after : ℕ) (fault : Unreadable) → IsStopped (before + 1) kept next rest after fault → IsStopped before held prior bytes after fault
  more_stopped after fault s = record {
    lines = line ∷ s.lines;
    entries = All-cons IsEntry line s.lines entry s.entries;
    rest = s.rest;
    says = front ∙ ap (λ l. sealed_line prior (text_of line) ++ l) s.says ∙ sym (append_assoc (sealed_line prior (text_of line)) (text_behind next s.lines) s.rest);
    counted = let counted = s.counted in omega arith;
    last = s.last;
    holds = rw (is, s.holds) refl;
    cannot = s.cannot;
  }

  -- and nothing else is told
  more_only : (new : Option (List ℕ)) (all : List (ℕ × Event)) → new ≡ Some rest → IsTold before held prior bytes all
      → IsThen (record { taken = before + 1; held = kept; seal = next; left = new }) (standing before stands) all
  more_only new all left t = from t.lines t.entries t.says t.tells
    where
      from : (lines : List Line) → All IsEntry lines → bytes ≡ text_behind prior lines → told before held lines ≡ Some all
          → IsThen (record { taken = before + 1; held = kept; seal = next; left = new }) (standing before stands) all
      from [] is_m says tells = absurd (no_line prior (text_of line) rest (sym says ∙ front))
      from (m ∷ ms) is_m says tells =
          let m_is = All-head IsEntry m ms is_m in
          let both : sealed_line prior (text_of line) ++ rest ≡ sealed_line prior (text_of m) ++ text_behind (seal_on prior (text_of m)) ms = sym front ∙ says in
          let same = same_sealed prior (text_of line) (text_of m) rest (text_behind (seal_on prior (text_of m)) ms) entry.body m_is.body both in
          let one : line ≡ m = same_line line m entry.formed m_is.formed same.bodies in
          let first = first_told before held m ms all tells in
          let taken_is : Some first.by ≡ Some (stands, kept) = sym first.taken ∙ ap (taken before held) (sym one) ∙ is in
          let by : first.by ≡ (stands, kept) = cc in
          record {
            bytes = rest;
            left = left;
            rest = first.rest;
            tells = record {
              lines = ms;
              entries = All-tail IsEntry m ms is_m;
              says = same.rests ∙ ap (λ (b : List ℕ). text_behind (seal_on prior b) ms) (sym same.bodies);
              tells = subst (λ (t : Option Event × Option Event). told (before + 1) t.1 ms ≡ Some first.rest) by first.tells;
            };
            parts = first.parts ∙ ap (λ (t : Option Event × Option Event). standing before t.0 ++ first.rest) by;
          }

-- what is read of known bytes: a body, and its seal
abbrev pub IsTextOf : (old new : Option (List ℕ)) → (prior seal text : List ℕ) → Type 0
IsTextOf old new prior seal text = IfSome old (λ bytes. IsBodyOf prior seal text bytes new)

pub line_taken : (before : ℕ) (held kept stands : Option Event) (old new : Option (List ℕ)) (prior seal text : List ℕ) → IsTextOf old new prior seal text
    → IsTaken before held kept text stands
    → GoesOn (record { taken = before; held = held; seal = prior; left = old }) (record { taken = before + 1; held = kept; seal = seal; left = new }) (standing before stands)
line_taken before held kept stands None new prior seal text read is = record { tells = λ es t. tt; begins = λ later es b. tt; stops = λ after fault s. tt; only = λ xs all known t. cc }
line_taken before held kept stands (Some bytes) new prior seal text read is =
    let rest : List ℕ = read.rest in
    let text_is : text ≡ text_of is.line = is.says in
    let entry : IsEntry is.line = record { formed = is.formed; body = subst IsBody text_is read.is_body } in
    let front : bytes ≡ sealed_line prior (text_of is.line) ++ rest = read.is ∙ ap (λ (b : List ℕ). sealed_line prior b ++ rest) text_is in
    let sealed : seal ≡ seal_on prior (text_of is.line) = read.sealed ∙ ap (seal_on prior) text_is in
    subst (λ (s : List ℕ). GoesOn (record { taken = before; held = held; seal = prior; left = Some bytes }) (record { taken = before + 1; held = kept; seal = s; left = new }) (standing before stands))
    (sym sealed) (record {
      tells = λ es t. more_told before held kept stands prior bytes rest is.line entry front is.taken es
          (subst (λ (l : Option (List ℕ)). IfSome l (λ xs. IsTold (before + 1) kept (seal_on prior (text_of is.line)) xs es)) read.left t);
      begins = λ later es b. more_begun before held kept stands prior bytes rest is.line entry front is.taken later es
          (subst (λ (l : Option (List ℕ)). IfSome l (λ xs. IsBegun (before + 1) kept (seal_on prior (text_of is.line)) xs later es)) read.left b);
      stops = λ after fault s. more_stopped before held kept stands prior bytes rest is.line entry front is.taken after fault
          (subst (λ (l : Option (List ℕ)). IfSome l (λ xs. IsStopped (before + 1) kept (seal_on prior (text_of is.line)) xs after fault)) read.left s);
      only = λ xs all known t.
          let same : xs ≡ bytes = cc in
          more_only before held kept stands prior bytes rest is.line entry front is.taken new all read.left (subst (λ (l : List ℕ). IsTold before held prior l all) same t);
    })

-- ---- the end

none_left : (prior : List ℕ) (lines : List Line) (rest : List ℕ) → [] ≡ text_behind prior lines ++ rest → (lines ≡ []) × (rest ≡ [])
none_left prior [] rest same = (refl, sym same)
none_left prior (line ∷ lines) rest same =
    absurd (no_line prior (text_of line) (text_behind (seal_on prior (text_of line)) lines ++ rest)
    (same ∙ append_assoc (sealed_line prior (text_of line)) (text_behind (seal_on prior (text_of line)) lines) rest))

told_at_end : (before : ℕ) (held : Option Event) (prior bytes : List ℕ) → bytes ≡ [] → IsTold before held prior bytes (standing before held)
told_at_end before held prior bytes none = record { lines = []; entries = All-nil IsEntry; says = none; tells = refl }

abbrev pub IsEnd : (old new : Option (List ℕ)) → Type 0
IsEnd old new = IfSome old (λ bytes. (bytes ≡ []) × (new ≡ Some []))

-- no event is held back there
pub ends : (before : ℕ) (prior : List ℕ) (old new : Option (List ℕ)) → IsEnd old new
    → Ends (record { taken = before; held = None; seal = prior; left = old }) (record { taken = before; held = None; seal = prior; left = new })
ends before prior None new end = record { tells = tt; begins = tt; left = tt; held = refl }
ends before prior (Some bytes) new end = record {
  tells = told_at_end before None prior bytes end.0;
  begins = record { lines = []; entries = All-nil IsEntry; rest = []; says = end.0; left = end.1; sealed = refl; counted = omega arith; tells = refl };
  left = end.1;
  held = refl;
}

-- what is left at a place is known where it was known before
pub still_known : (old here : Place) (es : List (ℕ × Event)) (P : Type 0) → GoesOn old here es → IfSome here.left (λ _. P) → IfSome old.left (λ _. P)
still_known old here es P on known = at old.left refl (begins_first old here es on)
  where
    at : (left : Option (List ℕ)) → old.left ≡ left → IfSome left (λ bytes. IsBegun old.taken old.held old.seal bytes here es) → IfSome left (λ _. P)
    at None is begun = tt
    at (Some bytes) is begun = subst (λ (l : Option (List ℕ)). IfSome l (λ _. P)) begun.left known

-- no line tells nothing but the event that is held back
told_none : (before : ℕ) (held : Option Event) (prior : List ℕ) (es : List (ℕ × Event)) → IsTold before held prior [] es → es ≡ standing before held
told_none before held prior es t = from t.lines t.says t.tells
  where
    from : (lines : List Line) → [] ≡ text_behind prior lines → told before held lines ≡ Some es → es ≡ standing before held
    from [] says tells = cc
    from (line ∷ lines) says tells = absurd (no_line prior (text_of line) (text_behind (seal_on prior (text_of line)) lines) says)

-- nor up to a place
begun_none : (before : ℕ) (prior bytes : List ℕ) (e : Event) (later : Place) (es : List (ℕ × Event)) → bytes ≡ [] → IsBegun before None prior [] later es
    → IsBegun before (Some e) prior bytes later ((before, e) ∷ es)
begun_none before prior bytes e later es none b =
    let left = none_left prior b.lines b.rest b.says in
    let tells : told before None [] ≡ Some (es ++ standing later.taken later.held) =
    subst (λ (lines : List Line). told before None lines ≡ Some (es ++ standing later.taken later.held)) left.0 b.tells in
    let nothing : [] ≡ es ++ standing later.taken later.held = cc in
    record {
      lines = [];
      entries = All-nil IsEntry;
      rest = [];
      says = none;
      left = b.left ∙ ap (λ l. Some l) left.1;
      sealed = b.sealed ∙ ap (seal_behind prior) left.0;
      counted = b.counted ∙ ap (λ (lines : List Line). before + length lines) left.0;
      tells = ap (λ l. Some ((before, e) ∷ l)) nothing;
    }

pub too_short : IsTooLong [] → ⊥
too_short h = let size = ap length h.is in let long = h.long in omega (arith, size, long, length-append h.front h.rest)

pub unsealed_none : (prior : List ℕ) → IsUnsealed prior [] → ⊥
unsealed_none prior h = omega (arith, ap length h.is, length-append h.line (10 ∷ h.rest))

-- nothing is wrong with no bytes
no_line_there : (fault : Unreadable) (n k : ℕ) (held kept : Option Event) (prior : List ℕ) → CannotTake fault n held prior [] → CannotTake fault k kept prior []
no_line_there NotALine n k held kept prior (inl h) = absurd (no_line prior h.body h.rest h.is)
no_line_there NotALine n k held kept prior (inr (inl h)) = absurd (too_short h)
no_line_there NotALine n k held kept prior (inr (inr h)) = absurd (no_line prior h.body h.rest h.is)
no_line_there NoEventBefore n k held kept prior h = absurd (no_line prior h.0.body h.0.rest h.0.is)
no_line_there Unsealed n k held kept prior h = absurd (unsealed_none prior h)
no_line_there TornLine n k held kept prior h = absurd (h.1 refl)
no_line_there Read n k held kept prior h = tt
no_line_there (NoMemory _) n k held kept prior h = tt

-- and only a failing input or memory keeps from it
stopped_none : (before : ℕ) (prior bytes : List ℕ) (e : Event) (after : ℕ) (fault : Unreadable) → bytes ≡ [] → IsStopped before None prior [] after fault
    → IsStopped before (Some e) prior bytes after fault
stopped_none before prior bytes e after fault none s =
    let left = none_left prior s.lines s.rest s.says in
    record {
      lines = [];
      entries = All-nil IsEntry;
      rest = [];
      says = none;
      counted = s.counted ∙ ap (λ (lines : List Line). before + length lines) left.0;
      last = Some e;
      holds = refl;
      cannot = no_line_there fault after after s.last (Some e) prior
          (subst (λ (p : List ℕ). CannotTake fault after s.last p []) (ap (seal_behind prior) left.0)
          (subst (CannotTake fault after s.last (seal_behind prior s.lines)) left.1 s.cannot));
    }

pub ends_told : (before : ℕ) (e : Event) (prior : List ℕ) (old new : Option (List ℕ)) → IsEnd old new
    → GoesOn (record { taken = before; held = Some e; seal = prior; left = old }) (record { taken = before; held = None; seal = prior; left = new }) ((before, e) ∷ [])
ends_told before e prior None new end = record { tells = λ es t. tt; begins = λ later es b. tt; stops = λ after fault s. tt; only = λ xs all known t. cc }
ends_told before e prior (Some bytes) new end =
    record {
      tells = λ es t.
          let none = told_none before None prior es (subst (λ (l : Option (List ℕ)). IfSome l (λ xs. IsTold before None prior xs es)) end.1 t) in
          subst (λ (xs : List (ℕ × Event)). IsTold before (Some e) prior bytes ((before, e) ∷ xs)) (sym none) (told_at_end before (Some e) prior bytes end.0);
      begins = λ later es b.
          begun_none before prior bytes e later es end.0 (subst (λ (l : Option (List ℕ)). IfSome l (λ xs. IsBegun before None prior xs later es)) end.1 b);
      stops = λ after fault s.
          stopped_none before prior bytes e after fault end.0 (subst (λ (l : Option (List ℕ)). IfSome l (λ xs. IsStopped before None prior xs after fault)) end.1 s);
      only = λ xs all known t.
          let none : xs ≡ [] = cc in
          record {
            bytes = [];
            left = end.1;
            rest = [];
            tells = told_at_end before None prior [] refl;
            parts = told_none before (Some e) prior all (subst (λ (l : List ℕ). IsTold before (Some e) prior l all) none t);
          };
    }

-- ---- where no line is taken

pub stops_here : (before : ℕ) (held : Option Event) (prior : List ℕ) (old : Option (List ℕ)) (fault : Unreadable) → IfSome old (λ bytes. CannotTake fault before held prior bytes)
    → Stops (record { taken = before; held = held; seal = prior; left = old }) before fault
stops_here before held prior None fault h = tt
stops_here before held prior (Some bytes) fault h = record {
  lines = [];
  entries = All-nil IsEntry;
  rest = bytes;
  says = refl;
  counted = omega arith;
  last = held;
  holds = refl;
  cannot = h;
}

pub input_stops : (before : ℕ) (held : Option Event) (prior : List ℕ) (old : Option (List ℕ)) → Stops (record { taken = before; held = held; seal = prior; left = old }) before Read
input_stops before held prior None = tt
input_stops before held prior (Some bytes) = stops_here before held prior (Some bytes) Read tt

-- ---- where it is left

pub leaves_stops : (old new : Place) (fault : Unreadable) → Leaves old new fault → Stops old new.taken fault
leaves_stops old new fault l =
    subst (λ (n : ℕ). Stops old n fault) (sym l.taken) (l.on.stops l.last.taken fault (stops_here l.last.taken l.last.held l.last.seal l.last.left fault l.cannot))

pub leaves_further : (a b c : Place) (fault : Unreadable) → GoesOn a b [] → Leaves b c fault → Leaves a c fault
leaves_further a b c fault on l = record { last = l.last; on = goes_further a b l.last [] on l.on; cannot = l.cannot; taken = l.taken; held = l.held }

-- the input fails
pub input_leaves : (p : Place) → Leaves p p Read
input_leaves p = record { last = p; on = stays p; cannot = at p.left; taken = refl; held = refl }
  where
    at : (left : Option (List ℕ)) → IfSome left (λ bytes. CannotTake Read p.taken p.held p.seal bytes)
    at None = tt
    at (Some bytes) = tt

pub left_further : (a b c : Place) {A : Type 0} (result : Result A Unreadable) (fault : Unreadable) → IsErrAnd result (λ e. e ≡ fault) → GoesOn a b [] → Leaves b c fault → IfErr result (Leaves a c)
left_further a b c (Ok found) fault is on l = absurd is
left_further a b c (Err e) fault is on l = subst (Leaves a c) (sym is) (leaves_further a b c fault on l)

-- What comes of a line of a journal that is read as a stream.
use Rattle.std.proofs.Common.{inl, inr, refl, ◌≡◌, ◌∙◌, ℕ, ◌+◌, List, Bool, true, false, Option, Some, None, IfSome, Result, Ok, Err, sym, subst}
use Rattle.std.specs.Prelude.{IfErr, IsErrAnd}
use Rattle.sealed_log.specs.Input.{HasNoBody, ReadsBody}
use Rattle.sealed_log.specs.declared.unreadable.Unreadable.{Unreadable}
use Rattle.sealed_log.specs.declared.unreadable.Unreadable.TheVariants.{NotALine, NoEventBefore, Unsealed, TornLine, Read, NoMemory}
use Rattle.office_policy.specs.History.{Event}
use Rattle.journal.specs.declared.events.Step.{Step}
use Rattle.journal.specs.declared.events.Step.TheVariants.{Stands, Passed, Ended}
use Rattle.journal.specs.declared.reader.Reader.{Reader}
use Rattle.journal.specs.Reading.{IsTaken, Takes, held}
use Rattle.journal.specs.Steps.{IsLast, Steps}
use Rattle.journal.specs.Told.{CannotGoOn, CannotTake, GoesOn, Leaves, Place, Stops, standing}
use Rattle.journal.proofs.ToldFacts.{IsEnd, IsTextOf, ends, ends_told, line_taken, stays, stops_here}

-- a `?` that leaves with this fault
pub step_left : (old new : Place) (result : Result Step Unreadable) (fault : Unreadable) → IsErrAnd result (λ e. e ≡ fault) → Stops old new.taken fault → Steps old new result
step_left old new (Ok step) fault is stops = absurd is
step_left old new (Err e) fault is stops = subst (λ (f : Unreadable). Stops old new.taken f) (sym is) stops

-- no body is read
cannot_read : (before : ℕ) (held : Option Event) (prior : List ℕ) (old : Option (List ℕ)) (fault : Unreadable) → IfSome old (λ bytes. HasNoBody fault prior bytes)
    → IfSome old (λ bytes. CannotTake fault before held prior bytes)
cannot_read before held prior None fault h = tt
cannot_read before held prior (Some bytes) NotALine h = inr (inl h)
cannot_read before held prior (Some bytes) NoEventBefore h = absurd h
cannot_read before held prior (Some bytes) Unsealed h = h
cannot_read before held prior (Some bytes) TornLine h = h
cannot_read before held prior (Some bytes) Read h = tt
cannot_read before held prior (Some bytes) (NoMemory _) h = tt

pub no_body : (before : ℕ) (held : Option Event) (prior : List ℕ) (old : Option (List ℕ)) (fault : Unreadable) → IfSome old (λ bytes. HasNoBody fault prior bytes)
    → Stops (record { taken = before; held = held; seal = prior; left = old }) before fault
no_body before held prior old fault none = stops_here before held prior old fault (cannot_read before held prior old fault none)

-- so it is left there
leaves_at : (old new : Place) (result : Result Step Unreadable) (fault : Unreadable) → IsErrAnd result (λ e. e ≡ fault) → CannotGoOn fault old → new.taken ≡ old.taken → new.held ≡ old.held
    → IfErr result (Leaves old new)
leaves_at old new (Ok step) fault is cannot taken held = absurd is
leaves_at old new (Err e) fault is cannot taken held =
    record { last = old; on = stays old; cannot = subst (λ (f : Unreadable). CannotGoOn f old) (sym is) cannot; taken = taken; held = held }

pub no_body_left : (before : ℕ) (held : Option Event) (prior seal : List ℕ) (old new : Option (List ℕ)) (result : Result Step Unreadable) (fault : Unreadable)
    → IsErrAnd result (λ e. e ≡ fault) → IfSome old (λ bytes. HasNoBody fault prior bytes)
    → IfErr result (Leaves (record { taken = before; held = held; seal = prior; left = old }) (record { taken = before; held = held; seal = seal; left = new }))
no_body_left before held prior seal old new result fault is none =
    leaves_at (record { taken = before; held = held; seal = prior; left = old }) (record { taken = before; held = held; seal = seal; left = new }) result fault is
    (cannot_read before held prior old fault none) refl refl

text_there : (old new : Option (List ℕ)) (prior seal text given : List ℕ) (more : Bool) → ReadsBody old new prior seal text (Ok more) → more ≡ true → given ≡ text
    → IsTextOf old new prior seal given
text_there old new prior seal text given more read there same =
    subst (λ (t : List ℕ). IsTextOf old new prior seal t) (sym same) (subst (λ (b : Bool). ReadsBody old new prior seal text (Ok b)) there read)

pub step_taken : (before : ℕ) (held kept stands : Option Event) (old new : Option (List ℕ)) (prior seal text given : List ℕ) (more : Bool) → ReadsBody old new prior seal text (Ok more)
    → more ≡ true → given ≡ text → IsTaken before held kept given stands
    → GoesOn (record { taken = before; held = held; seal = prior; left = old }) (record { taken = before + 1; held = kept; seal = seal; left = new }) (standing before stands)
step_taken before held kept stands old new prior seal text given more read there same is =
    line_taken before held kept stands old new prior seal given (text_there old new prior seal text given more read there same) is

-- no line is taken
cannot_take : (before : ℕ) (was kept : Reader) (old new : Option (List ℕ)) (prior seal given : List ℕ) → IsTextOf old new prior seal given → (fault : Unreadable) → Takes before was kept given (Err fault)
    → IfSome old (λ bytes. CannotTake fault before (held was) prior bytes)
cannot_take before was kept None new prior seal given text_is fault h = tt
cannot_take before was kept (Some bytes) new prior seal given text_is NotALine h = elim h.0 [
  | inl other ↦ inl (record { body = given; rest = text_is.rest; is = text_is.is; is_body = text_is.is_body; other = other })
  | inr of ↦ inr (inr (record { body = given; rest = text_is.rest; is = text_is.is; is_body = text_is.is_body; of = of }))
]
cannot_take before was kept (Some bytes) new prior seal given text_is NoEventBefore h =
    (record { body = given; rest = text_is.rest; is = text_is.is; is_body = text_is.is_body; on = h.0 }, h.1)
cannot_take before was kept (Some bytes) new prior seal given text_is (NoMemory _) h = tt
cannot_take before was kept (Some bytes) new prior seal given text_is Unsealed h = absurd h
cannot_take before was kept (Some bytes) new prior seal given text_is TornLine h = absurd h
cannot_take before was kept (Some bytes) new prior seal given text_is Read h = absurd h

pub step_refused : (before : ℕ) (was kept : Reader) (old new : Option (List ℕ)) (prior seal text given : List ℕ) (more : Bool) (fault : Unreadable)
    → ReadsBody old new prior seal text (Ok more) → more ≡ true → given ≡ text → Takes before was kept given (Err fault)
    → Stops (record { taken = before; held = held was; seal = prior; left = old }) before fault
step_refused before was kept old new prior seal text given more fault read there same refused =
    stops_here before (held was) prior old fault (cannot_take before was kept old new prior seal given (text_there old new prior seal text given more read there same) fault refused)

-- the event that was held back still is
held_still : (before : ℕ) (was kept : Reader) (given : List ℕ) (fault : Unreadable) → Takes before was kept given (Err fault) → held kept ≡ held was
held_still before was kept given NotALine h = h.1
held_still before was kept given NoEventBefore h = h.2 ∙ sym h.1
held_still before was kept given (NoMemory _) h = h
held_still before was kept given Unsealed h = absurd h
held_still before was kept given TornLine h = absurd h
held_still before was kept given Read h = absurd h

pub refused_left : (before : ℕ) (was kept : Reader) (old new : Option (List ℕ)) (prior seal text given : List ℕ) (more : Bool) (result : Result Step Unreadable) (fault : Unreadable)
    → IsErrAnd result (λ e. e ≡ fault) → ReadsBody old new prior seal text (Ok more) → more ≡ true → given ≡ text → Takes before was kept given (Err fault)
    → IfErr result (Leaves (record { taken = before; held = held was; seal = prior; left = old }) (record { taken = before; held = held kept; seal = seal; left = new }))
refused_left before was kept old new prior seal text given more result fault is read there same refused =
    leaves_at (record { taken = before; held = held was; seal = prior; left = old }) (record { taken = before; held = held kept; seal = seal; left = new }) result fault is
    (cannot_take before was kept old new prior seal given (text_there old new prior seal text given more read there same) fault refused) refl (held_still before was kept given fault refused)

pub step_last : (before : ℕ) (held kept : Option Event) (old new : Option (List ℕ)) (prior seal text : List ℕ) (more : Bool) (step : Step) → ReadsBody old new prior seal text (Ok more)
    → more ≡ false → kept ≡ None → IsLast before held step
    → Steps (record { taken = before; held = held; seal = prior; left = old }) (record { taken = before; held = kept; seal = seal; left = new }) (Ok step)
step_last before held kept old new prior seal text more step read ended none is =
    let there = subst (λ (b : Bool). ReadsBody old new prior seal text (Ok b)) ended read in
    subst (λ (s : List ℕ). Steps (record { taken = before; held = held; seal = prior; left = old }) (record { taken = before; held = kept; seal = s; left = new }) (Ok step)) (sym there.1)
    (subst (λ (k : Option Event). Steps (record { taken = before; held = held; seal = prior; left = old }) (record { taken = before; held = k; seal = prior; left = new }) (Ok step)) (sym none)
    (at held step there.0 is))
  where
    at : (held : Option Event) (step : Step) → IsEnd old new → IsLast before held step
        → Steps (record { taken = before; held = held; seal = prior; left = old }) (record { taken = before; held = None; seal = prior; left = new }) (Ok step)
    at None (Stands placed) end same = cc
    at (Some e) (Stands placed) end same =
        subst (λ (es : List (ℕ × Event)). GoesOn (record { taken = before; held = Some e; seal = prior; left = old }) (record { taken = before; held = None; seal = prior; left = new }) es) same
        (ends_told before e prior old new end)
    at held Passed end is = absurd is
    at None Ended end is = ends before prior old new end
    at (Some e) Ended end is = cc

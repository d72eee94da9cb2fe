-- The event that comes next behind a place, where it stands or is held back.
use Rattle.std.proofs.Common.{◌≡◌, ◌∙◌, inl, inr, ℕ, [], ◌∷◌, Option, Some, None, refl, sym, ap}
use Rattle.std.specs.Prelude.{option_map}
use Rattle.office_policy.specs.History.{Event}
use Rattle.journal.specs.Told.{Place, held_at, standing}
use Rattle.journal_faults.specs.declared.refused.Refused.{Refused}
use Rattle.journal_faults.specs.declared.refused.Why.{Why}
use Rattle.journal_faults.specs.declared.refused.Why.TheVariants as why
use Rattle.journal_office.specs.Steps.{ComesNext, IsFirstRead, IsLeft, IsLeftHeld}
use Rattle.journal_office.proofs.Refusals.{held_there}

abbrev pub numbered : ℕ → Event → ℕ × Event
numbered number e = (number, e)

-- the event that is held back at a place stands there
pub held_stands : (number : ℕ) (kept : Option Event) (placed : ℕ × Event) → Some placed ≡ option_map (numbered number) kept → standing number kept ≡ placed ∷ []
held_stands number None placed is = absurd cc
held_stands number (Some e) placed is =
    let same : placed ≡ (number, e) = cc in
    ap (λ (p : ℕ × Event). p ∷ []) (sym same)

pub held_number : (number : ℕ) (kept : Option Event) (placed : ℕ × Event) → Some placed ≡ option_map (numbered number) kept → placed.0 ≡ number
held_number number None placed is = absurd cc
held_number number (Some e) placed is =
    let same : placed ≡ (number, e) = cc in
    ap (λ (p : ℕ × Event). p.0) same

-- where none is held back, none does
pub none_stands : (number : ℕ) (kept : Option Event) → None ≡ option_map (numbered number) kept → standing number kept ≡ []
none_stands number None is = refl
none_stands number (Some e) is = absurd cc

-- where the journal can't be read on, it comes next
pub last_comes : (here after : Place) (line : ℕ) (w : Why) (placed : ℕ × Event) → IsLeft here after line w → Some placed ≡ held_at after → ComesNext here placed
last_comes here after line (why.Unread fault) placed at is =
    inr (record {
      fault = fault;
      last = at.leaves.last;
      on = at.leaves.on;
      cannot = at.leaves.cannot;
      held = sym (is ∙ held_there after at.leaves.last at.leaves.taken at.leaves.held);
    })
last_comes here after line why.NotFounded placed at is = absurd at
last_comes here after line (why.Unfounded fault) placed at is = absurd at
last_comes here after line (why.Unreplayed cause) placed at is = absurd at

-- what is read first comes first
held_comes : (from : Place) (placed : ℕ × Event) (line : ℕ) (w : Why) → IsLeftHeld from (Some placed) line w → ComesNext from placed
held_comes from placed line (why.Unread fault) at = inr (record { fault = fault; last = at.last; on = at.on; cannot = at.cannot; held = at.held })
held_comes from placed line why.NotFounded at = absurd at
held_comes from placed line (why.Unfounded fault) at = absurd at
held_comes from placed line (why.Unreplayed cause) at = absurd at

pub first_comes : (from here : Place) (placed : ℕ × Event) (halted : Option Refused) → IsFirstRead from here placed halted → ComesNext from placed
first_comes from here placed None first = inl (here, first)
first_comes from here placed (Some refused) first = held_comes from placed refused.line refused.why first.0

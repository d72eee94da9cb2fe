-- An office that is built anew, event by event.
use Rattle.std.proofs.Common.{◌≡◌, ◌∙◌, inl, inr, ℕ, List, [], ◌∷◌, ◌++◌, Option, Some, None, Bool, true, false, ◌<◌, length, refl, sym, ap, ap₂, subst, arith, append-nil}
use Rattle.office_policy.specs.History.{Event}
use Rattle.office_policy.specs.Handled.{Stands}
use Rattle.office_policy.specs.Lawful.{IsFounding, IsLawfulHistory}
use Rattle.office_policy.specs.Meaning.{Meaning}
use Rattle.review_office.specs.Replayed.{HasHappened}
use Rattle.sealed_log.specs.declared.unreadable.Unreadable.{Unreadable}
use Rattle.journal.specs.Told.{GoesOn, Place, held_at, history_told, standing, start}
use Rattle.journal_faults.specs.declared.refused.Refused.{Refused}
use Rattle.journal_faults.specs.declared.refused.Why.{Why}
use Rattle.journal_faults.specs.declared.refused.Why.TheVariants as halt
use Rattle.journal_office.specs.Rebuilt.{HasReplayed, line_behind}
use Rattle.journal_office.specs.Steps.{IsKeptOut as IsOut, IsLeft, IsLeftHeld, LeavesAt, Stops, StopsBehind}
use Rattle.journal_office.proofs.Comes.{held_stands, none_stands}
use Rattle.journal_office.proofs.Refusals.{held_there}
use Rattle.journal_office.proofs.Replays.{goes_then, more_lawful, more_stands}
use Rattle.journal_office.specs.Rebuilding.{ComesThere, IsBuiltTo, IsHalted, ends_at, ends_there, kept_at, kept_by}

abbrev no_event : List (ℕ × Event)
no_event = []

-- nothing is kept of none that is held back, nor of one behind others where the input failed
none_held : (ends : Bool) (before : List (ℕ × Event)) → no_event ≡ kept_by ends before []
none_held true before = refl
none_held false [] = refl
none_held false (e ∷ before) = refl

none_kept : (before held : List (ℕ × Event)) → 0 < length before → no_event ≡ kept_by false before held
none_kept [] held some = absurd (omega (arith, some))
none_kept (e ∷ before) held some = refl

-- the first one is kept
first_kept : (ends : Bool) (held : List (ℕ × Event)) → held ≡ kept_by ends [] held
first_kept true held = refl
first_kept false held = refl

-- and so is one where the journal ends
last_kept : (ends : Bool) (before held : List (ℕ × Event)) → ends ≡ true → held ≡ kept_by ends before held
last_kept true before held is = refl
last_kept false before held is = absurd cc

-- the event that is held back comes next, where the journal ends
comes_there : (here after : Place) (line : ℕ) (w : Why) (placed : ℕ × Event) → ends_there w ≡ true → IsLeft here after line w → Some placed ≡ held_at after → ComesThere here placed
comes_there here after line (halt.Unread fault) placed ends at is =
    inr (
      record { fault = fault; last = at.leaves.last; on = at.leaves.on; cannot = at.leaves.cannot; held = sym (is ∙ held_there after at.leaves.last at.leaves.taken at.leaves.held) },
      ends,
    )
comes_there here after line halt.NotFounded placed ends at is = absurd at
comes_there here after line (halt.Unfounded fault) placed ends at is = absurd at
comes_there here after line (halt.Unreplayed cause) placed ends at is = absurd at

module _ {X : Type 0} (m : Meaning X) (bytes : Option (List ℕ)) where
  -- the next event doesn't happen again
  kept_out : (here : Place) (es : List (ℕ × Event)) (office left : X) (placed : ℕ × Event) (line : ℕ) (w : Why) → HasReplayed bytes m here es office → ComesThere here placed
      → IsOut m office left placed line w → IsHalted bytes m left line w
  kept_out here es office left placed line (halt.Unread fault) before comes out = absurd out
  kept_out here es office left placed line halt.NotFounded before comes out = absurd out
  kept_out here es office left placed line (halt.Unfounded fault) before comes out = absurd out
  kept_out here es office left placed line (halt.Unreplayed cause) before comes out = record {
    here = here;
    before = es;
    office = office;
    replayed = before;
    event = placed.1;
    comes = subst (λ (n : ℕ). ComesThere here (n, placed.1)) (sym out.0) comes;
    refused = out.1;
  }

  -- the office stands of all before the line that can't be read
  built_at : (here after : Place) (es kept : List (ℕ × Event)) (left : X) (line : ℕ) (fault : Unreadable) → GoesOn (start bytes) here es → LeavesAt here after line fault
      → kept ≡ kept_at fault es after → (m.is_clean left → IsLawfulHistory (history_told (es ++ kept))) → (m.is_clean left → Stands m (history_told (es ++ kept)) left) → IsBuiltTo bytes m left line fault
  built_at here after es kept left line fault told at is lawful stands =
      let same : kept ≡ kept_at fault es at.leaves.last = is ∙ ap₂ (λ (n : ℕ) (h : Option Event). kept_by (ends_at fault) es (standing n h)) at.leaves.taken at.leaves.held in
      record {
        last = at.leaves.last;
        before = es;
        told = subst (λ (xs : List (ℕ × Event)). GoesOn (start bytes) at.leaves.last xs) (append-nil es) (goes_then (start bytes) here at.leaves.last es [] told at.leaves.on);
        cannot = at.leaves.cannot;
        counted = at.counted ∙ ap line_behind at.leaves.taken;
        lawful = subst (λ (xs : List (ℕ × Event)). m.is_clean left → IsLawfulHistory (history_told (es ++ xs))) same lawful;
        stands = subst (λ (xs : List (ℕ × Event)). m.is_clean left → Stands m (history_told (es ++ xs)) left) same stands;
      }

  -- with no event more
  built_alone : (here after : Place) (es : List (ℕ × Event)) (office : X) (line : ℕ) (fault : Unreadable) → HasReplayed bytes m here es office → LeavesAt here after line fault
      → no_event ≡ kept_at fault es after → IsBuiltTo bytes m office line fault
  built_alone here after es office line fault before at is =
      built_at here after es no_event office line fault before.told at is
      (subst (λ (xs : List (ℕ × Event)). m.is_clean office → IsLawfulHistory (history_told xs)) (sym (append-nil es)) before.lawful)
      (subst (λ (xs : List (ℕ × Event)). m.is_clean office → Stands m (history_told xs) office) (sym (append-nil es)) before.stands)

  -- the founding is held back
  founded_only : (here : Place) (first : ℕ × Event) (office : X) (line : ℕ) (w : Why) → IsLeftHeld (start bytes) (Some first) line w → IsFounding first.1
      → (m.is_clean office → Stands m (first.1 ∷ []) office) → IsHalted bytes m office line w
  founded_only here first office line (halt.Unread fault) at founding stands =
      let kept : first ∷ [] ≡ kept_at fault [] at.last =
      sym (held_stands at.last.taken at.last.held first (sym at.held)) ∙ first_kept (ends_at fault) (standing at.last.taken at.last.held) in
      record {
        last = at.last;
        before = [];
        told = at.on;
        cannot = at.cannot;
        counted = at.counted;
        lawful = subst (λ (xs : List (ℕ × Event)). m.is_clean office → IsLawfulHistory (history_told xs)) kept (λ clean. founding);
        stands = subst (λ (xs : List (ℕ × Event)). m.is_clean office → Stands m (history_told xs) office) kept stands;
      }
  founded_only here first office line halt.NotFounded at founding stands = absurd at
  founded_only here first office line (halt.Unfounded fault) at founding stands = absurd at
  founded_only here first office line (halt.Unreplayed cause) at founding stands = absurd at

  -- the input or memory failed, or an event behind the founding didn't happen again
  outside_behind : (here : Place) (office : X) (line : ℕ) (w : Why) → ends_there w ≡ false → StopsBehind m bytes office here line w → IsHalted bytes m office line w
  outside_behind here office line (halt.Unread fault) ends at =
      built_alone at.last here at.es office line fault at.replayed at.at (subst (λ (b : Bool). no_event ≡ kept_by b at.es (standing here.taken here.held)) (sym ends) (none_kept at.es (standing here.taken here.held) at.some))
  outside_behind here office line halt.NotFounded ends at = absurd at
  outside_behind here office line (halt.Unfounded fault) ends at = absurd at
  outside_behind here office line (halt.Unreplayed cause) ends at = record {
    here = at.here;
    before = at.before;
    office = at.old;
    replayed = at.replayed;
    event = at.event;
    comes = inl (at.after, at.told);
    refused = at.refused;
  }

  pub outside : (here : Place) (office : X) (refused : Refused) → ends_there refused.why ≡ false → Stops m bytes office here refused → IsHalted bytes m office refused.line refused.why
  outside here office refused ends (inl (first, begun)) = founded_only here first office refused.line refused.why begun.told.0 begun.founding begun.stands
  outside here office refused ends (inr at) = outside_behind here office refused.line refused.why ends at

  -- no event is held back
  off_behind : (here : Place) (office : X) (line : ℕ) (w : Why) → ends_there w ≡ true → StopsBehind m bytes office here line w → None ≡ held_at here → IsHalted bytes m office line w
  off_behind here office line (halt.Unread fault) ends at none =
      built_alone at.last here at.es office line fault at.replayed at.at
      (none_held (ends_at fault) at.es ∙ ap (kept_by (ends_at fault) at.es) (sym (none_stands here.taken here.held none)))
  off_behind here office line halt.NotFounded ends at none = absurd at
  off_behind here office line (halt.Unfounded fault) ends at none = absurd at
  off_behind here office line (halt.Unreplayed cause) ends at none = absurd cc

  pub built_off : (here : Place) (office : X) (refused : Refused) → ends_there refused.why ≡ true → Stops m bytes office here refused → None ≡ held_at here
      → IsHalted bytes m office refused.line refused.why
  built_off here office refused ends (inl (first, begun)) none = founded_only here first office refused.line refused.why begun.told.0 begun.founding begun.stands
  built_off here office refused ends (inr at) none = off_behind here office refused.line refused.why ends at none

  -- the one that is happens again
  one_behind : (here : Place) (placed : ℕ × Event) (office left : X) (line : ℕ) (w : Why) → ends_there w ≡ true → StopsBehind m bytes office here line w → Some placed ≡ held_at here
      → HasHappened m office left placed.1 → IsHalted bytes m left line w
  one_behind here placed office left line (halt.Unread fault) ends at is happened =
      built_at at.last here at.es (placed ∷ []) left line fault at.replayed.told at.at (sym (held_stands here.taken here.held placed is) ∙ last_kept (ends_at fault) at.es (standing here.taken here.held) ends)
      (more_lawful m bytes at.last at.es placed.0 placed.1 office left at.replayed happened) (more_stands m bytes at.last at.es placed.0 placed.1 office left at.replayed happened)
  one_behind here placed office left line halt.NotFounded ends at is happened = absurd at
  one_behind here placed office left line (halt.Unfounded fault) ends at is happened = absurd at
  one_behind here placed office left line (halt.Unreplayed cause) ends at is happened = absurd cc

  -- which isn't the founding
  none_spent : (placed : ℕ × Event) (kept : Option (ℕ × Event)) → Some placed ≡ kept → kept ≡ None → ⊥
  none_spent placed kept is none = cc

  pub built_behind : (here : Place) (placed : ℕ × Event) (office left : X) (refused : Refused) → ends_there refused.why ≡ true → Stops m bytes office here refused → Some placed ≡ held_at here
      → HasHappened m office left placed.1 → IsHalted bytes m left refused.line refused.why
  built_behind here placed office left refused ends (inl (first, begun)) is happened = absurd (none_spent placed (held_at here) is begun.told.1)
  built_behind here placed office left refused ends (inr at) is happened = one_behind here placed office left refused.line refused.why ends at is happened

  -- or it doesn't
  out_behind : (here : Place) (placed : ℕ × Event) (office left : X) (line : ℕ) (w : Why) (out : Refused) → ends_there w ≡ true → StopsBehind m bytes office here line w → Some placed ≡ held_at here
      → IsOut m office left placed out.line out.why → IsHalted bytes m left out.line out.why
  out_behind here placed office left line (halt.Unread fault) out ends at is kept =
      kept_out at.last at.es office left placed out.line out.why at.replayed (comes_there at.last here line (halt.Unread fault) placed ends at.at is) kept
  out_behind here placed office left line halt.NotFounded out ends at is kept = absurd at
  out_behind here placed office left line (halt.Unfounded fault) out ends at is kept = absurd at
  out_behind here placed office left line (halt.Unreplayed cause) out ends at is kept = absurd cc

  pub built_out : (here : Place) (placed : ℕ × Event) (office left : X) (refused out : Refused) → ends_there refused.why ≡ true → Stops m bytes office here refused → Some placed ≡ held_at here
      → IsOut m office left placed out.line out.why → IsHalted bytes m left out.line out.why
  built_out here placed office left refused out ends (inl (first, begun)) is kept = absurd (none_spent placed (held_at here) is begun.told.1)
  built_out here placed office left refused out ends (inr at) is kept = out_behind here placed office left refused.line refused.why out ends at is kept

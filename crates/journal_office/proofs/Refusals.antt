-- Where and why no office is built anew.
use Rattle.std.proofs.Common.{◌≡◌, ◌∙◌, ◌<◌, ℕ, List, [], ◌∷◌, length, Option, Some, None, inl, inr, sym, refl, ap, ap₂, subst, append-nil}
use Rattle.std.specs.Prelude.{option_map, unwrap_or}
use Rattle.sqlite.specs.Held.{Held}
use Rattle.sqlite.specs.Store.{Ghosts}
use Rattle.office_policy.specs.History.{Event}
use Rattle.office_policy.specs.Meaning.{Meaning}
use Rattle.review_office.specs.Meant.{meaning_over}
use Rattle.sealed_log.specs.declared.unreadable.Unreadable.{Unreadable}
use Rattle.journal.specs.Told.{GoesOn, Leaves, Place, held_at, start}
use Rattle.journal_faults.specs.declared.refused.Refused.{Refused}
use Rattle.journal_faults.specs.declared.refused.Why.{Why}
use Rattle.journal_faults.specs.declared.refused.Why.TheVariants as why
use Rattle.journal_office.specs.Rebuilt.{HasReplayed, IsRefused, line_behind}
use Rattle.journal_office.specs.Steps.{HasBegun, IsFirstRead, IsKeptOut, IsLeft, IsLeftBehind, IsLeftHeld, IsNoFounding, IsNoneRead, IsUnbegun, LeavesAt, LeavesHeld, Stops, StopsBehind}
use Rattle.journal_office.proofs.Replays.{goes_then}

-- a journal that is left at this place
pub left_here : (here after : Place) (fault : Unreadable) (refused : Refused) → refused ≡ record { line = line_behind after.taken; why = why.Unread fault } → Leaves here after fault
    → IsLeft here after refused.line refused.why
left_here here after fault refused is leaves =
    subst (λ (r : Refused). IsLeft here after r.line r.why) (sym is) (record { leaves = leaves; counted = refl })

-- the event that is held back at a place
pub held_there : (after last : Place) → after.taken ≡ last.taken → after.held ≡ last.held → held_at after ≡ held_at last
held_there after last taken kept = ap₂ (λ (n : ℕ) (h : Option Event). option_map (λ e. (n, e)) h) taken kept

-- is held back where the journal is left
left_held : (here after : Place) (line : ℕ) (fault : Unreadable) (kept : Option (ℕ × Event)) → LeavesAt here after line fault → kept ≡ held_at after → LeavesHeld here kept line fault
left_held here after line fault kept at is = record {
  last = at.leaves.last;
  on = at.leaves.on;
  cannot = at.leaves.cannot;
  held = sym (is ∙ held_there after at.leaves.last at.leaves.taken at.leaves.held);
  counted = at.counted ∙ ap line_behind at.leaves.taken;
}

pub held_first : (here after : Place) (line : ℕ) (w : Why) (kept : Option (ℕ × Event)) → IsLeft here after line w → kept ≡ held_at after → IsLeftHeld here kept line w
held_first here after line (why.Unread fault) kept at is = left_held here after line fault kept at is
held_first here after line why.NotFounded kept at is = absurd at
held_first here after line (why.Unfounded fault) kept at is = absurd at
held_first here after line (why.Unreplayed cause) kept at is = absurd at

pub none_read : (here after : Place) (line : ℕ) (w : Why) → IsLeft here after line w → None ≡ held_at after → IsNoneRead here line w
none_read here after line (why.Unread fault) at is = left_held here after line fault None at is
none_read here after line why.NotFounded at is = absurd at
none_read here after line (why.Unfounded fault) at is = absurd at
none_read here after line (why.Unreplayed cause) at is = absurd at

module _ {X : Type 0} (m : Meaning X) (bytes : Option (List ℕ)) where
  -- what is told before it is told of the whole, and lawful
  pub left_behind : (here after : Place) (es : List (ℕ × Event)) (office left : X) (line : ℕ) (w : Why) → left ≡ office → HasReplayed bytes m here es office → IsLeft here after line w
      → IsLeftBehind m bytes left line w
  left_behind here after es office left line (why.Unread fault) same all at = record {
    last = at.leaves.last;
    before = es;
    told = subst (λ (xs : List (ℕ × Event)). GoesOn (start bytes) at.leaves.last xs) (append-nil es) (goes_then (start bytes) here at.leaves.last es [] all.told at.leaves.on);
    cannot = at.leaves.cannot;
    counted = at.counted ∙ ap line_behind at.leaves.taken;
    lawful = λ clean. inr (all.lawful (subst (λ (x : X). m.is_clean x) same clean));
  }
  left_behind here after es office left line why.NotFounded same all at = absurd at
  left_behind here after es office left line (why.Unfounded fault) same all at = absurd at
  left_behind here after es office left line (why.Unreplayed cause) same all at = absurd at

  -- the next event doesn't happen again
  pub kept_out : (here after : Place) (es : List (ℕ × Event)) (placed : ℕ × Event) (old left : X) (line : ℕ) (w : Why) → HasReplayed bytes m here es old → GoesOn here after (placed ∷ [])
      → IsKeptOut m old left placed line w → IsLeftBehind m bytes left line w
  kept_out here after es placed old left line (why.Unread fault) before told is = absurd is
  kept_out here after es placed old left line why.NotFounded before told is = absurd is
  kept_out here after es placed old left line (why.Unfounded fault) before told is = absurd is
  kept_out here after es placed old left line (why.Unreplayed cause) before told is = record {
    before = es;
    event = placed.1;
    here = here;
    after = after;
    old = old;
    replayed = before;
    told = subst (λ (n : ℕ). GoesOn here after ((n, placed.1) ∷ [])) (sym is.0) told;
    refused = is.1;
  }

  -- where the journal can be read on, the founding is the first event
  pub begun_on : (here : Place) (first : ℕ × Event) (halt : Option Refused) (office : X) → halt ≡ None → HasBegun m bytes office here first halt → HasReplayed bytes m here (first ∷ []) office
  begun_on here first halt office none begun = record {
    told = subst (λ (h : Option Refused). IsFirstRead (start bytes) here first h) none begun.told;
    lawful = λ clean. begun.founding;
    stands = begun.stands;
  }

  -- and else no event stands before the line
  pub none_before : (left : X) (line : ℕ) (w : Why) (kept : Option (ℕ × Event)) → IsLeftHeld (start bytes) kept line w → IsLeftBehind m bytes left line w
  none_before left line (why.Unread fault) kept at = record {
    last = at.last;
    before = [];
    told = at.on;
    cannot = at.cannot;
    counted = at.counted;
    lawful = λ clean. inl refl;
  }
  none_before left line why.NotFounded kept at = absurd at
  none_before left line (why.Unfounded fault) kept at = absurd at
  none_before left line (why.Unreplayed cause) kept at = absurd at

  -- ---- how all that happens again ends

  -- the journal can't be read on
  pub stops_unread : (here after : Place) (es : List (ℕ × Event)) (office left : X) (line : ℕ) (w : Why) → left ≡ office → HasReplayed bytes m here es office → 0 < length es
      → IsLeft here after line w → StopsBehind m bytes left after line w
  stops_unread here after es office left line (why.Unread fault) same all some at = record {
    last = here;
    es = es;
    some = some;
    replayed = subst (HasReplayed bytes m here es) (sym same) all;
    at = at;
  }
  stops_unread here after es office left line why.NotFounded same all some at = absurd at
  stops_unread here after es office left line (why.Unfounded fault) same all some at = absurd at
  stops_unread here after es office left line (why.Unreplayed cause) same all some at = absurd at

  -- or the next event doesn't happen again
  pub stops_out : (here behind after : Place) (es : List (ℕ × Event)) (placed : ℕ × Event) (old left : X) (line : ℕ) (w : Why) → HasReplayed bytes m here es old
      → GoesOn here behind (placed ∷ []) → IsKeptOut m old left placed line w → StopsBehind m bytes left after line w
  stops_out here behind after es placed old left line (why.Unread fault) before told is = absurd is
  stops_out here behind after es placed old left line why.NotFounded before told is = absurd is
  stops_out here behind after es placed old left line (why.Unfounded fault) before told is = absurd is
  stops_out here behind after es placed old left line (why.Unreplayed cause) before told is = kept_out here behind es placed old left line (why.Unreplayed cause) before told is

  -- what is left by it
  stopped_behind : (left : X) (here : Place) (line : ℕ) (w : Why) → StopsBehind m bytes left here line w → IsLeftBehind m bytes left line w
  stopped_behind left here line (why.Unread fault) at = left_behind at.last here at.es left left line (why.Unread fault) refl at.replayed at.at
  stopped_behind left here line why.NotFounded at = absurd at
  stopped_behind left here line (why.Unfounded fault) at = absurd at
  stopped_behind left here line (why.Unreplayed cause) at = at

  pub stopped : (left : X) (here : Place) (refused : Refused) → Stops m bytes left here refused → IsLeftBehind m bytes left refused.line refused.why
  stopped left here refused (inl (first, begun)) = none_before left refused.line refused.why (Some first) begun.told.0
  stopped left here refused (inr at) = stopped_behind left here refused.line refused.why at

module _ {S : Type 0} (g : Ghosts S) (bytes : Option (List ℕ)) (conn left : Held S) (line : ℕ) where
  pub none_founded : (after : Place) (e : Event) (w : Why) → GoesOn (start bytes) after ((line, e) ∷ []) → IsNoFounding g e conn left w → IsRefused bytes g conn left line w
  none_founded after e (why.Unread fault) told is = absurd is
  none_founded after e why.NotFounded told is = inr (record { event = e; after = after; told = told; other = is })
  none_founded after e (why.Unfounded fault) told is = record {
    name = is.name;
    team = is.team;
    digest = is.digest;
    listed = is.listed;
    after = after;
    told = subst (λ (f : Event). GoesOn (start bytes) after ((line, f) ∷ [])) is.is told;
    already = is.already;
    cause = is.cause;
  }
  none_founded after e (why.Unreplayed cause) told is = absurd is

  pub none_behind : (w : Why) → IsLeftBehind (meaning_over g) bytes left line w → IsRefused bytes g conn left line w
  none_behind (why.Unread fault) at = at
  none_behind why.NotFounded at = absurd at
  none_behind (why.Unfounded fault) at = absurd at
  none_behind (why.Unreplayed cause) at = at

module _ {S : Type 0} (g : Ghosts S) (bytes : Option (List ℕ)) (conn : Held S) where
  -- nothing founds one
  none_held : (line : ℕ) (w : Why) → IsNoneRead (start bytes) line w → IsUnbegun bytes g conn conn line w
  none_held line (why.Unread fault) none = record { kept = None; held = none; none = tt }
  none_held line why.NotFounded none = inl none
  none_held line (why.Unfounded fault) none = absurd none
  none_held line (why.Unreplayed cause) none = absurd none

  pub unbegun_none : (from : Place) (refused : Refused) → from ≡ start bytes → IsNoneRead from refused.line refused.why → IsUnbegun bytes g conn conn refused.line refused.why
  unbegun_none from refused at none = none_held refused.line refused.why (subst (λ (p : Place). IsNoneRead p refused.line refused.why) at none)

  -- nor does the event that is held back
  held_unfounded : (line : ℕ) (w cause : Why) (placed : ℕ × Event) (left : Held S) → IsLeftHeld (start bytes) (Some placed) line w → IsNoFounding g placed.1 conn left cause
      → IsUnbegun bytes g conn left line w
  held_unfounded line (why.Unread fault) cause placed left at none = record { kept = Some placed; held = at; none = (cause, none) }
  held_unfounded line why.NotFounded cause placed left at none = absurd at
  held_unfounded line (why.Unfounded fault) cause placed left at none = absurd at
  held_unfounded line (why.Unreplayed cause2) cause placed left at none = absurd at

  -- nor the first that stands
  first_unfounded : (after : Place) (line : ℕ) (e : Event) (w : Why) (left : Held S) → GoesOn (start bytes) after ((line, e) ∷ []) → IsNoFounding g e conn left w → IsUnbegun bytes g conn left line w
  first_unfounded after line e (why.Unread fault) left told is = absurd is
  first_unfounded after line e why.NotFounded left told is = none_founded g bytes conn left line after e why.NotFounded told is
  first_unfounded after line e (why.Unfounded fault) left told is = none_founded g bytes conn left line after e (why.Unfounded fault) told is
  first_unfounded after line e (why.Unreplayed cause) left told is = absurd is

  -- whether the journal can be read on or not
  pub unbegun : (from here : Place) (placed : ℕ × Event) (halt : Option Refused) (left : Held S) (refused : Refused) → from ≡ start bytes → IsFirstRead from here placed halt → refused.line ≡ placed.0
      → IsNoFounding g placed.1 conn left refused.why → IsUnbegun bytes g conn left (unwrap_or halt refused).line (unwrap_or halt refused).why
  unbegun from here placed None left refused at first line none =
      first_unfounded here refused.line placed.1 refused.why left
      (subst (λ (n : ℕ). GoesOn (start bytes) here ((n, placed.1) ∷ [])) (sym line) (subst (λ (p : Place). GoesOn p here (placed ∷ [])) at first)) none
  unbegun from here placed (Some behind) left refused at first line none =
      held_unfounded behind.line behind.why refused.why placed left
      (subst (λ (p : Place). IsLeftHeld p (Some placed) behind.line behind.why) at first.0) none

  -- no office is built of it then
  pub unbegun_refused : (left : Held S) (line : ℕ) (w : Why) → IsUnbegun bytes g conn left line w → IsRefused bytes g conn left line w
  unbegun_refused left line (why.Unread fault) at = record {
    last = at.held.last;
    before = [];
    told = at.held.on;
    cannot = at.held.cannot;
    counted = at.held.counted;
    lawful = λ clean. inl refl;
  }
  unbegun_refused left line why.NotFounded at = at
  unbegun_refused left line (why.Unfounded fault) at = at
  unbegun_refused left line (why.Unreplayed cause) at = absurd at

  pub begun_read : (from here : Place) (placed : ℕ × Event) (halt : Option Refused) → from ≡ start bytes → IsFirstRead from here placed halt → IsFirstRead (start bytes) here placed halt
  begun_read from here placed halt at first = subst (λ (p : Place). IsFirstRead p here placed halt) at first

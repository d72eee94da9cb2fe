-- An office that is built anew as far as its journal can be read.
use Rattle.std.specs.Prelude.{◌≡◌, ◌⊎◌, ◌-◌, ◌^◌, ◌++◌, [], ◌∷◌, ℕ, min, Bool, true, false}
use Rattle.std.specs.Prelude.{List, Option, Result, Ok, Err, ⊤}
use Rattle.sqlite.specs.Held.{Held, state}
use Rattle.sqlite.specs.Store.{Ghosts}
use Rattle.sqlite.specs.State.{HasCleanDisk}
use Rattle.office_store.specs.Schema.{no_schema}
use Rattle.office_policy.specs.Handled.{Stands}
use Rattle.office_policy.specs.History.{Event}
use Rattle.office_policy.specs.Lawful.{IsLawfulHistory}
use Rattle.office_policy.specs.Meaning.{Meaning}
use Rattle.review_office.specs.declared.replay.Unreplayed.{Unreplayed}
use Rattle.review_office.specs.Meant.{meaning_over}
use Rattle.review_office.specs.Replayed.{IsReplayed}
use Rattle.sealed_log.specs.declared.unreadable.Unreadable.{Unreadable}
use Rattle.sealed_log.specs.declared.unreadable.Unreadable.TheVariants as unreadable
use Rattle.journal.specs.Told.{CannotGoOn, GoesOn, Place, history_told}
use Rattle.journal.specs.Told.{standing, start}
use Rattle.journal_faults.specs.declared.refused.Refused.{Refused}
use Rattle.journal_faults.specs.declared.refused.Why.{Why}
use Rattle.journal_faults.specs.declared.refused.Why.TheVariants as halt
use Rattle.journal_office.specs.Rebuilt.{HasReplayed, IsRebuilt, line_behind}
use Rattle.journal_office.specs.Steps.{IsLast, IsUnbegun}

-- the journal ends before a line that can't be: it isn't that the input or memory failed, of which
-- the line may be one that strikes out
abbrev pub ends_at : Unreadable → Bool
ends_at unreadable.Read = false
ends_at (unreadable.NoMemory _) = false
ends_at _ = true

abbrev pub ends_there : Why → Bool
ends_there (halt.Unread fault) = ends_at fault
ends_there _ = false

-- the event that is held back before a line that can't be read, behind these events, as far as it is
-- kept: where the journal ends there, and else where it is the first, without which there is no office
abbrev pub kept_by : (ends : Bool) → (before held : List (ℕ × Event)) → List (ℕ × Event)
kept_by true before held = held
kept_by false [] held = held
kept_by false (e ∷ before) held = []

abbrev pub kept_at : Unreadable → (before : List (ℕ × Event)) → Place → List (ℕ × Event)
kept_at fault before last = kept_by (ends_at fault) before (standing last.taken last.held)

-- the event is the next one behind the place: it stands, or is held back where the journal ends
abbrev pub ComesThere : Place → (ℕ × Event) → Type 0
ComesThere here placed =
    ((behind : Place) × GoesOn here behind (placed ∷ []))
    ⊎ ((last : IsLast here placed) × (ends_at last.fault ≡ true))

-- of a journal with these bytes, where they are known, and the office that is left
module _ (bytes : Option (List ℕ)) {X : Type 0} (m : Meaning X) (left : X) where
  -- The office is of the history that the journal is of, as in `IsRebuilt`; it has so many events,
  -- up to the greatest u64.
  pub record IsBuilt (events : ℕ) (seal : List ℕ) (lines : ℕ) : Type 0 where
    pub count : ℕ
    pub rebuilt : IsRebuilt bytes m count seal lines left
    pub shown : events ≡ min count (2 ^ 64 - 1)

  -- The line of this number can't be read, for this fault. The office stands of the events of all
  -- lines before it that aren't struck out: with that of the last of them, which no line behind it
  -- can strike out any more. Where the input or memory failed it is without, unless that founds it.
  pub record IsBuiltTo (line : ℕ) (fault : Unreadable) : Type 0 where
    pub last : Place
    pub before : List (ℕ × Event)
    pub told : GoesOn (start bytes) last before
    pub cannot : CannotGoOn fault last
    pub counted : line ≡ line_behind last.taken
    pub lawful : m.is_clean left
        → IsLawfulHistory (history_told (before ++ kept_at fault before last))
    pub stands : m.is_clean left
        → Stands m (history_told (before ++ kept_at fault before last)) left

  -- the office was of the events before that of this line, which doesn't happen again in it
  pub record IsKeptOut (line : ℕ) (cause : Unreplayed) : Type 0 where
    pub here : Place
    pub before : List (ℕ × Event)
    pub office : X
    pub replayed : HasReplayed bytes m here before office
    pub event : Event
    pub comes : ComesThere here (line, event)
    pub refused : IsReplayed m office left event (Err cause)

  -- why no more of it happens again
  abbrev pub IsHalted : ℕ → Why → Type 0
  IsHalted line (halt.Unread fault) = IsBuiltTo line fault
  IsHalted line halt.NotFounded = ⊥
  IsHalted line (halt.Unfounded fault) = ⊥
  IsHalted line (halt.Unreplayed cause) = IsKeptOut line cause

  -- all of it does, so many events; or not
  abbrev pub BuildsOn : (count : ℕ) → Place → Result ⊤ Refused → Type 0
  BuildsOn count here (Ok done) = IsRebuilt bytes m count here.seal here.taken left
  BuildsOn count here (Err refused) = IsHalted refused.line refused.why

-- why the office isn't of all that the journal tells: none is founded over the connection; or one is
-- over an empty store, whose disk was clean where that of the office is, and no more happens again in
-- it
abbrev pub IsUnbuilt : {S : Type 0} → (bytes : Option (List ℕ)) → Ghosts S → (conn left : Held S)
    → Refused → Type 0
IsUnbuilt bytes g conn left refused =
    IsUnbegun bytes g conn left refused.line refused.why
    ⊎ (((state g conn).now.schema ≡ no_schema)
    × (HasCleanDisk (state g left) → HasCleanDisk (state g conn))
    × IsHalted bytes (meaning_over g) left refused.line refused.why)

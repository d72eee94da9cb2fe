-- An office that is built anew from a journal, or where and why none is.
use Rattle.std.specs.Prelude.{◌≡◌, ◌↔◌, ◌⊎◌, ◌+◌, ◌-◌, ◌^◌, ℕ, min, List, [], ◌∷◌, length}
use Rattle.std.specs.Prelude.{Option, Result, Ok, Err, IfSome, IsTrue}
use Rattle.sqlite.specs.Held.{Held, state}
use Rattle.sqlite.specs.State.{HasCleanDisk}
use Rattle.sqlite.specs.Store.{Ghosts}
use Rattle.sealed_log.specs.Told.{told}
use Rattle.sealed_log.specs.declared.unreadable.Unreadable.{Unreadable}
use Rattle.sealed_log.specs.declared.unreadable.Unreadable.TheVariants as unreadable
use Rattle.office_founding.specs.declared.fault.FoundingFault.{FoundingFault}
use Rattle.office_founding.specs.declared.fault.FoundingFault.TheVariants.{AlreadyFounded}
use Rattle.office_founding.specs.Founding.{FailsToFound, first_user, has_table}
use Rattle.office_policy.specs.Handled.{Stands}
use Rattle.office_policy.specs.History.{Event, History, founded}
use Rattle.office_policy.specs.Lawful.{IsFounding, IsLawfulHistory}
use Rattle.office_policy.specs.Meaning.{Meaning}
use Rattle.review_office.specs.declared.replay.Unreplayed.{Unreplayed}
use Rattle.review_office.specs.declared.replay.Unreplayed.TheVariants as causes
use Rattle.review_office.specs.Meant.{meaning_over}
use Rattle.review_office.specs.Replayed.{IsReplayed}
use Rattle.journal.specs.Journal.{IsJournalOf, IsSealedJournal}
use Rattle.journal.specs.Told.{CannotGoOn, GoesOn, Place, Tells, history_told, start}
use Rattle.journal_office.specs.declared.office.Rebuilt.{Rebuilt}
use Rattle.journal_faults.specs.declared.refused.Refused.{Refused}
use Rattle.journal_faults.specs.declared.refused.Why.{Why}
use Rattle.journal_faults.specs.declared.refused.Why.TheVariants as why

-- the number of the line behind so many, up to the greatest u64
abbrev pub line_behind : ℕ → ℕ
line_behind taken = min (taken + 1) (2 ^ 64 - 1)

-- of a journal with these bytes, where they are known
module _ (bytes : Option (List ℕ)) where
  -- ---- what can't be an office

  -- The line of this number can't be read, for this fault. The events that stand before it, but for
  -- the one that it may strike out, are none or a lawful history, where what is left is clean.
  pub record IsUnread (clean : Type 0) (line : ℕ) (fault : Unreadable) : Type 0 where
    pub last : Place
    pub before : List (ℕ × Event)
    pub told : GoesOn (start bytes) last before
    pub cannot : CannotGoOn fault last
    pub counted : line ≡ line_behind last.taken
    pub lawful : clean → (before ≡ []) ⊎ IsLawfulHistory (history_told before)

  -- the first event that stands, of this line, is no founding
  pub record HasOtherFirst (line : ℕ) : Type 0 where
    pub event : Event
    pub after : Place
    pub told : GoesOn (start bytes) after ((line, event) ∷ [])
    pub other : IsFounding event → ⊥

  -- no event stands, or the first one is no founding
  abbrev pub IsNotFounded : ℕ → Type 0
  IsNotFounded line = (Tells (start bytes) [] × (line ≡ 0)) ⊎ HasOtherFirst line

  -- the founding of this line founds no office over the connection, for this fault
  pub record IsUnfounded {S : Type 0} (g : Ghosts S) (conn left : Held S) (line : ℕ)
      (fault : FoundingFault) : Type 0 where
    pub name : List ℕ
    pub team : List ℕ
    pub digest : List ℕ
    pub listed : ℕ
    pub after : Place
    pub told : GoesOn (start bytes) after ((line, founded name team digest listed) ∷ [])
    pub already : fault ≡ AlreadyFounded ↔ IsTrue (has_table (state g conn).now.schema)
    pub cause : HasCleanDisk (state g left)
        → FailsToFound g (first_user name team digest) listed conn left fault

  -- ---- what happens again

  module _ {X : Type 0} (m : Meaning X) where
    -- up to a place these events are told and are lawful, and the office stands of them
    pub record HasReplayed (here : Place) (es : List (ℕ × Event)) (office : X) : Type 0 where
      pub told : GoesOn (start bytes) here es
      pub lawful : m.is_clean office → IsLawfulHistory (history_told es)
      pub stands : m.is_clean office → Stands m (history_told es) office

    -- the event of this line doesn't happen again in the office of those before it, for this reason
    pub record IsUnreplayed (left : X) (line : ℕ) (cause : Unreplayed) : Type 0 where
      pub before : List (ℕ × Event)
      pub event : Event
      pub here : Place
      pub after : Place
      pub old : X
      pub replayed : HasReplayed here before old
      pub told : GoesOn here after ((line, event) ∷ [])
      pub refused : IsReplayed m old left event (Err cause)

    -- the office is of the history that the journal is of, which is lawful and has so many events.
    -- Seal and number of lines are the journal's
    pub record IsRebuilt (count : ℕ) (seal : List ℕ) (lines : ℕ) (office : X) : Type 0 where
      pub history : History
      pub journal : IfSome bytes (λ text. IsSealedJournal text history seal)
      pub lined : IfSome bytes (λ text. lines ≡ length (told text))
      pub counted : count ≡ length history
      pub lawful : m.is_clean office → IsLawfulHistory history
      pub stands : m.is_clean office → Stands m history office

  -- ---- what comes of it all

  -- where and why no office is built anew over the connection, and what is left of that
  abbrev pub IsRefused : {S : Type 0} → Ghosts S → (conn left : Held S) → (line : ℕ) → Why → Type 0
  IsRefused g conn left line (why.Unread fault) =
      IsUnread (HasCleanDisk (state g left)) line fault
  IsRefused g conn left line why.NotFounded = IsNotFounded line
  IsRefused g conn left line (why.Unfounded fault) = IsUnfounded g conn left line fault
  IsRefused g conn left line (why.Unreplayed cause) = IsUnreplayed (meaning_over g) left line cause

  -- the office with the number of its events, the seal of its journal and the number of its lines, or
  -- why there is none
  abbrev pub Rebuilds : {S : Type 0} → Ghosts S → (conn : Held S)
      → Result (Rebuilt S) (Refused × Held S) → Type 0
  Rebuilds g conn (Ok built) = IsRebuilt (meaning_over g) built.events built.seal built.lines built.office
  Rebuilds g conn (Err refusal) =
      IsRefused g conn refusal.1 refusal.0.line refusal.0.why

  -- the journal is of no lawful history
  abbrev pub IsUnlawful : Type 0
  IsUnlawful = IfSome bytes (λ text. (h : History) → IsLawfulHistory h → IsJournalOf text h → ⊥)

  -- the journal is of no lawful history for this reason, where what is left is clean. Where the input,
  -- memory or the store has a fault, or founds no office, nothing is known of that
  abbrev pub Refutes : (clean : Type 0) → Why → Type 0
  Refutes clean (why.Unread unreadable.NotALine) = IsUnlawful
  Refutes clean (why.Unread unreadable.NoEventBefore) = IsUnlawful
  Refutes clean (why.Unread unreadable.Unsealed) = IsUnlawful
  Refutes clean (why.Unread unreadable.TornLine) = IsUnlawful
  Refutes clean (why.Unread unreadable.Read) = Unit {0}
  Refutes clean (why.Unread (unreadable.NoMemory _)) = Unit {0}
  Refutes clean why.NotFounded = IsUnlawful
  Refutes clean (why.Unfounded fault) = Unit {0}
  Refutes clean (why.Unreplayed (causes.Denied denial)) = clean → IsUnlawful
  Refutes clean (why.Unreplayed causes.Founding) = clean → IsUnlawful
  Refutes clean (why.Unreplayed causes.OtherText) = clean → IsUnlawful
  Refutes clean (why.Unreplayed (causes.Fault fault)) = Unit {0}

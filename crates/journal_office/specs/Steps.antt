-- What is done with the events of a journal.
use Rattle.std.specs.Prelude.{◌≡◌, ◌⊎◌, ◌↔◌, ◌+◌, ◌-◌, ◌^◌, ◌<◌, [], ◌∷◌, ℕ, List, Option, Some, None}
use Rattle.std.specs.Prelude.{Result, Ok, Err, IfSome, IsTrue, length, ⊤}
use Rattle.sqlite.specs.Held.{Held, state}
use Rattle.sqlite.specs.State.{HasCleanDisk}
use Rattle.sqlite.specs.Store.{Ghosts}
use Rattle.office_founding.specs.declared.fault.FoundingFault.{FoundingFault}
use Rattle.office_founding.specs.declared.fault.FoundingFault.TheVariants.{AlreadyFounded}
use Rattle.office_founding.specs.Founding.{FailsToFound, first_user, has_table}
use Rattle.office_policy.specs.Handled.{Stands}
use Rattle.office_policy.specs.History.{Event, founded}
use Rattle.office_policy.specs.Lawful.{IsFounding}
use Rattle.office_policy.specs.Meaning.{Meaning}
use Rattle.review_office.specs.Replayed.{HasHappened, IsReplayed}
use Rattle.sealed_log.specs.declared.unreadable.Unreadable.{Unreadable}
use Rattle.journal.specs.declared.events.Placed.{Placed}
use Rattle.journal.specs.Told.{CannotGoOn, Gives, GoesOn, Leaves, Place, Tells, held_at}
use Rattle.journal.specs.Told.{placed_meant, start}
use Rattle.journal_faults.specs.declared.refused.Refused.{Refused}
use Rattle.journal_faults.specs.declared.refused.Why.{Why}
use Rattle.journal_faults.specs.declared.refused.Why.TheVariants as why
use Rattle.journal_office.specs.Rebuilt.{HasReplayed, IsNotFounded, IsRebuilt, IsUnfounded, IsUnread}
use Rattle.journal_office.specs.Rebuilt.{IsUnreplayed, line_behind}

-- the journal can't be read further than to a line, for this fault
pub record LeavesAt (old new : Place) (line : ℕ) (fault : Unreadable) : Type 0 where
  pub leaves : Leaves old new fault
  pub counted : line ≡ line_behind new.taken

-- the journal can't be read on
abbrev pub IsLeft : (old new : Place) → ℕ → Why → Type 0
IsLeft old new line (why.Unread fault) = LeavesAt old new line fault
IsLeft old new line why.NotFounded = ⊥
IsLeft old new line (why.Unfounded fault) = ⊥
IsLeft old new line (why.Unreplayed cause) = ⊥

-- the next event that stands, or that there is none
abbrev pub IsNext : Place → Place → Result (Option Placed) Refused → Type 0
IsNext old new (Ok found) = Gives old new (Ok found)
IsNext old new (Err refused) = IsLeft old new refused.line refused.why

-- the event is of the last line that can be read behind the place, and none stands there before. What
-- is behind that line can't be read
pub record IsLast (here : Place) (placed : ℕ × Event) : Type 0 where
  pub fault : Unreadable
  pub last : Place
  pub on : GoesOn here last []
  pub cannot : CannotGoOn fault last
  pub held : held_at last ≡ Some placed

-- the event is the next one behind the place: it stands, or it does as far as the journal can be read
abbrev pub ComesNext : Place → (ℕ × Event) → Type 0
ComesNext here placed = ((behind : Place) × GoesOn here behind (placed ∷ [])) ⊎ IsLast here placed

-- the journal can't be read further than to a line, for this fault. No event stands before, and this
-- one is held back there, or none
pub record LeavesHeld (old : Place) (kept : Option (ℕ × Event)) (line : ℕ) (fault : Unreadable)
    : Type 0 where
  pub last : Place
  pub on : GoesOn old last []
  pub cannot : CannotGoOn fault last
  pub held : held_at last ≡ kept
  pub counted : line ≡ line_behind last.taken

abbrev pub IsLeftHeld : Place → Option (ℕ × Event) → ℕ → Why → Type 0
IsLeftHeld old kept line (why.Unread fault) = LeavesHeld old kept line fault
IsLeftHeld old kept line why.NotFounded = ⊥
IsLeftHeld old kept line (why.Unfounded fault) = ⊥
IsLeftHeld old kept line (why.Unreplayed cause) = ⊥

-- the event is the first one that stands; or it was held back where the journal can't be read on
abbrev pub IsFirstRead : (old new : Place) → (ℕ × Event) → Option Refused → Type 0
IsFirstRead old new placed None = GoesOn old new (placed ∷ [])
IsFirstRead old new placed (Some refused) =
    IsLeftHeld old (Some placed) refused.line refused.why × (held_at new ≡ None)

-- no event stands, nor is one held back
abbrev pub IsNoneRead : Place → ℕ → Why → Type 0
IsNoneRead old line (why.Unread fault) = LeavesHeld old None line fault
IsNoneRead old line why.NotFounded = Tells old [] × (line ≡ 0)
IsNoneRead old line (why.Unfounded fault) = ⊥
IsNoneRead old line (why.Unreplayed cause) = ⊥

abbrev pub ReadsFirst : (old new : Place) → Result (Placed × Option Refused) Refused → Type 0
ReadsFirst old new (Ok found) = IsFirstRead old new (placed_meant found.0) found.1
ReadsFirst old new (Err refused) = IsNoneRead old refused.line refused.why

-- the event founds no office, for this fault
pub record FoundsNone {S : Type 0} (g : Ghosts S) (event : Event) (conn left : Held S)
    (fault : FoundingFault) : Type 0 where
  pub name : List ℕ
  pub team : List ℕ
  pub digest : List ℕ
  pub listed : ℕ
  pub is : event ≡ founded name team digest listed
  pub already : fault ≡ AlreadyFounded ↔ IsTrue (has_table (state g conn).now.schema)
  pub cause : HasCleanDisk (state g left)
      → FailsToFound g (first_user name team digest) listed conn left fault

-- the event is no founding, or founds no office
abbrev pub IsNoFounding : {S : Type 0} → Ghosts S → Event → (conn left : Held S) → Why → Type 0
IsNoFounding g event conn left (why.Unread fault) = ⊥
IsNoFounding g event conn left why.NotFounded = IsFounding event → ⊥
IsNoFounding g event conn left (why.Unfounded fault) = FoundsNone g event conn left fault
IsNoFounding g event conn left (why.Unreplayed cause) = ⊥

-- of a journal with these bytes, where they are known
module _ (bytes : Option (List ℕ)) {S : Type 0} (g : Ghosts S) (conn left : Held S) where
  -- the journal can't be read further than to a line, and what is held back there founds no office
  pub record IsUnreadAt (line : ℕ) (fault : Unreadable) : Type 0 where
    pub kept : Option (ℕ × Event)
    pub held : LeavesHeld (start bytes) kept line fault
    pub none : IfSome kept (λ placed. (w : Why) × IsNoFounding g placed.1 conn left w)

  -- why no office is founded by what can be read of it
  abbrev pub IsUnbegun : (line : ℕ) → Why → Type 0
  IsUnbegun line (why.Unread fault) = IsUnreadAt line fault
  IsUnbegun line why.NotFounded = IsNotFounded bytes line
  IsUnbegun line (why.Unfounded fault) = IsUnfounded bytes g conn left line fault
  IsUnbegun line (why.Unreplayed cause) = ⊥

-- an event more was taken, which can be counted, or none
abbrev pub CountsNext : (old new : ℕ) → Option Placed → Type 0
CountsNext old new None = new ≡ old
CountsNext old new (Some placed) = (new ≡ old + 1) × (old < 2 ^ 64 - 1)

module _ {X : Type 0} (m : Meaning X) (old new : X) (placed : ℕ × Event) where
  -- the event doesn't happen again, for a reason of its own line
  abbrev pub IsKeptOut : ℕ → Why → Type 0
  IsKeptOut line (why.Unread fault) = ⊥
  IsKeptOut line why.NotFounded = ⊥
  IsKeptOut line (why.Unfounded fault) = ⊥
  IsKeptOut line (why.Unreplayed cause) =
      (line ≡ placed.0) × IsReplayed m old new placed.1 (Err cause)

  -- the event happens again, or it doesn't
  abbrev pub Happens : Result ⊤ Refused → Type 0
  Happens (Ok done) = HasHappened m old new placed.1
  Happens (Err refused) = IsKeptOut refused.line refused.why

module _ {X : Type 0} (m : Meaning X) (bytes : Option (List ℕ)) (left : X) where
  -- the events behind the first don't all happen again
  abbrev pub IsLeftBehind : ℕ → Why → Type 0
  IsLeftBehind line (why.Unread fault) = IsUnread bytes (m.is_clean left) line fault
  IsLeftBehind line why.NotFounded = ⊥
  IsLeftBehind line (why.Unfounded fault) = ⊥
  IsLeftBehind line (why.Unreplayed cause) = IsUnreplayed bytes m left line cause

  -- the office is of the first event that can be read of the journal
  pub record HasBegun (here : Place) (first : ℕ × Event) (halt : Option Refused) : Type 0 where
    pub told : IsFirstRead (start bytes) here first halt
    pub founding : IsFounding first.1
    pub stands : m.is_clean left → Stands m (first.1 ∷ []) left

  -- the office is of the events up to a place; from there the journal can't be read further than to
  -- a line
  pub record IsOfAllBefore (here : Place) (line : ℕ) (fault : Unreadable) : Type 0 where
    pub last : Place
    pub es : List (ℕ × Event)
    pub some : 0 < length es
    pub replayed : HasReplayed bytes m last es left
    pub at : LeavesAt last here line fault

  -- where and why no event behind the first happens again any more
  abbrev pub StopsBehind : Place → ℕ → Why → Type 0
  StopsBehind here line (why.Unread fault) = IsOfAllBefore here line fault
  StopsBehind here line why.NotFounded = ⊥
  StopsBehind here line (why.Unfounded fault) = ⊥
  StopsBehind here line (why.Unreplayed cause) = IsUnreplayed bytes m left line cause

  -- where and why no more does, and of what the office is then
  abbrev pub Stops : Place → Refused → Type 0
  Stops here refused =
      ((first : ℕ × Event) × HasBegun here first (Some refused))
      ⊎ StopsBehind here refused.line refused.why

  -- the events behind the first all happen again, or not; with the first they are so many. Seal and
  -- number of lines are the journal's
  abbrev pub Continues : (count : ℕ) → Place → Result ⊤ Refused → Type 0
  Continues count here (Ok done) = IsRebuilt bytes m count here.seal here.taken left
  Continues count here (Err refused) = Stops here refused

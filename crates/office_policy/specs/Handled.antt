-- What a request leaves of an office, and what it is answered.
use Rattle.std.specs.Prelude.{◌⊎◌, ◌+◌, ◌-◌, ◌^◌, ◌≤◌, ℕ, min, Bool, true, false, ◌∷◌, Some, None}
use Rattle.std.specs.Prelude.{IsTrue}
use Rattle.review_policy.specs.declared.ask.Ask.{Ask}
use Rattle.review_policy.specs.declared.ask.Ask.TheVariants as ask
use Rattle.review_policy.specs.declared.ask.Request.{Request}
use Rattle.review_policy.specs.declared.answer.Answer.{Answer}
use Rattle.review_policy.specs.declared.answer.Answer.TheVariants.{Done, Denied, Fault}
use Rattle.office_words.specs.declared.fault.Fault.{Fault as TheFault}
use Rattle.office_words.specs.declared.fault.Fault.TheVariants as faults
use Rattle.office_policy.specs.History.{Event, History}
use Rattle.office_policy.specs.Verdict.{Verdict, accepted, denied, verdict}
use Rattle.office_policy.specs.Runs.{IsAnswer, history_after}
use Rattle.office_policy.specs.Headline.{GivesOutApproved}
use Rattle.office_policy.specs.Meaning.{Meaning, Entry, no_entry, entry_of, struck_entry_of}
use Rattle.no_memory.specs.Witness.{witness}

-- whether what is asked changes nothing, whatever it is answered
abbrev pub only_reads : Ask → Bool
only_reads (ask.SeeRevision view p n) = true
only_reads (ask.List team) = true
only_reads (ask.SeeProfile view p) = true
only_reads ask.Me = true
only_reads (ask.Revisions p before) = true
only_reads _ = false

-- a fact holds where nothing was changed: what was asked was refused, met a fault, or only reads
abbrev pub UnlessChanged : Ask → Answer → Type 0 → Type 0
UnlessChanged a (Done reply) P = IsTrue (only_reads a) → P
UnlessChanged a (Denied denial fault) P = P
UnlessChanged a (Fault fault) P = P

-- a fact holds where no fault was answered
abbrev pub UnlessFaulty : Answer → Type 0 → Type 0
UnlessFaulty (Done reply) P = P
UnlessFaulty (Denied denial fault) P = P
UnlessFaulty (Fault fault) P = Unit {0}

-- a fault was answered
abbrev pub IsFault : Answer → Type 0
IsFault (Fault fault) = Unit {0}
IsFault _ = ⊥

-- a count of faults rose, or stands at the greatest u64
abbrev pub HasRisen : ℕ → ℕ → Type 0
HasRisen old new = min (old + 1) (2 ^ 64 - 1) ≤ new

-- the event of a verdict as it is written down, where it has one
abbrev pub entry_in : Verdict → Entry
entry_in (accepted reply (Some e)) = entry_of e
entry_in (accepted reply None) = no_entry
entry_in (denied denial fault) = no_entry

module _ {X : Type 0} (m : Meaning X) where
  -- what it keeps its tables in refuses the event of the verdict with this fault
  abbrev pub RefusesEvent : X → History → Verdict → TheFault → Type 0
  RefusesEvent x h (accepted reply (Some e)) fault = m.refuses x h e fault
  RefusesEvent x h (accepted reply None) fault = ⊥
  RefusesEvent x h (denied denial told) fault = ⊥

  -- a call failed or was refused between the two, or what the request is to write is refused
  -- with this fault
  abbrev pub IsMet : (old new : X) → History → Request → TheFault → Type 0
  IsMet old new h request fault =
      HasRisen (m.faults old) (m.faults new) ⊎ RefusesEvent old h (verdict h request) fault

  -- nothing was written: it has what it had, and a crash leaves nothing that it couldn't leave
  abbrev pub IsUnwritten : (old new : X) → Type 0
  IsUnwritten old new =
      m.keeps old new × ((left : m.Left) → m.may_leave new left → m.may_leave old left)

  -- what is left is the office of the history with the event of the verdict, where it has one
  abbrev pub AreWithEvent : History → Verdict → m.Left → Type 0
  AreWithEvent h (accepted reply (Some e)) left = m.are_of (e ∷ h) left
  AreWithEvent h (accepted reply None) left = ⊥
  AreWithEvent h (denied denial fault) left = ⊥

  -- what is left is the office of the history, behind which the event of the verdict was begun
  abbrev pub AreBegun : History → Verdict → m.Left → Type 0
  AreBegun h (accepted reply (Some e)) left = m.are_begun h e left
  AreBegun h (accepted reply None) left = ⊥
  AreBegun h (denied denial fault) left = ⊥

  -- what is left has the event of the verdict, or what was begun of it
  abbrev pub AreInPart : History → Verdict → m.Left → Type 0
  AreInPart h v left = AreWithEvent h v left ⊎ AreBegun h v left

  -- nothing happened: it has what it had, and a crash leaves nothing that it couldn't leave before, but
  -- what was begun of the event of the verdict
  abbrev pub LeavesUndone : (old new : X) → History → Verdict → Type 0
  LeavesUndone old new h v =
      m.keeps old new
      × ((left : m.Left) → m.may_leave new left → m.may_leave old left ⊎ AreBegun h v left)

  -- memory was lacking before anything happened, or for what the request is to write
  abbrev pub LacksMemory : (old new : X) → History → Request → Type 0
  LacksMemory old new h request =
      LeavesUndone old new h (verdict h request)
      ⊎ RefusesEvent old h (verdict h request) (faults.NoMemory witness)

  -- a fault other than `memory` was met so, or it is `disk` and the office was shut before;
  -- none is for the form of its tables
  abbrev pub HasCause : (old new : X) → History → Request → Answer → Type 0
  HasCause old new h request (Done reply) = Unit {0}
  HasCause old new h request (Denied denial fault) = Unit {0}
  HasCause old new h request (Fault (faults.NoMemory _)) = LacksMemory old new h request
  HasCause old new h request (Fault faults.Disk) =
      m.is_open old → IsMet old new h request faults.Disk
  HasCause old new h request (Fault faults.Full) = IsMet old new h request faults.Full
  HasCause old new h request (Fault faults.NotAnOffice) = ⊥

  -- the event of the verdict was written down, and that it is struck out
  abbrev pub AddsStruck : Verdict → (old new : X) → Type 0
  AddsStruck (accepted reply (Some e)) old new = m.adds (struck_entry_of e) old new
  AddsStruck (accepted reply None) old new = ⊥
  AddsStruck (denied denial fault) old new = ⊥

  -- of what was done the event is written down, of what was denied nothing; and of a fault nothing, or
  -- the event and that it is struck out
  abbrev pub AddsBy : Verdict → Answer → (old new : X) → Type 0
  AddsBy v (Done reply) old new = m.adds (entry_in v) old new
  AddsBy v (Denied denial fault) old new = m.adds no_entry old new
  AddsBy v (Fault fault) old new = m.adds no_entry old new ⊎ AddsStruck v old new

  -- a crash leaves the office of this history and no other
  abbrev pub LeavesOnly : History → X → Type 0
  LeavesOnly h x = (left : m.Left) → m.may_leave x left → m.are_of h left

  -- the office is that of the history, is open, and a crash leaves just that
  pub record Stands (h : History) (x : X) : Type 0 where
    pub is_of : m.is_of h x
    pub is_open : m.is_open x
    pub leaves : LeavesOnly h x

  -- an event was written down, didn't happen, and couldn't be struck out: a stray
  abbrev pub HasStray : X → Type 0
  HasStray x = (e : Event) × m.is_stray e x

  -- the event of the verdict is a stray
  abbrev pub HasStrayOf : Verdict → X → Type 0
  HasStrayOf (accepted reply (Some e)) x = m.is_stray e x
  HasStrayOf (accepted reply None) x = ⊥
  HasStrayOf (denied denial fault) x = ⊥

  -- what a call leaves of an office, whatever it was asked
  pub record Survives (old new : X) : Type 0 where
    -- what is clean was clean before
    pub clean : m.is_clean new → m.is_clean old
    -- no fault is forgotten
    pub counts : m.faults old ≤ m.faults new
    -- only a fault shuts it, or a stray event
    pub closes : m.is_clean new → m.is_open old
        → m.is_open new ⊎ HasRisen (m.faults old) (m.faults new) ⊎ HasStray new
    -- an office that is open was open before
    pub shut : m.is_clean new → m.is_open new → m.is_open old
    -- a stray stays one
    pub stays : (e : Event) → m.is_stray e old → m.is_stray e new
    -- what was written down of events is not lost, nor changed
    pub grows : m.is_clean new → m.grows old new

  -- a request was handled, and answered by this
  pub record IsHandled (old new : X) (request : Request) (told : Answer) : Type 0 where
    pub survives : Survives old new
    -- the answer is that of the verdict, or a fault of memory, of the disk or of room on it
    pub answer : (h : History) → m.is_of h old → m.is_clean new → IsAnswer h request told
    -- a fault has a cause
    pub cause : (h : History) → m.is_of h old → m.is_clean new → HasCause old new h request told
    -- only a fault shuts it; or the event of the verdict, where that is a stray and a fault is answered
    pub closes : (h : History) → m.is_of h old → m.is_clean new → m.is_open old
        → m.is_open new ⊎ HasRisen (m.faults old) (m.faults new)
        ⊎ (IsFault told × HasStrayOf (verdict h request) new)
    -- what it gives out was approved: bytewise, by others, and by as many as its widening asked for
    pub approved : (h : History) → m.is_of h old → m.is_clean new → GivesOutApproved h request told
    -- the office is of the history with the event of what was carried out
    pub office : (h : History) → m.is_of h old → m.is_of (history_after h request told) new
    -- the office stands of this history where no fault was answered
    pub stands : (h : History) → m.is_of h old → m.is_clean new
        → UnlessFaulty told (Stands (history_after h request told) new)
    -- where nothing was changed it has what it had, whatever that is
    pub kept : m.is_clean new → UnlessChanged request.ask told (m.keeps old new)
    -- just what was answered is written down
    pub adds : (h : History) → m.is_of h old → m.is_clean new
        → AddsBy (verdict h request) told old new
    -- a crash may leave what it could leave before, or the office with the event of the verdict,
    -- where it has one, or with what was begun of it
    pub crash : (h : History) → m.is_of h old → m.is_clean new → (left : m.Left)
        → m.may_leave new left → m.may_leave old left ⊎ AreInPart h (verdict h request) left

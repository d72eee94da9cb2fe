-- What comes of an event that is to happen again.
use Rattle.std.specs.Prelude.{◌≡◌, ◌≢◌, ◌⊎◌, ◌∷◌, ℕ, List, Bool, true, Option, Some, None}
use Rattle.std.specs.Prelude.{Result, Ok, Err, Vec, ⊤, option_and_then}
use Rattle.std.specs.declared.alloc.Global.{Global}
use Rattle.profile_text.specs.Reading.{reading_of}
use Rattle.profile_text.specs.Text.{text_of}
use Rattle.profile_text.specs.declared.profile.Profile.{Profile}
use Rattle.review_policy.specs.declared.ask.Ask.{Ask}
use Rattle.review_policy.specs.declared.ask.Ask.TheVariants as ask
use Rattle.office_words.specs.declared.name.ProfileName.{ProfileName}
use Rattle.office_words.specs.declared.fault.Fault.{Fault as TheFault}
use Rattle.office_words.specs.declared.fault.Fault.TheVariants as faults
use Rattle.review_policy.specs.declared.answer.Reply.{Reply}
use Rattle.review_policy.specs.declared.denial.Denial.{Denial}
use Rattle.office_words.specs.declared.row.RevisionRow.{RevisionRow}
use Rattle.office_policy.specs.declared.change.Change.{Change}
use Rattle.office_policy.specs.declared.change.Change.TheVariants as changes
use Rattle.office_policy.specs.Callers.{caller_of}
use Rattle.office_policy.specs.Facts.{is_text_of}
use Rattle.office_policy.specs.Handled.{HasRisen, IsUnwritten, Stands, Survives}
use Rattle.office_policy.specs.History.{Event, founded, enrolled, submitted, voted}
use Rattle.office_policy.specs.History.{on_revision, on_profile, History}
use Rattle.office_policy.specs.Judging.{LeavesAll}
use Rattle.office_policy.specs.Lawful.{IsAllowed}
use Rattle.office_policy.specs.Meaning.{Meaning}
use Rattle.office_policy.specs.Users.{user_of}
use Rattle.office_policy.specs.Verdict.{Verdict, accepted, denied, verdict_of}
use Rattle.office_judging.specs.declared.refusal.Refusal.{Refusal}
use Rattle.office_judging.specs.declared.refusal.Refusal.TheVariants as refusals
use Rattle.review_office.specs.declared.replay.Unreplayed.{Unreplayed}
use Rattle.review_office.specs.declared.replay.Unreplayed.TheVariants as causes
use Rattle.no_memory.specs.Witness.{witness}

-- ---- what an event asks

-- the event is of what is asked here: a submission's document is the text itself
abbrev pub IsAskOf : Event → Ask → Type 0
IsAskOf (founded name team digest listed) a = ⊥
IsAskOf (enrolled caller user team roles digest) a = a ≡ ask.Enrol user team roles digest
IsAskOf (submitted caller p text) a =
    (document : Vec ℕ Global) × (document.items ≡ text) × (a ≡ ask.Submit p document)
IsAskOf (voted caller p n digest approves) a = a ≡ ask.Vote p n digest approves
IsAskOf (on_revision caller act p n) a = a ≡ ask.ActOnRevision act p n
IsAskOf (on_profile caller act p) a = a ≡ ask.ActOnProfile act p

-- the verdict on it is of the user of the name that the event has
abbrev pub verdict_for : Event → Ask → History → Verdict
verdict_for e a h = verdict_of h (option_and_then (user_of h) (caller_of e)) a

-- the revision that is added, where one is
abbrev pub added : Change → Option RevisionRow
added (changes.AddRevision p row) = Some row
added _ = None

-- the text of a submission is that of the revision that is added
abbrev pub has_text : Event → Change → Bool
has_text (submitted caller p text) change = is_text_of (Some text) (added change)
has_text _ change = true

-- a founding has no ask; or memory was wanted to make one
abbrev pub HasNoAsk : Event → Unreplayed → Type 0
HasNoAsk e (causes.Denied denial) = ⊥
HasNoAsk e causes.Founding = caller_of e ≡ None
HasNoAsk e causes.OtherText = ⊥
HasNoAsk e (causes.Fault fault) = fault ≡ faults.NoMemory witness

-- ---- why it doesn't happen again

-- what a refusal is told as
abbrev pub unreplayed_of : Refusal → Unreplayed
unreplayed_of (refusals.Denied denial fault) = causes.Denied denial
unreplayed_of (refusals.Fault fault) = causes.Fault fault

module _ (e : Event) (h : History) where
  -- a rule refuses what it asks, this one first
  pub record IsDeniedBy (denial : Denial) : Type 0 where
    pub ask : Ask
    pub asks : IsAskOf e ask
    pub fault : Option (List ℕ)
    pub verdict : verdict_for e ask h ≡ denied denial fault

  -- no rule refuses what it asks, and what happens is another event: that of the canonical text of
  -- the event's document
  pub record HasOtherText : Type 0 where
    pub ask : Ask
    pub asks : IsAskOf e ask
    pub caller : List ℕ
    pub name : ProfileName
    pub text : List ℕ
    pub is : e ≡ submitted caller name text
    pub profile : Profile
    pub reads : reading_of text ≡ Ok profile
    pub other : text ≢ text_of profile
    pub reply : Reply
    pub verdict : verdict_for e ask h
        ≡ accepted reply (Some (submitted caller name (text_of profile)))

-- ---- what that leaves of an office

module _ {X : Type 0} (m : Meaning X) where
  -- a fault was met, or it is `disk` and the office was shut before; there was no memory
  -- before anything was written, or for what was to be written
  abbrev pub IsCaused : (old new : X) → (Refuses : TheFault → Type 0) → TheFault → Type 0
  IsCaused old new Refuses (faults.NoMemory refused) = IsUnwritten m old new ⊎ Refuses (faults.NoMemory refused)
  IsCaused old new Refuses faults.Disk =
      m.is_open old → HasRisen (m.faults old) (m.faults new) ⊎ Refuses faults.Disk
  IsCaused old new Refuses faults.Full =
      HasRisen (m.faults old) (m.faults new) ⊎ Refuses faults.Full
  IsCaused old new Refuses faults.NotAnOffice = ⊥

  module _ (old new : X) (e : Event) where
    -- of a history that the office was of, where it is clean
    abbrev pub OfEach : (History → Type 0) → Type 0
    OfEach Holds = (h : History) → m.is_of h old → m.is_clean new → Holds h

    -- a crash may leave what it could leave before, or the office with the event where that is
    -- allowed
    abbrev pub LeavesWith : Type 0
    LeavesWith = OfEach (λ h. (left : m.Left) → m.may_leave new left
        → m.may_leave old left ⊎ (IsAllowed h e × m.are_of (e ∷ h) left))

    -- the event was allowed and happened again, and the office stands with it
    pub record HasHappened : Type 0 where
      pub survives : Survives m old new
      pub allowed : OfEach (λ h. IsAllowed h e)
      pub stands : OfEach (λ h. Stands m (e ∷ h) new)
      pub crash : LeavesWith

    -- the event isn't allowed, for this reason, and nothing was changed
    pub record IsRefused (Why : History → Type 0) : Type 0 where
      pub leaves : LeavesAll m old new
      pub why : OfEach Why
      pub never : OfEach (λ h. IsAllowed h e → ⊥)
      pub stands : OfEach (λ h. m.is_open old → Stands m h new)

    -- a fault was met, which has a cause, and the office is what it was
    pub record HasFailed (fault : TheFault) : Type 0 where
      pub survives : Survives m old new
      pub cause : OfEach (λ h. IsCaused old new (λ f. IsAllowed h e × m.refuses old h e f) fault)
      pub office : (h : History) → m.is_of h old → m.is_of h new
      pub kept : m.is_clean new → m.keeps old new
      pub crash : LeavesWith

    -- the event happened again, or didn't for this reason
    abbrev pub IsReplayed : Result ⊤ Unreplayed → Type 0
    IsReplayed (Ok done) = HasHappened
    IsReplayed (Err (causes.Denied denial)) = IsRefused (λ h. IsDeniedBy e h denial)
    IsReplayed (Err causes.Founding) = IsRefused (λ h. caller_of e ≡ None)
    IsReplayed (Err causes.OtherText) = IsRefused (HasOtherText e)
    IsReplayed (Err (causes.Fault fault)) = HasFailed fault

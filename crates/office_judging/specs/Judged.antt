-- What judging a request comes to, and what it leaves of a connection.
use Rattle.std.specs.Prelude.{◌≡◌, ◌≢◌, ℕ, List, true, false, Option, Some, None, Result, Ok, Err}
use Rattle.std.specs.Prelude.{IsTrue}
use Rattle.sqlite.specs.State.{State, HasCleanDisk, Survives}
use Rattle.profile_text.specs.Digest.{digest_of}
use Rattle.review_policy.specs.declared.ask.Ask.{Ask}
use Rattle.office_words.specs.declared.name.ProfileName.{ProfileName}
use Rattle.review_policy.specs.declared.ask.Request.{Request}
use Rattle.review_policy.specs.declared.answer.Answer.TheVariants.{Done}
use Rattle.review_policy.specs.declared.answer.Reply.{Reply}
use Rattle.review_policy.specs.declared.answer.Reply.TheVariants.{Submitted}
use Rattle.office_words.specs.declared.fault.Fault.TheVariants.{NotAnOffice}
use Rattle.office_words.specs.declared.row.RevisionRow.{RevisionRow}
use Rattle.office_words.specs.declared.row.UserRow.{UserRow}
use Rattle.office_words.specs.Tables.{Tables}
use Rattle.office_rows.specs.Causes.{HasFailed}
use Rattle.office_rows.specs.Queries.{IsAsItWas}
use Rattle.office_store.specs.Shown.{IsIdle, Shows, ShowsIfOpen, LeavesNoMore, LeavesOnly}
use Rattle.office_policy.specs.declared.change.Change.TheVariants as changes
use Rattle.office_policy.specs.declared.judge.Allowed.{Allowed}
use Rattle.office_policy.specs.declared.judge.Judgement.{Judgement}
use Rattle.office_policy.specs.declared.judge.Judgement.TheVariants as judgements
use Rattle.office_policy.specs.History.{History}
use Rattle.office_policy.specs.Handled.{only_reads}
use Rattle.office_policy.specs.Users.{user_of, user_showing}
use Rattle.office_policy.specs.Verdict.{Verdict, accepted, denied, verdict, verdict_of}
use Rattle.office_policy.specs.Lawful.{IsLawfulHistory}
use Rattle.office_policy.specs.TablesOf.{tables_of}
use Rattle.office_policy.specs.Asked.{IsAsked}
use Rattle.office_policy.specs.Judging.{IsNext, event_for}
use Rattle.office_judging.specs.declared.refusal.Refusal.{Refusal}
use Rattle.office_judging.specs.declared.refusal.Refusal.TheVariants as refusals

-- ---- what it leaves

-- a crash leaves the tables that an open connection shows, and no others
abbrev pub IsSettled : State → Type 0
IsSettled s = (t : Tables) → Shows s t → LeavesOnly s t

-- the connection has what it had, whatever that is
abbrev pub IsKept : State → State → Type 0
IsKept old new = old.now ≡ old.committed → HasCleanDisk new → IsAsItWas old new

-- a fact holds unless the judging ends in a fault
abbrev pub UnlessFault : {A : Type 0} → Result A Refusal → Type 0 → Type 0
UnlessFault (Ok a) P = P
UnlessFault (Err (refusals.Denied denial fault)) P = P
UnlessFault (Err (refusals.Fault fault)) P = Unit {0}

-- the value is so found, or the refusal is the verdict's; a fault never says that the tables are no
-- office's
abbrev pub Tells : {A : Type 0} → (A → Type 0) → Verdict → Result A Refusal → Type 0
Tells Found v (Ok a) = Found a
Tells Found v (Err (refusals.Denied denial fault)) = v ≡ denied denial fault
Tells Found v (Err (refusals.Fault fault)) = fault ≢ NotAnOffice

-- a fault was met by a call over the connection
abbrev pub HasCause : {A : Type 0} → (old new : State) → Result A Refusal → Type 0
HasCause old new (Ok a) = Unit {0}
HasCause old new (Err (refusals.Denied denial fault)) = Unit {0}
HasCause old new (Err (refusals.Fault fault)) = HasFailed old new fault

-- a request that has this verdict on a history is judged, and nothing is changed: what it comes to
-- is found of the history, or its first rule that refuses is told, or there is a fault
pub record Judges {A : Type 0} (old new : State) (result : Result A Refusal)
    (judge : History → Verdict) (Found : History → A → Type 0) : Type 0 where
  -- no transaction is open
  pub idle : IsIdle new
  -- a disk that is clean was clean before
  pub clean : HasCleanDisk new → HasCleanDisk old
  -- no fault is forgotten, and only a fault of the disk shuts the connection
  pub survives : Survives old new (λ _. Unit {0})
  -- what a crash leaves of an open connection is what it shows
  pub settled : IsSettled old → IsSettled new
  -- without a fault an open connection stays open
  pub stays : HasCleanDisk new → IsTrue old.is_open → UnlessFault result (IsTrue new.is_open)
  -- a connection that a fault has shut stays shut
  pub shut : HasCleanDisk new → old.is_open ≡ false → new.is_open ≡ false
  -- the verdict is told
  pub told : (h : History) → IsLawfulHistory h → ShowsIfOpen old (tables_of h) → HasCleanDisk new
      → Tells (Found h) (judge h) result
  -- a fault has a cause
  pub cause : (h : History) → IsLawfulHistory h → ShowsIfOpen old (tables_of h) → HasCleanDisk new
      → HasCause old new result
  -- the connection shows the tables still, unless a fault of the disk has shut it
  pub shown : (t : Tables) → ShowsIfOpen old t → HasCleanDisk new → ShowsIfOpen new t
  -- whatever it has, it has still
  pub same : IsKept old new
  -- a crash leaves nothing that it couldn't leave before
  pub crash : LeavesNoMore old new

-- ---- what it comes to

-- the verdict allows what its caller asks, with this reply and the event of this change; a
-- revision that is added is the next one
pub record IsAllowedBy (v : Verdict) (IsCaller : UserRow → Type 0) (h : History) (a : Allowed)
    : Type 0 where
  pub caller : IsCaller a.caller
  pub verdict : v ≡ accepted a.reply (Some (event_for a))
  pub next : IsNext h a.caller.name a.change

-- a revision that this caller adds to a profile, and what is answered of it
abbrev pub added_by : UserRow → ProfileName → RevisionRow → Allowed
added_by caller p row = record {
  caller = caller;
  change = changes.AddRevision p row;
  reply = Submitted row.digest row.number;
}

-- what happens is just what its caller asks
abbrev pub IsAskedBy : Ask → Allowed → Type 0
IsAskedBy a allowed = IsAsked allowed.caller.name a (Some (event_for allowed))

-- what this caller asks is judged, and only reads
abbrev pub JudgesRead : (old new : State) → Result Reply Refusal → UserRow → Ask → Type 0
JudgesRead old new result caller a =
    Judges old new result (λ h. verdict_of h (Some caller) a)
    (λ h reply. verdict_of h (Some caller) a ≡ accepted reply None)

-- what this caller asks is judged, and changes something
abbrev pub JudgesChange : (old new : State) → Result Allowed Refusal → UserRow → Ask → Type 0
JudgesChange old new result caller a =
    Judges old new result (λ h. verdict_of h (Some caller) a)
    (λ h. IsAllowedBy (verdict_of h (Some caller) a) (λ user. Some caller ≡ Some user) h)

-- what was asked only reads, and was answered so; or it is allowed to its caller, and changes
-- something
abbrev pub ComesTo : (History → Verdict) → (History → UserRow → Type 0) → History → Judgement
    → Type 0
ComesTo judge IsCaller h (judgements.Answered (Done reply)) = judge h ≡ accepted reply None
ComesTo judge IsCaller h (judgements.Answered told) = ⊥
ComesTo judge IsCaller h (judgements.Allowed allowed) =
    IsAllowedBy (judge h) (IsCaller h) h allowed

-- what happens is just what its caller asks, where it is allowed
abbrev pub IsAskedIfAllowed : Ask → Result Judgement Refusal → Type 0
IsAskedIfAllowed a (Ok (judgements.Allowed allowed)) = IsAskedBy a allowed
IsAskedIfAllowed a (Ok (judgements.Answered told)) = Unit {0}
IsAskedIfAllowed a (Err refusal) = Unit {0}

-- what only reads is asked, where it was answered
abbrev pub ReadsIfAnswered : Ask → Result Judgement Refusal → Type 0
ReadsIfAnswered a (Ok (judgements.Answered told)) = only_reads a ≡ true
ReadsIfAnswered a (Ok (judgements.Allowed allowed)) = Unit {0}
ReadsIfAnswered a (Err refusal) = Unit {0}

-- what this caller asks is judged, of whatever kind; nobody is a caller whom no one knows
pub record JudgesFor (old new : State) (result : Result Judgement Refusal)
    (caller : Option UserRow) (a : Ask) : Type 0 where
  pub judged : Judges old new result (λ h. verdict_of h caller a)
      (ComesTo (λ h. verdict_of h caller a) (λ h user. caller ≡ Some user))
  pub asked : IsAskedIfAllowed a result

-- a request is judged
abbrev pub JudgesRequest : (old new : State) → Result Judgement Refusal → Request → Type 0
JudgesRequest old new result r =
    Judges old new result (λ h. verdict h r)
    (ComesTo (λ h. verdict h r) (λ h user. user_showing h (digest_of r.token) ≡ Some user))

-- what the user of this name asks is judged
abbrev pub JudgesNamed : (old new : State) → Result Judgement Refusal → (name : List ℕ) → Ask
    → Type 0
JudgesNamed old new result name a =
    Judges old new result (λ h. verdict_of h (user_of h name) a)
    (ComesTo (λ h. verdict_of h (user_of h name) a) (λ h user. user_of h name ≡ Some user))

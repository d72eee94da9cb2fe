-- What a request comes to before anything is changed.
use Rattle.std.specs.Prelude.{◌≡◌, ℕ, suc, List, true, Some, Result, Ok, Err, ⊤}
use Rattle.profile_text.specs.Digest.{digest_of}
use Rattle.office_words.specs.Words.{is_token}
use Rattle.review_policy.specs.declared.ask.Request.{Request}
use Rattle.review_policy.specs.declared.answer.Answer.{Answer}
use Rattle.review_policy.specs.declared.answer.Answer.TheVariants as answers
use Rattle.office_words.specs.declared.fault.Fault.{Fault}
use Rattle.office_words.specs.declared.revision.State.TheVariants.{Open}
use Rattle.office_policy.specs.declared.change.Change.{Change}
use Rattle.office_policy.specs.declared.change.Change.TheVariants as changes
use Rattle.office_policy.specs.declared.judge.Allowed.{Allowed}
use Rattle.office_policy.specs.declared.judge.Judgement.{Judgement}
use Rattle.office_policy.specs.declared.judge.Judgement.TheVariants as judgements
use Rattle.office_policy.specs.History.{Event, History}
use Rattle.office_policy.specs.Happened.{event_by}
use Rattle.office_policy.specs.Users.{user_showing}
use Rattle.office_policy.specs.Revisions.{revision_count}
use Rattle.office_policy.specs.Verdict.{accepted, verdict}
use Rattle.office_policy.specs.Formed.{HasForms, IsFormed}
use Rattle.office_policy.specs.Lawful.{IsAllowed}
use Rattle.office_policy.specs.Asked.{IsAsked}
use Rattle.office_policy.specs.Runs.{history_after}
use Rattle.office_policy.specs.Meaning.{Meaning, no_entry}
use Rattle.office_policy.specs.Handled.{IsHandled, Stands, Survives}

-- the event of what was allowed
abbrev pub event_for : Allowed → Event
event_for a = event_by a.caller.name a.change

-- a revision that is added is the next one of its profile, by this caller, and open
abbrev pub IsNext : History → (caller : List ℕ) → Change → Type 0
IsNext h caller (changes.AddRevision p row) =
    row ≡ record {
      number = suc (revision_count h p);
      author = caller;
      state = Open;
      body = row.body;
      digest = digest_of row.body;
    }
IsNext h caller _ = Unit {0}

-- the verdict allows the request to its caller, with this reply and the event of this change
pub record IsAllowedTo (h : History) (r : Request) (a : Allowed) : Type 0 where
  pub formed : IsFormed r
  pub caller : user_showing h (digest_of r.token) ≡ Some a.caller
  pub verdict : verdict h r ≡ accepted a.reply (Some (event_for a))
  pub next : IsNext h a.caller.name a.change
  pub lawful : IsAllowed h (event_for a)

-- what carrying it out came to is answered so
abbrev pub answer_in : Allowed → Result ⊤ Fault → Answer
answer_in a (Ok done) = answers.Done a.reply
answer_in a (Err fault) = answers.Fault fault

module _ {X : Type 0} (m : Meaning X) where
  -- nothing was changed
  pub record LeavesAll (old new : X) : Type 0 where
    pub survives : Survives m old new
    pub office : (h : History) → m.is_of h old → m.is_of h new
    pub kept : m.is_clean new → m.keeps old new
    pub crash : m.is_clean new → (left : m.Left) → m.may_leave new left → m.may_leave old left
    -- no event was written down
    pub adds : m.is_clean new → m.adds no_entry old new
    pub strays : (e : Event) → m.is_stray e new → m.is_stray e old

  -- the request was answered, and changed nothing
  pub record IsAnswered (old new : X) (r : Request) (told : Answer) : Type 0 where
    pub leaves : LeavesAll old new
    pub handled : IsHandled m old new r told
    pub same : (h : History) → m.is_of h old → m.is_clean new → history_after h r told ≡ h

  -- the request is allowed, and just what it asks is to happen; so far nothing was changed
  pub record IsPermitted (old new : X) (r : Request) (a : Allowed) : Type 0 where
    pub leaves : LeavesAll old new
    pub token : is_token r.token ≡ true
    pub forms : HasForms r.ask
    pub asked : IsAsked a.caller.name r.ask (Some (event_for a))
    pub allowed : (h : History) → m.is_of h old → m.is_clean new → IsAllowedTo h r a
    -- the office stands, and stood before
    pub stood : (h : History) → m.is_of h old → m.is_clean new → Stands m h old
    pub stands : (h : History) → m.is_of h old → m.is_clean new → Stands m h new

  -- what judging a request comes to
  abbrev pub IsJudged : (old new : X) → Request → Judgement → Type 0
  IsJudged old new r (judgements.Answered told) = IsAnswered old new r told
  IsJudged old new r (judgements.Allowed a) = IsPermitted old new r a

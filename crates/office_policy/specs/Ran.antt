-- What a list of requests leaves of an office, and what it is answered.
use Rattle.std.specs.Prelude.{◌≡◌, List, [], ◌∷◌, length, IsTrue}
use Rattle.review_policy.specs.declared.ask.Request.{Request}
use Rattle.review_policy.specs.declared.answer.Answer.{Answer}
use Rattle.review_policy.specs.declared.answer.Answer.TheVariants.{Done, Denied, Fault}
use Rattle.office_policy.specs.History.{History}
use Rattle.office_policy.specs.Runs.{Took, history_after_all}
use Rattle.office_policy.specs.Meaning.{Meaning}
use Rattle.office_policy.specs.Handled.{only_reads, UnlessFaulty, Stands, Survives, IsHandled}
use Rattle.office_policy.specs.Left.{LeftAfter}

-- nothing was changed: each request was refused, met a fault, or only reads
abbrev pub NoneChanged : List Request → List Answer → Type 0
NoneChanged (r ∷ requests) (Done reply ∷ answers) =
    IsTrue (only_reads r.ask) × NoneChanged requests answers
NoneChanged (r ∷ requests) (Denied denial fault ∷ answers) = NoneChanged requests answers
NoneChanged (r ∷ requests) (Fault fault ∷ answers) = NoneChanged requests answers
NoneChanged _ _ = Unit {0}

-- a fact holds where there is a last answer, which is no fault
abbrev pub UnlessLastFaulty : List Answer → Type 0 → Type 0
UnlessLastFaulty [] P = Unit {0}
UnlessLastFaulty (answer ∷ []) P = UnlessFaulty answer P
UnlessLastFaulty (answer ∷ next ∷ answers) P = UnlessLastFaulty (next ∷ answers) P

-- each request was handled on what the one before it left, from the first to the last
abbrev pub HandlesEach : {X : Type 0} → Meaning X → (old new : X) → List Request → List Answer
    → Type 0
HandlesEach m old new [] [] = new ≡ old
HandlesEach {X} m old new (r ∷ requests) (answer ∷ answers) =
    (mid : X) × IsHandled m old mid r answer × HandlesEach m mid new requests answers
HandlesEach m old new [] (answer ∷ answers) = ⊥
HandlesEach m old new (r ∷ requests) [] = ⊥

-- the requests were handled one after the other, and answered by these
pub record HaveRun
    {X : Type 0} (m : Meaning X) (old new : X)
    (requests : List Request) (told : List Answer) : Type 0 where
  -- one answer to each
  pub count : length told ≡ length requests
  pub survives : Survives m old new
  -- each answer is that of the verdict on what was carried out before it, or a fault
  pub answers : (h : History) → m.is_of h old → m.is_clean new → Took h requests told
  -- each request was handled as it is alone, so that each fault has a cause
  pub each : HandlesEach m old new requests told
  -- the office is of the history with the events of all that was carried out
  pub office : (h : History) → m.is_of h old → m.is_of (history_after_all h requests told) new
  -- the office stands of this history where the last answer is no fault
  pub stands : (h : History) → m.is_of h old → m.is_clean new
      → UnlessLastFaulty told (Stands m (history_after_all h requests told) new)
  -- where nothing was changed it has what it had, whatever that is
  pub kept : m.is_clean new → NoneChanged requests told → m.keeps old new
  -- what a crash may leave
  pub crash : (h : History) → m.is_of h old → m.is_clean new → (left : m.Left)
      → m.may_leave new left → LeftAfter m (m.may_leave old) h requests told left

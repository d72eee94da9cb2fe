-- What exchanges leave of an office.
use Rattle.std.specs.Prelude.{◌≡◌, List, [], ◌∷◌, Option, Some, None, Result, Ok, Err}
use Rattle.office_policy.specs.Meaning.{Meaning}
use Rattle.review_policy.specs.declared.ask.Request.{Request}
use Rattle.review_policy.specs.declared.answer.Answer.{Answer}
use Rattle.office_policy.specs.Ran.{HaveRun}
use Rattle.desk_http.specs.Outcomes.{told_as, told_code, want_of}
use Rattle.desk_http.specs.declared.fault.HttpFault.{HttpFault}
use Rattle.desk_http.specs.declared.fault.HttpFault.TheVariants as fault
use Rattle.desk_http.specs.declared.outcome.ExchangeOutcome.{ExchangeOutcome}
use Rattle.desk_http.specs.declared.outcome.ExchangeOutcome.TheVariants.{Refused, NoMemory, Answered}
use Rattle.desk_http.specs.declared.served.Served.{Served}

-- ---- one exchange

-- what came of it, if anything, is told so
abbrev pub Tells : Option ExchangeOutcome → Result Served HttpFault → Type 0
Tells (Some outcome) (Ok served) = served ≡ told_as outcome
Tells (Some outcome) (Err (fault.Write status want)) =
    (status ≡ told_code outcome) × (want ≡ want_of outcome)
Tells (Some outcome) (Err (fault.NoMemory status _)) = status ≡ told_code outcome
Tells None (Err fault.Read) = Unit {0}
Tells None (Err fault.Ended) = Unit {0}
Tells None (Err fault.TooManyReads) = Unit {0}
Tells came result = ⊥

-- where nothing was handled this is `Same`, and where a request was handled with an answer it is
-- `Handled` of these two
abbrev pub Leaves : (Same : Type 0) (Handled : Request → Answer → Type 0) → Option ExchangeOutcome → Type 0
Leaves Same Handled (Some (Answered request answer)) = Handled request answer
Leaves Same Handled (Some (Refused why)) = Same
Leaves Same Handled (Some (NoMemory _)) = Same
Leaves Same Handled None = Same

-- an outcome came of an exchange, or none, and was told so
abbrev pub IsExchanged : (Same : Type 0) (Handled : Request → Answer → Type 0)
    → Result Served HttpFault → Type 0
IsExchanged Same Handled result =
    (came : Option ExchangeOutcome) × Leaves Same Handled came × Tells came result

-- ---- many

-- the requests that were handled in them, and their answers
abbrev pub requests_in : List (Option ExchangeOutcome) → List Request
requests_in [] = []
requests_in (Some (Answered request answer) ∷ came) = request ∷ requests_in came
requests_in (_ ∷ came) = requests_in came

abbrev pub answers_in : List (Option ExchangeOutcome) → List Answer
answers_in [] = []
answers_in (Some (Answered request answer) ∷ came) = answer ∷ answers_in came
answers_in (_ ∷ came) = answers_in came

-- each outcome was told as the result in its place
abbrev pub AreTold : List (Option ExchangeOutcome) → List (Result Served HttpFault) → Type 0
AreTold [] [] = Unit {0}
AreTold (c ∷ came) (r ∷ results) = Tells c r × AreTold came results
AreTold _ _ = ⊥

-- the requests of some exchanges were handled one after the other
pub record HaveExchanged {X : Type 0} (m : Meaning X) (old new : X)
    (results : List (Result Served HttpFault)) : Type 0 where
  pub came : List (Option ExchangeOutcome)
  pub told : AreTold came results
  pub handled : HaveRun m old new (requests_in came) (answers_in came)

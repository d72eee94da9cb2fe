-- What an exchange leaves of an office, a reader and a writer.
use Rattle.std.specs.Prelude.{◌≡◌, ◌⊎◌, ℕ, List, [], ◌∷◌, Option, Result, Ok, Err, IfSome}
use Rattle.std.specs.Io.KnownBytes.{Appends, IsAtEnd}
use Rattle.review_policy.specs.declared.ask.Request.{Request}
use Rattle.review_policy.specs.declared.answer.Answer.{Answer}
use Rattle.office_policy.specs.History.{History}
use Rattle.office_policy.specs.Runs.{IsAnswer, history_after}
use Rattle.office_policy.specs.Meaning.{Meaning}
use Rattle.office_policy.specs.Handled.{IsHandled, LeavesOnly}
use Rattle.office_policy.specs.Left.{AreLeft}
use Rattle.streams.specs.Counts.{one_more}
use Rattle.streams.specs.Steps.{AppendsPart}
use Rattle.json_requests.specs.Plain.{plain}
use Rattle.http_requests.specs.Exchanges.{asks, refused, ended, IsExchange}
use Rattle.http_requests.specs.Heard.{HasCome}
use Rattle.desk_http.specs.Outcomes.{told, told_as}
use Rattle.desk_http.specs.declared.fault.HttpFault.{HttpFault}
use Rattle.desk_http.specs.declared.fault.HttpFault.TheVariants as fault
use Rattle.desk_http.specs.declared.outcome.ExchangeOutcome.{ExchangeOutcome}
use Rattle.desk_http.specs.declared.outcome.ExchangeOutcome.TheVariants.{Refused, NoMemory, Answered}
use Rattle.desk_http.specs.declared.served.Served.{Served}

-- the response is written whole; or the writer failed, and a part of it is; or there was no memory
-- for it, and nothing is
abbrev pub IsWritten : Option (List ℕ) → Option (List ℕ) → List ℕ → Served → Result Served HttpFault
    → Type 0
IsWritten before after response meant (Ok served) = (served ≡ meant) × Appends before after response
IsWritten before after response meant (Err (fault.Write status want)) =
    (status ≡ meant.status) × (want ≡ meant.witness) × AppendsPart before after response
IsWritten before after response meant (Err (fault.NoMemory status _)) =
    (status ≡ meant.status) × (after ≡ before)
IsWritten before after response meant (Err _) = ⊥

-- the response to an outcome is written so, with its status and whether bytes of the request may still
-- come
abbrev pub IsTold : Option (List ℕ) → Option (List ℕ) → ExchangeOutcome → Result Served HttpFault → Type 0
IsTold before after outcome result =
    IsWritten before after (told outcome) (told_as outcome) result

-- where nothing was handled this is `Same`, and where a request was handled with an answer it is
-- `Handled` of these two
module _ (Same : Type 0) (Handled : Request → Answer → Type 0) where
  -- what was read of the stream is refused so; or it asks this request, which was handled with this
  -- answer; or it is too little, and the stream ended, or couldn't be read on; where it is out of
  -- memory, it is only said that nothing was handled
  abbrev pub HasOutcome : Option (List ℕ) → Option (List ℕ) → Result ExchangeOutcome HttpFault → Type 0
  HasOutcome unread rest (Ok (Refused why)) = HasCome unread rest IsExchange (refused why) × Same
  HasOutcome unread rest (Ok (Answered request answer)) =
      HasCome unread rest IsExchange (asks (plain request)) × Handled request answer
  HasOutcome unread rest (Ok (NoMemory _)) = Same
  HasOutcome unread rest (Err fault.Ended) =
      HasCome unread rest IsExchange ended × IsAtEnd rest × Same
  HasOutcome unread rest (Err fault.Read) = HasCome unread rest IsExchange ended × Same
  HasOutcome unread rest (Err fault.TooManyReads) = HasCome unread rest IsExchange ended × Same
  HasOutcome unread rest (Err _) = ⊥

  -- what the whole stream comes to: it is refused so, or asks this request, or ends too soon, whatever
  -- was read of it
  abbrev pub HasOutcomeOf : List ℕ → Result ExchangeOutcome HttpFault → Type 0
  HasOutcomeOf input (Ok (Refused why)) = IsExchange input (refused why) × Same
  HasOutcomeOf input (Ok (Answered request answer)) =
      IsExchange input (asks (plain request)) × Handled request answer
  HasOutcomeOf input (Ok (NoMemory _)) = Same
  HasOutcomeOf input (Err fault.Ended) = IsExchange input ended × Same
  HasOutcomeOf input (Err fault.Read) = Same
  HasOutcomeOf input (Err fault.TooManyReads) = Same
  HasOutcomeOf input (Err _) = ⊥

-- no outcome is there, and nothing was written; or there is one, and it is answered
abbrev pub IsServedAs : (Has : Result ExchangeOutcome HttpFault → Type 0)
    → (before after : Option (List ℕ)) → Result Served HttpFault → Type 0
IsServedAs Has before after result =
    ((e : HttpFault) × (result ≡ Err e) × Has (Err e) × (after ≡ before))
    ⊎ ((outcome : ExchangeOutcome) × Has (Ok outcome) × IsTold before after outcome result)

module _ (Same : Type 0) (Handled : Request → Answer → Type 0) where
  -- an exchange is served by what was read of a stream
  abbrev pub IsServed : (unread rest before after : Option (List ℕ)) → Result Served HttpFault → Type 0
  IsServed unread rest before after result =
      IsServedAs (HasOutcome Same Handled unread rest) before after result

  -- an exchange is served by the whole stream, where that is known
  abbrev pub IsServedOf : (unread before after : Option (List ℕ)) → Result Served HttpFault → Type 0
  IsServedOf unread before after result =
      IfSome unread (λ input. IsServedAs (HasOutcomeOf Same Handled input) before after result)

-- ---- what a crash leaves, where it left the office of a history and no other before the exchange

module _ {X : Type 0} (m : Meaning X) (h : History) (old new : X) where
  -- the office is what it was, of that history, and a crash leaves just that
  abbrev pub StaysWhole : Type 0
  StaysWhole = (new ≡ old) × m.is_of h new × LeavesOnly m h new

  -- the request was handled with this answer, and it is the office of the history after it; a crash
  -- leaves just that, or after a fault that with the event of the request
  pub record LeftByOne (request : Request) (answer : Answer) : Type 0 where
    pub handled : IsHandled m old new request answer
    pub answer_is : IsAnswer h request answer
    pub office : m.is_of (history_after h request answer) new
    pub left : (left : m.Left) → m.may_leave new left
        → AreLeft m (history_after h request answer) (request ∷ []) (answer ∷ []) left

-- only where the writer failed is there one fault more
abbrev pub TellCounts : ℕ → ℕ → Result Served HttpFault → Type 0
TellCounts old new (Err (fault.Write status want)) = new ≡ one_more old
TellCounts old new _ = new ≡ old

-- one call of the reader failed just where that is reported, and there were as many as are allowed
-- where that is
abbrev pub ReadCounts : {X : Type 0} → (calls calls_after most faults faults_after : ℕ)
    → Result X HttpFault → Type 0
ReadCounts calls calls_after most faults faults_after (Err fault.Read) =
    faults_after ≡ one_more faults
ReadCounts calls calls_after most faults faults_after (Err fault.TooManyReads) =
    (calls_after ≡ most) × (faults_after ≡ faults)
ReadCounts calls calls_after most faults faults_after _ = faults_after ≡ faults

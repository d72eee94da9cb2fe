-- The responses by what came of exchanges.
use Rattle.std.specs.Prelude.{ℕ, List, Bool, true, false, Option, Some, None}
use Rattle.review_policy.specs.declared.answer.Answer.TheVariants.{Fault}
use Rattle.office_words.specs.declared.fault.Fault.TheVariants as faults
use Rattle.http_requests.specs.Message.{code_of}
use Rattle.http_requests.specs.declared.status.Status.{Status}
use Rattle.http_requests.specs.Responses.{refusal_with, response_to, status_of}
use Rattle.http_requests.specs.Refusals.{refused_status, refused_word}
use Rattle.http_requests.specs.declared.refusal.Refusal.TheVariants.{NotARequest}
use Rattle.desk_http.specs.declared.outcome.ExchangeOutcome.{ExchangeOutcome}
use Rattle.desk_http.specs.declared.outcome.ExchangeOutcome.TheVariants.{Refused, NoMemory, Answered}
use Rattle.desk_http.specs.declared.served.Served.{Served}
use Rattle.no_memory.specs.Witness.{witness}
use Rattle.no_memory.specs.declared.witness.NoMemory.{«NoMemory» as Want}

-- the response to it
abbrev pub told : ExchangeOutcome → List ℕ
told (Refused why) = refusal_with (refused_status why) (refused_word why)
told (NoMemory _) = response_to (Fault (faults.NoMemory witness))
told (Answered request answer) = response_to answer

-- the status of that response
abbrev pub told_status : ExchangeOutcome → Status
told_status (Refused why) = refused_status why
told_status (NoMemory _) = status_of (Fault (faults.NoMemory witness))
told_status (Answered request answer) = status_of answer

-- the number of the response's status
abbrev pub told_code : ExchangeOutcome → ℕ
told_code outcome = code_of (told_status outcome)

-- whether bytes of the request may still come: it was refused before its body was read, or nobody
-- knows how far it was read
abbrev pub is_unread : ExchangeOutcome → Bool
is_unread (Refused NotARequest) = false
is_unread (Refused why) = true
is_unread (NoMemory _) = true
is_unread (Answered request answer) = false

-- the want of memory that the response tells, where it tells one
abbrev pub want_of : ExchangeOutcome → Option Want
want_of (NoMemory memory) = Some memory
want_of (Answered request (Fault (faults.NoMemory memory))) = Some memory
want_of _ = None

-- what an exchange comes to whose response is written whole
abbrev pub told_as : ExchangeOutcome → Served
told_as outcome = record {
  status = told_code outcome;
  is_unread = is_unread outcome;
  witness = want_of outcome;
}

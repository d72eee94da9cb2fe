-- The responses of answers and refusals.
use Rattle.std.specs.Prelude.{ℕ, List}
use Rattle.review_policy.specs.declared.answer.Answer.{Answer}
use Rattle.review_policy.specs.declared.answer.Answer.TheVariants as answers
use Rattle.review_policy.specs.declared.answer.Reply.{Reply}
use Rattle.review_policy.specs.declared.answer.Reply.TheVariants as reply
use Rattle.json_requests.specs.Answers.{answer_text}
use Rattle.json_requests.specs.Bad.{bad_text}
use Rattle.http_requests.specs.Message.{message_of}
use Rattle.http_requests.specs.declared.message.ContentType.{ContentType}
use Rattle.http_requests.specs.declared.message.ContentType.TheVariants.{Json, PlainText}
use Rattle.http_requests.specs.declared.status.Status.{Status}
use Rattle.http_requests.specs.declared.status.Status.TheVariants as status

-- done, refused by a rule, or failed
abbrev pub status_of : Answer → Status
status_of (answers.Done reply) = status.Done
status_of (answers.Denied denial fault) = status.Forbidden
status_of (answers.Fault fault) = status.ServiceUnavailable

-- the body of a fetch is the document, and of a sheet its text
abbrev pub body_of_reply : Reply → List ℕ
body_of_reply (reply.Fetched digest document revision) = document
body_of_reply (reply.Sheet sheet) = sheet
body_of_reply r = answer_text (answers.Done r)

-- of all else the text of the answer
abbrev pub body_of : Answer → List ℕ
body_of (answers.Done r) = body_of_reply r
body_of (answers.Denied denial fault) = answer_text (answers.Denied denial fault)
body_of (answers.Fault fault) = answer_text (answers.Fault fault)

abbrev pub type_of_reply : Reply → ContentType
type_of_reply (reply.Sheet sheet) = PlainText
type_of_reply r = Json

-- a sheet is plain text, and all else is JSON
abbrev pub type_of : Answer → ContentType
type_of (answers.Done r) = type_of_reply r
type_of (answers.Denied denial fault) = Json
type_of (answers.Fault fault) = Json

-- the response with this status that reports an answer
abbrev pub response_with : Status → Answer → List ℕ
response_with status answer = message_of status (type_of answer) (body_of answer)

-- the response that reports an answer, with its status
abbrev pub response_to : Answer → List ℕ
response_to answer = response_with (status_of answer) answer

-- the response with this status that refuses a request by a word
abbrev pub refusal_with : Status → List ℕ → List ℕ
refusal_with s word = message_of s Json (bad_text word)

-- The statuses and the words of refused requests. The numbers of sections are those of RFC 9110, or
-- of RFC 9112 where that is said.
use Rattle.std.specs.Prelude.{ℕ, List, codes}
use Rattle.http_requests.specs.declared.refusal.Refusal.{Refusal}
use Rattle.http_requests.specs.declared.refusal.Refusal.TheVariants.{HeadTooLong, BadHead, BadHost}
use Rattle.http_requests.specs.declared.refusal.Refusal.TheVariants.{TransferEncoding, BadLength}
use Rattle.http_requests.specs.declared.refusal.Refusal.TheVariants.{TooLarge, NoRoute, WrongMethod}
use Rattle.http_requests.specs.declared.refusal.Refusal.TheVariants.{NoToken, NotARequest}
use Rattle.http_requests.specs.declared.status.Status.{Status}
use Rattle.http_requests.specs.declared.status.Status.TheVariants.{BadRequest, NotFound}
use Rattle.http_requests.specs.declared.status.Status.TheVariants.{MethodNotAllowed}
use Rattle.http_requests.specs.declared.status.Status.TheVariants.{PayloadTooLarge}

-- the status of a refusal
abbrev pub refused_status : Refusal → Status
-- a set of fields, or a request line, that is longer than the server reads (5.4, and 3 of RFC 9112)
refused_status HeadTooLong = BadRequest
-- an invalid request line or field line (2.2, 3 and 5 of RFC 9112)
refused_status BadHead = BadRequest
-- no Host, or more than one (3.2 of RFC 9112)
refused_status BadHost = BadRequest
-- a transfer coding, of which none is read (6.1 of RFC 9112)
refused_status TransferEncoding = BadRequest
-- an invalid Content-Length (8.6, and 6.3 of RFC 9112)
refused_status BadLength = BadRequest
-- 15.5.14
refused_status TooLarge = PayloadTooLarge
-- 15.5.5
refused_status NoRoute = NotFound
-- 15.5.6
refused_status (WrongMethod allowed) = MethodNotAllowed allowed
-- no credentials of the scheme Bearer (11.6.2)
refused_status NoToken = BadRequest
-- 15.5.1
refused_status NotARequest = BadRequest

-- the word of a refusal
abbrev pub refused_word : Refusal → List ℕ
refused_word HeadTooLong = codes "head-too-long"
refused_word BadHead = codes "bad-head"
refused_word BadHost = codes "bad-host"
refused_word TransferEncoding = codes "transfer-encoding"
refused_word BadLength = codes "bad-length"
refused_word TooLarge = codes "too-large"
refused_word NoRoute = codes "no-route"
refused_word (WrongMethod allowed) = codes "wrong-method"
refused_word NoToken = codes "no-token"
refused_word NotARequest = codes "not-a-request"

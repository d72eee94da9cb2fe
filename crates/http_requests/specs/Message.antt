-- The bytes of a response, and the numbers and texts that they are made of.
use Rattle.std.specs.Prelude.{ℕ, List, [], ◌∷◌, length, codes, decimal, unwrap_or}
use Rattle.std.specs.List.{flat_map}
use Rattle.http.specs.StatusCode.{code_digits, reason_phrase}
use Rattle.http_requests.specs.declared.message.ContentType.{ContentType}
use Rattle.http_requests.specs.declared.message.ContentType.TheVariants.{Json, PlainText}
use Rattle.http_requests.specs.declared.method.Method.{Method}
use Rattle.http_requests.specs.declared.method.Method.TheVariants.{Get, Post}
use Rattle.http_requests.specs.declared.method.Methods.{Methods}
use Rattle.http_requests.specs.declared.method.Methods.TheVariants as methods
use Rattle.http_requests.specs.declared.status.Status.{Status}
use Rattle.http_requests.specs.declared.status.Status.TheVariants.{Done, BadRequest, Forbidden}
use Rattle.http_requests.specs.declared.status.Status.TheVariants.{NotFound, MethodNotAllowed}
use Rattle.http_requests.specs.declared.status.Status.TheVariants.{PayloadTooLarge}
use Rattle.http_requests.specs.declared.status.Status.TheVariants.{ServiceUnavailable}

-- the end of a line
abbrev pub crlf : List ℕ
crlf = 13 ∷ 10 ∷ []

-- the texts one after another
abbrev pub joined : List (List ℕ) → List ℕ
joined = flat_map (λ text. text)

-- a method, as requests name it
abbrev pub method_text : Method → List ℕ
method_text Get = codes "GET"
method_text Post = codes "POST"

-- methods, as the field Allow names them (RFC 9110, section 10.2.1)
abbrev pub methods_text : Methods → List ℕ
methods_text methods.Get = codes "GET"
methods_text methods.Post = codes "POST"
methods_text methods.GetAndPost = codes "GET, POST"

-- the number of each status
abbrev pub code_of : Status → ℕ
code_of Done = 200
code_of BadRequest = 400
code_of Forbidden = 403
code_of NotFound = 404
code_of (MethodNotAllowed allowed) = 405
code_of PayloadTooLarge = 413
code_of ServiceUnavailable = 503

-- the reason phrase of a number, and nothing where it has none
unfoldable pub phrase_of : ℕ → List ℕ
phrase_of code = unwrap_or (reason_phrase code) []

-- the field that names the methods to use instead, in the one status that has it
abbrev pub allow_field : Status → List ℕ
allow_field (MethodNotAllowed allowed) = joined (codes "Allow: " ∷ methods_text allowed ∷ crlf ∷ [])
allow_field _ = []

-- the text of each type of a body
abbrev pub type_text : ContentType → List ℕ
type_text Json = codes "application/json"
type_text PlainText = codes "text/plain"

-- the status line, the fields, an empty line and the body, from the texts of their parts
unfoldable pub message_from : List ℕ → List ℕ → List ℕ → List ℕ → List ℕ → List ℕ → List ℕ
message_from code phrase allow kind body_length body = joined (
    codes "HTTP/1.1 " ∷ code ∷ codes " " ∷ phrase ∷ crlf
    ∷ allow
    ∷ codes "Content-Type: " ∷ kind ∷ crlf
    ∷ codes "Content-Length: " ∷ body_length ∷ crlf
    ∷ codes "Connection: close" ∷ crlf
    ∷ crlf
    ∷ body ∷ [])

-- the response with this status and this body
abbrev pub message_of : Status → ContentType → List ℕ → List ℕ
message_of status kind body =
    message_from (code_digits (code_of status)) (phrase_of (code_of status))
    (allow_field status) (type_text kind) (decimal (length body)) body

-- What the fields of a head say.
use Rattle.std.specs.Prelude.{ℕ, Bool, true, false, ◌&&◌, ◌==◌, not, List, [], ◌∷◌, map, filter}
use Rattle.std.specs.Prelude.{take, drop, nat_le, Option, Some, None, Result, Ok, Err}
use Rattle.std.specs.Prelude.{if◌then◌else◌, codes, bytes_eq, ⊤}
use Rattle.std.specs.Char.{to_ascii_lowercase}
use Rattle.std.specs.Str.Parse.{digits_value}
use Rattle.httparse.specs.Spans.{IsWithin, span_bytes}
use Rattle.office_words.specs.Words.{is_token}
use Rattle.http_requests.specs.Numbers.{is_number}
use Rattle.http_requests.specs.declared.field.Found.{Found}
use Rattle.http_requests.specs.declared.field.Found.TheVariants.{Absent, One, Several}
use Rattle.http_requests.specs.declared.length.TheConstants.{MAX_BODY}
use Rattle.http_requests.specs.declared.refusal.Refusal.{Refusal}
use Rattle.http_requests.specs.declared.refusal.Refusal.TheVariants.{BadHost, TransferEncoding}
use Rattle.http_requests.specs.declared.refusal.Refusal.TheVariants.{BadLength, TooLarge}

-- a field's name and its value
abbrev pub Pair : Type 0
Pair = List ℕ × List ℕ

-- two texts are the same but for the case of their letters, as names of fields are (RFC 9110,
-- section 5.1)
abbrev pub same_in_any_case : List ℕ → List ℕ → Bool
same_in_any_case a b = bytes_eq (map to_ascii_lowercase a) (map to_ascii_lowercase b)

-- the field has this name, in any case
abbrev pub is_named : List ℕ → Pair → Bool
is_named name pair = same_in_any_case pair.0 name

-- the values of the fields of this name, in order
abbrev pub all_values : List ℕ → List Pair → List (List ℕ)
all_values name pairs = map (λ pair. pair.1) (filter (is_named name) pairs)

-- no value, one, or more
pub data Values : Type 0 where
  absent : Values
  one : List ℕ → Values
  several : Values

abbrev pub values_as : List (List ℕ) → Values
values_as [] = absent
values_as (v ∷ []) = one v
values_as (v ∷ w ∷ rest) = several

-- what the fields of this name say
abbrev pub values_of : List ℕ → List Pair → Values
values_of name pairs = values_as (all_values name pairs)

-- the values with one more
abbrev pub next : Values → List ℕ → Values
next absent v = one v
next (one w) v = several
next several v = several

-- the value that a span covers
abbrev pub shown : List ℕ → Found → Values
shown bytes Absent = absent
shown bytes (One span) = one (span_bytes bytes span)
shown bytes Several = several

-- the value lies in the first n bytes
abbrev pub IsFoundWithin : ℕ → Found → Type 0
IsFoundWithin n Absent = ⊤
IsFoundWithin n (One span) = IsWithin n span
IsFoundWithin n Several = ⊤

-- the most bytes that a body may have
abbrev pub most_body : ℕ
most_body = MAX_BODY

abbrev pub length_of_text : List ℕ → Result ℕ Refusal
length_of_text v = if is_number v
    then (if nat_le (digits_value 10 v) most_body then Ok (digits_value 10 v) else Err TooLarge)
    else Err BadLength

-- the length of the body that the Content-Length fields announce (RFC 9110, section 8.6)
abbrev pub body_length : Values → Result ℕ Refusal
body_length absent = Ok 0
body_length (one v) = length_of_text v
body_length several = Err BadLength

-- not at most one Host field, or none in version 1.1 (RFC 9112, section 3.2)
abbrev pub is_bad_host : ℕ → Values → Bool
is_bad_host minor absent = minor == 1
is_bad_host minor (one v) = false
is_bad_host minor several = true

abbrev pub is_absent : Values → Bool
is_absent absent = true
is_absent (one v) = false
is_absent several = false

-- what the fields of a head of this minor version come to: the length of the body, or the first
-- refusal
abbrev pub judge_fields : ℕ → List Pair → Result ℕ Refusal
judge_fields minor pairs =
    if is_bad_host minor (values_of (codes "host") pairs) then Err BadHost
    else (if not (is_absent (values_of (codes "transfer-encoding") pairs)) then Err TransferEncoding
    else body_length (values_of (codes "content-length") pairs))

-- whether the value begins with the scheme Bearer, in any case, and one space
abbrev pub is_bearer : List ℕ → Bool
is_bearer v = same_in_any_case (take 7 v) (codes "Bearer ")

-- the token after the scheme and its space (RFC 9110, sections 11.4 and 11.6.2)
abbrev pub token_in : List ℕ → Option (List ℕ)
token_in v = if is_bearer v && is_token (drop 7 v) then Some (drop 7 v) else None

-- the token that the Authorization fields show
abbrev pub shown_token : Values → Option (List ℕ)
shown_token absent = None
shown_token (one v) = token_in v
shown_token several = None

-- What the bytes of a head come to.
use Rattle.std.specs.Prelude.{◌≡◌, ◌⊎◌, ◌≤◌, ℕ, List, [], length, map, codes, Result, Ok, Err}
use Rattle.httparse.specs.Grammar.{ReadsRequest, RequestHead}
use Rattle.httparse.specs.Spans.{IsWithin, name_and_value, span_bytes}
use Rattle.http_requests.specs.Fields.{IsFoundWithin, Pair, judge_fields, shown, values_of}
use Rattle.http_requests.specs.declared.head.Head.{Head}
use Rattle.http_requests.specs.declared.refusal.Refusal.{Refusal}
use Rattle.http_requests.specs.declared.refusal.Refusal.TheVariants.{BadHead}

-- the bytes are this head, of at most 64 fields, and nothing else
abbrev pub IsHeadOf : List ℕ → RequestHead → Type 0
IsHeadOf bytes h = ReadsRequest bytes h [] × (length h.fields ≤ 64)

abbrev pub HasNoHead : List ℕ → Type 0
HasNoHead bytes = (h : RequestHead) → IsHeadOf bytes h → ⊥

-- the names and the values of a head's fields
abbrev pub fields_of : RequestHead → List Pair
fields_of h = map name_and_value h.fields

-- each part of the head lies in the first n bytes
abbrev pub IsHeadWithin : ℕ → Head → Type 0
IsHeadWithin n head =
    IsWithin n head.method × IsWithin n head.target × IsFoundWithin n head.authorization

-- the parts are those of the head that was read
abbrev pub HasPartsOf : List ℕ → RequestHead → Head → Type 0
HasPartsOf bytes h head =
    (span_bytes bytes head.method ≡ h.method) × (span_bytes bytes head.target ≡ h.target)
    × (shown bytes head.authorization ≡ values_of (codes "authorization") (fields_of h))

-- the answer to a head that was read
abbrev pub IsAnswerTo : List ℕ → RequestHead → Result Head Refusal → Type 0
IsAnswerTo bytes h (Ok head) =
    (judge_fields h.minor (fields_of h) ≡ Ok head.length) × HasPartsOf bytes h head
IsAnswerTo bytes h (Err refusal) = judge_fields h.minor (fields_of h) ≡ Err refusal

-- the bytes are a head and this is the answer to it, or they are none
abbrev pub Answers : List ℕ → Result Head Refusal → Type 0
Answers bytes r = ((h : RequestHead) × IsHeadOf bytes h × IsAnswerTo bytes h r)
    ⊎ (HasNoHead bytes × (r ≡ Err BadHead))

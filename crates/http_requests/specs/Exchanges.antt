-- What the bytes of an exchange ask.
use Rattle.std.specs.Prelude.{◌≡◌, ◌⊎◌, ◌<◌, ◌≤◌, ℕ, List, length, take, drop, nat_lt, codes}
use Rattle.std.specs.Prelude.{Option, Some, None, Result, Ok, Err, if◌then◌else◌}
use Rattle.httparse.specs.Grammar.{RequestHead}
use Rattle.json_requests.specs.Plain.{PlainAsk, PlainRequest}
use Rattle.http_requests.specs.Asks.{asked_of}
use Rattle.http_requests.specs.Ends.{IsHeadEnd, HasNoEnd, most_head}
use Rattle.http_requests.specs.Fields.{judge_fields, shown_token, values_of}
use Rattle.http_requests.specs.Heads.{IsHeadOf, HasNoHead, fields_of}
use Rattle.http_requests.specs.Targets.{answer_of, resource_of}
use Rattle.http_requests.specs.declared.refusal.Refusal.{Refusal}
use Rattle.http_requests.specs.declared.refusal.Refusal.TheVariants.{HeadTooLong, BadHead, NoToken}
use Rattle.http_requests.specs.declared.refusal.Refusal.TheVariants.{NotARequest}
use Rattle.http_requests.specs.declared.route.Route.{Route}

-- what the bytes of an exchange come to: a request, a refusal, or nothing, where they end too soon
pub data Exchange : Type 0 where
  asks : PlainRequest → Exchange
  refused : Refusal → Exchange
  ended : Exchange

-- ---- by the steps in their order, of a head and the bytes behind it

-- a body of its form asks
abbrev pub with_body : List ℕ → Option PlainAsk → Exchange
with_body token None = refused NotARequest
with_body token (Some ask) = asks (record { token = token; ask = ask })

-- a token was shown, and the body has its length
abbrev pub with_token : List ℕ → Route → ℕ → Option (List ℕ) → Exchange
with_token rest route size None = refused NoToken
with_token rest route size (Some token) =
    if nat_lt (length rest) size then ended else with_body token (asked_of route (take size rest))

-- the target has a route, and the method is the route's
abbrev pub with_route : List ℕ → ℕ → Option (List ℕ) → Result Route Refusal → Exchange
with_route rest size token (Err refusal) = refused refusal
with_route rest size token (Ok route) = with_token rest route size token

-- the token that a head shows
abbrev pub token_of : RequestHead → Option (List ℕ)
token_of h = shown_token (values_of (codes "authorization") (fields_of h))

-- the fields are of their form, and announce a body that is read
abbrev pub with_fields : RequestHead → List ℕ → Result ℕ Refusal → Exchange
with_fields h rest (Err refusal) = refused refusal
with_fields h rest (Ok size) =
    with_route rest size (token_of h) (answer_of h.method (resource_of h.target))

-- what a head and the bytes behind it come to
abbrev pub exchange_of : RequestHead → List ℕ → Exchange
exchange_of h rest = with_fields h rest (judge_fields h.minor (fields_of h))

-- ---- of all bytes

-- the bytes of a head, or of none, come to this with the bytes behind them
abbrev pub IsOfHead : List ℕ → List ℕ → Exchange → Type 0
IsOfHead head rest exchange =
    ((h : RequestHead) × IsHeadOf head h × (exchange ≡ exchange_of h rest))
    ⊎ (HasNoHead head × (exchange ≡ refused BadHead))

-- the bytes come to this: their head ends, or it doesn't within the bytes that a head may
-- have, or they end before
abbrev pub IsExchange : List ℕ → Exchange → Type 0
IsExchange bytes exchange =
    ((n : ℕ) × IsHeadEnd bytes n × IsOfHead (take n bytes) (drop n bytes) exchange)
    ⊎ (HasNoEnd bytes × (most_head ≤ length bytes) × (exchange ≡ refused HeadTooLong))
    ⊎ (HasNoEnd bytes × (length bytes < most_head) × (exchange ≡ ended))

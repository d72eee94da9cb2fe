-- What was read of a stream, and what it came to.
use Rattle.std.specs.Prelude.{◌≡◌, ◌<◌, ◌≤◌, ◌+◌, ℕ, List, ◌++◌, length, take, drop, Option, Some}
use Rattle.std.specs.Prelude.{None, Result, Ok, Err}
use Rattle.std.specs.Io.KnownBytes.{Consumes, IsAtEnd}
use Rattle.streams.specs.Counts.{one_more}
use Rattle.streams.specs.Filled.{EndsAfter}
use Rattle.streams.specs.Some.{some_count}
use Rattle.streams.specs.declared.some.SomeRead.{SomeRead}
use Rattle.streams.specs.declared.unread.Unread.TheVariants.{Failed, TooManyReads, NoMemory}
use Rattle.review_policy.specs.declared.ask.Request.{Request}
use Rattle.json_requests.specs.Plain.{plain}
use Rattle.json_requests.specs.declared.fault.LineFault.{LineFault}
use Rattle.json_requests.specs.declared.fault.LineFault.TheVariants as fault
use Rattle.http_requests.specs.Ends.{IsHeadEnd}
use Rattle.http_requests.specs.Exchanges.{Exchange, asks, refused, ended, IsExchange}
use Rattle.http_requests.specs.declared.head_bytes.HeadBytes.{HeadBytes}
use Rattle.http_requests.specs.declared.refusal.Refusal.{Refusal}
use Rattle.http_requests.specs.declared.refusal.Refusal.TheVariants.{NoToken, NotARequest}
use Rattle.http_requests.specs.declared.route.Route.{Route}
use Rattle.http_requests.specs.declared.unheard.Unheard.{Unheard}
use Rattle.http_requests.specs.declared.unheard.Unheard.TheVariants.{Refused, Ended, Unread}

-- what bytes come to
abbrev pub Comes : Type 1
Comes = List ℕ → Exchange → Type 0

module _ (before after : Option (List ℕ)) where
  -- bytes were read that come to this, and no others were
  abbrev pub HasCome : Comes → Exchange → Type 0
  HasCome Come exchange = (bytes : List ℕ) × Consumes before after bytes × Come bytes exchange

  -- the bytes that were read are refused so. Or they are too few: the stream ended after them, its
  -- reader failed, or was called too often. Where memory is lacking nothing is said
  abbrev pub IsUnheard : Comes → Unheard → Type 0
  IsUnheard Come (Refused why) = HasCome Come (refused why)
  IsUnheard Come Ended = HasCome Come ended × IsAtEnd after
  IsUnheard Come (Unread Failed) = HasCome Come ended
  IsUnheard Come (Unread TooManyReads) = HasCome Come ended
  IsUnheard Come (Unread (NoMemory _)) = Unit {0}

  -- the bytes that were read ask this request, or there is none
  abbrev pub IsHeard : Comes → Result Request Unheard → Type 0
  IsHeard Come (Ok request) = HasCome Come (asks (plain request))
  IsHeard Come (Err e) = IsUnheard Come e

  -- the bytes that were read have a head, or there is no request
  abbrev pub HasHead : Result HeadBytes Unheard → Type 0
  HasHead (Ok head) = Consumes before after head.bytes.items × IsHeadEnd head.bytes.items head.end
  HasHead (Err e) = IsUnheard IsExchange e

  -- some bytes were read into a buffer, behind those that are kept at its front
  pub record ReadsBehind (kept : ℕ) (old new : List ℕ) (read : SomeRead) : Type 0 where
    pub same_length : length new ≡ length old
    pub same_front : take kept new ≡ take kept old
    pub fits : kept + some_count read ≤ length old
    pub bytes : Consumes before after (take (some_count read) (drop kept new))
    pub at_end : EndsAfter after read

  -- the buffer is full, behind the bytes that are kept at its front
  pub record IsFilled (kept : ℕ) (old new : List ℕ) : Type 0 where
    pub same_length : length new ≡ length old
    pub same_front : take kept new ≡ take kept old
    pub bytes : Consumes before after (drop kept new)

  -- fewer bytes came than there is room for
  abbrev pub FillsPart : ℕ → List ℕ → Type 0
  FillsPart kept old =
      (more : List ℕ) × Consumes before after more × (kept + length more < length old)

  -- the buffer is full; or the stream ended before, or couldn't be read
  abbrev pub Fills : {X : Type 0} → ℕ → List ℕ → List ℕ → Result X Unheard → Type 0
  Fills kept old new (Ok x) = IsFilled kept old new
  Fills kept old new (Err Ended) = FillsPart kept old × IsAtEnd after
  Fills kept old new (Err (Unread Failed)) = FillsPart kept old
  Fills kept old new (Err (Unread TooManyReads)) = FillsPart kept old
  Fills kept old new (Err _) = ⊥

  -- the body is the first bytes of those that were read before and of these
  abbrev pub IsBody : List ℕ → ℕ → List ℕ → Type 0
  IsBody front size body = (more : List ℕ) × Consumes before after more
      × (size ≤ length (front ++ more)) × (body ≡ take size (front ++ more))

  -- the bytes that were read, before and now, are fewer than the body's
  abbrev pub TooFew : List ℕ → ℕ → Type 0
  TooFew front size = (more : List ℕ) × Consumes before after more × (length (front ++ more) < size)

  -- the body has too few bytes, since the stream ended, or couldn't be read
  abbrev pub LacksBody : List ℕ → ℕ → Unheard → Type 0
  LacksBody front size Ended = TooFew front size × IsAtEnd after
  LacksBody front size (Refused why) = ⊥
  LacksBody front size (Unread Failed) = TooFew front size
  LacksBody front size (Unread TooManyReads) = TooFew front size
  LacksBody front size (Unread (NoMemory _)) = Unit {0}

  -- the body is there, or too few bytes are
  abbrev pub HasBody : {X : Type 0} → (X → List ℕ) → List ℕ → ℕ → Result X Unheard → Type 0
  HasBody view front size (Ok body) = IsBody front size (view body)
  HasBody view front size (Err e) = LacksBody front size e

-- the route is the answer's; else its refusal is
abbrev pub HasRoute : Result Route Refusal → Result Route Unheard → Type 0
HasRoute answer (Ok route) = answer ≡ Ok route
HasRoute answer (Err (Refused why)) = answer ≡ Err why
HasRoute answer (Err (Unread (NoMemory _))) = Unit {0}
HasRoute answer (Err _) = ⊥

-- the token is the one that is shown; else none is
abbrev pub HasToken : Option (List ℕ) → Result (List ℕ) Unheard → Type 0
HasToken shown (Ok token) = shown ≡ Some token
HasToken shown (Err (Refused NoToken)) = shown ≡ None
HasToken shown (Err (Unread (NoMemory _))) = Unit {0}
HasToken shown (Err _) = ⊥

-- one call failed just where that is reported, and there were as many calls as are allowed
-- where that is
abbrev pub HearCounts : {X : Type 0} → (calls calls_after most faults faults_after : ℕ)
    → Result X Unheard → Type 0
HearCounts calls calls_after most faults faults_after (Ok x) = faults_after ≡ faults
HearCounts calls calls_after most faults faults_after (Err (Refused why)) = faults_after ≡ faults
HearCounts calls calls_after most faults faults_after (Err Ended) = faults_after ≡ faults
HearCounts calls calls_after most faults faults_after (Err (Unread Failed)) =
    faults_after ≡ one_more faults
HearCounts calls calls_after most faults faults_after (Err (Unread TooManyReads)) =
    (calls_after ≡ most) × (faults_after ≡ faults)
HearCounts calls calls_after most faults faults_after (Err (Unread (NoMemory _))) =
    faults_after ≡ faults

-- a body that asks nothing
abbrev pub of_line_fault : LineFault → Unheard
of_line_fault fault.NotJson = Refused NotARequest
of_line_fault fault.NotARequest = Refused NotARequest
of_line_fault (fault.NoMemory memory) = Unread (NoMemory memory)

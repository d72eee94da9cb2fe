-- What the parts of a request come to together.
use Rattle.std.proofs.Common.{◌≡◌, ℕ, List, [], ◌++◌, take, drop, Option, Some, Result, Ok, Err, IsUtf8, inl, inr, refl, sym, subst}
use Rattle.std.proofs.KnownBytes.{Consumes-nil, Consumes-trans}
use Rattle.std.proofs.lemmas.Bool.{lt-ltb, le-ltb}
use Rattle.std.proofs.lemmas.List.{take-append-le, drop-append-le}
use Rattle.std.specs.Io.KnownBytes.{Consumes}
use Rattle.httparse.specs.Grammar.{RequestHead}
use Rattle.httparse.specs.Spans.{span_bytes}
use Rattle.streams.specs.declared.unread.Unread.TheVariants.{Failed, TooManyReads, NoMemory}
use Rattle.review_policy.specs.declared.ask.Request.{Request}
use Rattle.json_requests.specs.Faults.{Lacks}
use Rattle.json_requests.specs.Plain.{PlainAsk}
use Rattle.json_requests.specs.declared.fault.LineFault.{LineFault}
use Rattle.json_requests.specs.declared.fault.LineFault.TheVariants as fault
use Rattle.http_requests.specs.Asks.{asked_of}
use Rattle.http_requests.specs.Ends.{IsHeadEnd}
use Rattle.http_requests.specs.Exchanges.{Exchange, asks, refused, ended, with_route, IsExchange, IsOfHead}
use Rattle.http_requests.specs.Fields.{shown, shown_token}
use Rattle.http_requests.specs.Heads.{Answers, IsHeadOf, IsAnswerTo}
use Rattle.http_requests.specs.Heard.{HasCome, HasRoute, HasToken, IsBody, IsHeard, IsUnheard, LacksBody, TooFew, of_line_fault}
use Rattle.http_requests.specs.Targets.{answer_of, resource_of}
use Rattle.http_requests.specs.declared.head.Head.{Head}
use Rattle.http_requests.specs.declared.refusal.Refusal.{Refusal}
use Rattle.http_requests.specs.declared.refusal.Refusal.TheVariants.{HeadTooLong, BadHead, BadHost, TransferEncoding, BadLength, TooLarge, NoRoute, WrongMethod, NoToken, NotARequest}
use Rattle.http_requests.specs.declared.route.Route.{Route}
use Rattle.http_requests.specs.declared.unheard.Unheard.{Unheard}
use Rattle.http_requests.specs.declared.unheard.Unheard.TheVariants.{Refused, Ended, Unread}
use Rattle.http_requests.proofs.HeadFacts.{head_end_stays}

-- the head that was read
pub record IsRead (bytes : List ℕ) (head : Head) : Type 0 where
  pub grammar : RequestHead
  pub head_of : IsHeadOf bytes grammar
  pub answer : IsAnswerTo bytes grammar (Ok head)

abbrev failed : Refusal → Result Head Refusal
failed why = Err why

same_refusal : (a b : Refusal) → failed a ≡ failed b → refused a ≡ refused b
same_refusal a b e = cc

-- no head was read
pub head_left : (before : Option (List ℕ)) (bytes front : List ℕ) (why : Refusal) → Answers bytes (Err why)
    → IsUnheard before before (λ more. IsOfHead bytes (front ++ more)) (Refused why)
head_left before bytes front why (inl (h, of, answer)) = ([], Consumes-nil before, inl (h, of, rw answer refl))
head_left before bytes front why (inr (none, is)) = ([], Consumes-nil before, inr (none, same_refusal why BadHead is))

pub head_read : (bytes : List ℕ) (head : Head) → Answers bytes (Ok head) → IsRead bytes head
head_read bytes head (inl (h, of, answer)) = record { grammar = h; head_of = of; answer = answer }
head_read bytes head (inr (none, wrong)) = absurd cc

module _ (bytes : List ℕ) (head : Head) where
  -- the answer to the method and the target of a head
  abbrev pub answered : Result Route Refusal
  answered = answer_of (span_bytes bytes head.method) (resource_of (span_bytes bytes head.target))

  -- the token that it shows
  abbrev pub token_shown : Option (List ℕ)
  token_shown = shown_token (shown bytes head.authorization)

  -- its target is text
  pub target_text : IsRead bytes head → IsUtf8 (span_bytes bytes head.target)
  target_text r = rw r.answer.1.1 r.head_of.0.0.target_text

  -- what it comes to with the bytes behind it
  pub comes : (rest : List ℕ) (x : Exchange) → IsRead bytes head → x ≡ with_route rest head.length token_shown answered → IsOfHead bytes rest x
  comes rest x r e = inl (r.grammar, r.head_of, rw (r.answer.0, sym r.answer.1.0, sym r.answer.1.1, sym r.answer.1.2) e)

  module _ (before : Option (List ℕ)) (front : List ℕ) (r : IsRead bytes head) where
    -- its target or its method is refused
    pub route_left : (e : Unheard) → HasRoute answered (Err e) → IsUnheard before before (λ more. IsOfHead bytes (front ++ more)) e
    route_left (Refused why) has = ([], Consumes-nil before, comes (front ++ []) (refused why) r (rw has refl))
    route_left Ended has = absurd has
    route_left (Unread Failed) has = absurd has
    route_left (Unread TooManyReads) has = absurd has
    route_left (Unread (NoMemory _)) has = tt

    module _ (route : Route) (routed : answered ≡ Ok route) where
      -- it shows no token
      pub token_left : (e : Unheard) → HasToken token_shown (Err e) → IsUnheard before before (λ more. IsOfHead bytes (front ++ more)) e
      token_left (Refused NoToken) has = ([], Consumes-nil before, comes (front ++ []) (refused NoToken) r (rw (routed, has) refl))
      token_left (Refused HeadTooLong) has = absurd has
      token_left (Refused BadHead) has = absurd has
      token_left (Refused BadHost) has = absurd has
      token_left (Refused TransferEncoding) has = absurd has
      token_left (Refused BadLength) has = absurd has
      token_left (Refused TooLarge) has = absurd has
      token_left (Refused NoRoute) has = absurd has
      token_left (Refused (WrongMethod method)) has = absurd has
      token_left (Refused NotARequest) has = absurd has
      token_left Ended has = absurd has
      token_left (Unread Failed) has = absurd has
      token_left (Unread TooManyReads) has = absurd has
      token_left (Unread (NoMemory _)) has = tt

      module _ (token : List ℕ) (shows : token_shown ≡ Some token) (after : Option (List ℕ)) where
        -- its body is too short
        too_few : TooFew before after front head.length → HasCome before after (λ more. IsOfHead bytes (front ++ more)) ended
        too_few (more, read, short) = (more, read, comes (front ++ more) ended r (rw (routed, shows, lt-ltb _ _ short) refl))

        pub body_left : (e : Unheard) → LacksBody before after front head.length e → IsUnheard before after (λ more. IsOfHead bytes (front ++ more)) e
        body_left (Refused why) has = absurd has
        body_left Ended (few, at_end) = (too_few few, at_end)
        body_left (Unread Failed) few = too_few few
        body_left (Unread TooManyReads) few = too_few few
        body_left (Unread (NoMemory _)) has = tt

        module _ (body : List ℕ) (has : IsBody before after front head.length body) where
          -- its body asks nothing
          pub ask_left : (e : LineFault) → Lacks e (asked_of route body)
              → IsUnheard before after (λ more. IsOfHead bytes (front ++ more)) (of_line_fault e)
          ask_left fault.NotJson lacks = absurd lacks
          ask_left fault.NotARequest lacks =
              (has.0, has.1, comes (front ++ has.0) (refused NotARequest) r (rw (routed, shows, le-ltb _ _ has.2, sym has.3, lacks) refl))
          ask_left (fault.NoMemory _) lacks = tt

          -- it asks this
          pub asks_this : (ask : PlainAsk) → asked_of route body ≡ Some ask
              → HasCome before after (λ more. IsOfHead bytes (front ++ more)) (asks (record { token = token; ask = ask }))
          asks_this ask is =
              (has.0, has.1, comes (front ++ has.0) (asks (record { token = token; ask = ask })) r (rw (routed, shows, le-ltb _ _ has.2, sym has.3, is) refl))

-- the answer to a method and a target, by their bytes
pub routed_at : (method method' target target' : List ℕ) (result : Result Route Unheard) → method ≡ method' → target ≡ target'
    → (IsUtf8 target → HasRoute (answer_of method (resource_of target)) result) → IsUtf8 target' → HasRoute (answer_of method' (resource_of target')) result
routed_at method method' target target' result same_method same_target has =
    subst (λ (t : List ℕ). IsUtf8 t → HasRoute (answer_of method' (resource_of t)) result) same_target
    (subst (λ (m : List ℕ). IsUtf8 target → HasRoute (answer_of m (resource_of target)) result) same_method has)

-- ---- with the bytes of the head

module _ (before mid after : Option (List ℕ)) (bytes : List ℕ) (n : ℕ) (read : Consumes before mid bytes) (ends : IsHeadEnd bytes n) where
  come_on : (x : Exchange) → HasCome mid after (λ more. IsOfHead (take n bytes) (drop n bytes ++ more)) x → HasCome before after IsExchange x
  come_on x (more, behind, of) = (
    bytes ++ more,
    Consumes-trans before mid after bytes more read behind,
    inl (n, head_end_stays bytes more n ends, rw (take-append-le n bytes more ends.0, drop-append-le n bytes more ends.0) of),
  )

  unheard_on : (e : Unheard) → IsUnheard mid after (λ more. IsOfHead (take n bytes) (drop n bytes ++ more)) e → IsUnheard before after IsExchange e
  unheard_on (Refused why) come = come_on (refused why) come
  unheard_on Ended (come, at_end) = (come_on ended come, at_end)
  unheard_on (Unread Failed) come = come_on ended come
  unheard_on (Unread TooManyReads) come = come_on ended come
  unheard_on (Unread (NoMemory _)) come = tt

  pub heard_on : (result : Result Request Unheard) → IsHeard mid after (λ more. IsOfHead (take n bytes) (drop n bytes ++ more)) result
      → IsHeard before after IsExchange result
  heard_on (Ok request) come = come_on (asks _) come
  heard_on (Err e) come = unheard_on e come

-- What bytes come to is one thing, and stays it whatever follows.
use Rattle.std.proofs.Common.{◌≡◌, ◌≢◌, ◌∙◌, ◌<◌, ℕ, List, [], ◌++◌, length, take, drop, Option, Some, None, Result, Ok, Err, inl, inr, refl, sym, ap, subst, arith, length-append}
use Rattle.std.proofs.lemmas.Bool.{cases_lt, lt-ltb, le-ltb, false≢true}
use Rattle.std.proofs.lemmas.List.{take-append-le, drop-append-le}
use Rattle.httparse.specs.Grammar.{RequestHead}
use Rattle.httparse.proofs.GrammarLemmas.{request_unique}
use Rattle.http_requests.specs.Ends.{HasNoEnd, IsHeadEnd}
use Rattle.http_requests.specs.Exchanges.{Exchange, ended, exchange_of, token_of, with_fields, with_route, with_token, IsExchange, IsOfHead}
use Rattle.http_requests.specs.Fields.{judge_fields}
use Rattle.http_requests.specs.Heads.{fields_of}
use Rattle.http_requests.specs.Targets.{answer_of, resource_of}
use Rattle.http_requests.specs.declared.refusal.Refusal.{Refusal}
use Rattle.http_requests.specs.declared.route.Route.{Route}
use Rattle.http_requests.proofs.HeadFacts.{end_stays, head_end_stays}

-- ---- one outcome

-- a head doesn't end before its end
no_sooner : (bytes : List ℕ) (n m : ℕ) → IsHeadEnd bytes n → IsHeadEnd bytes m → n < m → ⊥
no_sooner bytes n m first second before = false≢true (sym (second.3 n before) ∙ first.2)

one_end : (bytes : List ℕ) (n m : ℕ) → IsHeadEnd bytes n → IsHeadEnd bytes m → n ≡ m
one_end bytes n m first second =
    elim (cases_lt n m) as (λ _. n ≡ m) [
      | inl before ↦ absurd (no_sooner bytes n m first second before)
      | inr from ↦ elim (cases_lt m n) as (λ _. n ≡ m) [
        | inl after ↦ absurd (no_sooner bytes m n second first after)
        | inr to ↦ omega (arith, from, to)
      ]
    ]

-- a head that ends, and none
ends_somewhere : (bytes : List ℕ) (n : ℕ) → IsHeadEnd bytes n → HasNoEnd bytes → ⊥
ends_somewhere bytes n ends none = false≢true (sym (none n ends.0 ends.1) ∙ ends.2)

one_of_head : (head rest : List ℕ) (x y : Exchange) → IsOfHead head rest x → IsOfHead head rest y → x ≡ y
one_of_head head rest x y (inl (h, of, is)) (inl (k, reads, same)) =
    is ∙ ap (λ (g : RequestHead). exchange_of g rest) (request_unique head h k [] [] of.0 reads.0).0 ∙ sym same
one_of_head head rest x y (inl (h, of, is)) (inr (none, same)) = absurd (none h of)
one_of_head head rest x y (inr (none, is)) (inl (k, reads, same)) = absurd (none k reads)
one_of_head head rest x y (inr (none, is)) (inr (still, same)) = is ∙ sym same

pub one_exchange : (bytes : List ℕ) (x y : Exchange) → IsExchange bytes x → IsExchange bytes y → x ≡ y
one_exchange bytes x y (inl (n, ends, of)) (inl (m, stops, reads)) =
    one_of_head (take m bytes) (drop m bytes) x y
    (subst (λ (k : ℕ). IsOfHead (take k bytes) (drop k bytes) x) (one_end bytes n m ends stops) of) reads
one_exchange bytes x y (inl (n, ends, of)) (inr (inl (none, long, same))) = absurd (ends_somewhere bytes n ends none)
one_exchange bytes x y (inl (n, ends, of)) (inr (inr (none, short, same))) = absurd (ends_somewhere bytes n ends none)
one_exchange bytes x y (inr (inl (none, long, is))) (inl (m, stops, reads)) = absurd (ends_somewhere bytes m stops none)
one_exchange bytes x y (inr (inr (none, short, is))) (inl (m, stops, reads)) = absurd (ends_somewhere bytes m stops none)
one_exchange bytes x y (inr (inl (none, long, is))) (inr (inl (still, far, same))) = is ∙ sym same
one_exchange bytes x y (inr (inr (none, short, is))) (inr (inr (still, few, same))) = is ∙ sym same
one_exchange bytes x y (inr (inl (none, long, is))) (inr (inr (still, few, same))) = absurd (omega (arith, long, few))
one_exchange bytes x y (inr (inr (none, short, is))) (inr (inl (still, far, same))) = absurd (omega (arith, short, far))

-- ---- what follows

module _ (rest more : List ℕ) where
  token_stays : (route : Route) (size : ℕ) (token : Option (List ℕ)) → with_token rest route size token ≢ ended
      → with_token (rest ++ more) route size token ≡ with_token rest route size token
  token_stays route size None whole = refl
  token_stays route size (Some token) whole =
      elim (cases_lt (length rest) size) as (λ _. with_token (rest ++ more) route size (Some token) ≡ with_token rest route size (Some token)) [
        | inl short ↦ absurd (whole (rw (lt-ltb (length rest) size short) refl))
        | inr enough ↦
            rw (le-ltb (length rest) size enough, le-ltb (length (rest ++ more)) size (omega (arith, enough, length-append rest more)), take-append-le size rest more enough) refl
      ]

  route_stays : (size : ℕ) (token : Option (List ℕ)) (answer : Result Route Refusal) → with_route rest size token answer ≢ ended
      → with_route (rest ++ more) size token answer ≡ with_route rest size token answer
  route_stays size token (Err why) whole = refl
  route_stays size token (Ok route) whole = token_stays route size token whole

  fields_stay : (h : RequestHead) (judged : Result ℕ Refusal) → with_fields h rest judged ≢ ended → with_fields h (rest ++ more) judged ≡ with_fields h rest judged
  fields_stay h (Err why) whole = refl
  fields_stay h (Ok size) whole = route_stays size (token_of h) (answer_of h.method (resource_of h.target)) whole

  of_head_stays : (head : List ℕ) (x : Exchange) → IsOfHead head rest x → x ≢ ended → IsOfHead head (rest ++ more) x
  of_head_stays head x (inl (h, of, is)) whole =
      inl (h, of, is ∙ sym (fields_stay h (judge_fields h.minor (fields_of h)) (λ early. whole (is ∙ early))))
  of_head_stays head x (inr none) whole = inr none

pub exchange_stays : (bytes more : List ℕ) (x : Exchange) → IsExchange bytes x → x ≢ ended → IsExchange (bytes ++ more) x
exchange_stays bytes more x (inl (n, ends, of)) whole =
    inl (n, head_end_stays bytes more n ends, rw (take-append-le n bytes more ends.0, drop-append-le n bytes more ends.0) (of_head_stays (drop n bytes) more (take n bytes) x of whole))
exchange_stays bytes more x (inr (inl (none, long, is))) whole =
    inr (inl (
      λ k within far. end_stays bytes more k (omega (arith, far, long)) ∙ none k (omega (arith, far, long)) far,
      omega (arith, long, length-append bytes more),
      is,
    ))
exchange_stays bytes more x (inr (inr (none, short, is))) whole = absurd (whole is)

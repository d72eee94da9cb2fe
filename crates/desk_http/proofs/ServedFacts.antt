-- What an exchange leaves, by the whole stream and after a crash.
use Rattle.std.proofs.Common.{◌≡◌, ◌≢◌, ◌∙◌, ℕ, List, [], ◌∷◌, ◌++◌, Option, Some, None, Result, Ok, Err, inl, inr, sym, ap, subst, append-nil}
use Rattle.review_policy.specs.declared.ask.Request.{Request}
use Rattle.review_policy.specs.declared.answer.Answer.{Answer}
use Rattle.office_policy.specs.History.{History}
use Rattle.office_policy.specs.Meaning.{Meaning}
use Rattle.office_policy.specs.Handled.{IsHandled, LeavesOnly}
use Rattle.office_policy.proofs.LeftFacts.{left_by_one, left_of_one}
use Rattle.json_requests.specs.Plain.{plain}
use Rattle.http_requests.specs.Exchanges.{Exchange, asks, refused, ended, IsExchange}
use Rattle.http_requests.specs.Heard.{HasCome}
use Rattle.http_requests.proofs.ExchangeFacts.{exchange_stays}
use Rattle.desk_http.specs.Served.{HasOutcome, HasOutcomeOf, IsServed, IsServedAs, IsServedOf, LeftByOne, StaysWhole}
use Rattle.desk_http.specs.declared.fault.HttpFault.{HttpFault}
use Rattle.desk_http.specs.declared.fault.HttpFault.TheVariants as fault
use Rattle.desk_http.specs.declared.outcome.ExchangeOutcome.{ExchangeOutcome}
use Rattle.desk_http.specs.declared.outcome.ExchangeOutcome.TheVariants.{Refused, NoMemory, Answered}
use Rattle.desk_http.specs.declared.served.Served.{Served}

-- by what follows from an outcome
served_as : (Has Then : Result ExchangeOutcome HttpFault → Type 0) → ((r : Result ExchangeOutcome HttpFault) → Has r → Then r) → (before after : Option (List ℕ)) (result : Result Served HttpFault)
    → IsServedAs Has before after result → IsServedAs Then before after result
served_as Has Then on before after result (inl (e, is, has, same)) = inl (e, is, on (Err e) has, same)
served_as Has Then on before after result (inr (outcome, has, told)) = inr (outcome, on (Ok outcome) has, told)

-- ---- the whole stream

-- what was read of it comes to what it comes to
comes_whole : (input left : List ℕ) (x : Exchange) → HasCome (Some input) (Some left) IsExchange x → x ≢ ended → IsExchange input x
comes_whole input left x (bytes, is, come) whole = subst (λ (all : List ℕ). IsExchange all x) (sym is) (exchange_stays bytes left x come whole)

ends_whole : (input left : List ℕ) → HasCome (Some input) (Some left) IsExchange ended → left ≡ [] → IsExchange input ended
ends_whole input left (bytes, is, come) none =
    subst (λ (all : List ℕ). IsExchange all ended) (sym (is ∙ ap (λ more. bytes ++ more) none ∙ append-nil bytes)) come

module _ (Same : Type 0) (Handled : Request → Answer → Type 0) where
  outcome_whole : (input : List ℕ) (rest : Option (List ℕ)) (r : Result ExchangeOutcome HttpFault) → HasOutcome Same Handled (Some input) rest r → HasOutcomeOf Same Handled input r
  outcome_whole input (Some left) (Ok (Refused why)) has = (comes_whole input left (refused why) has.0 (λ e. cc), has.1)
  outcome_whole input (Some left) (Ok (Answered request answer)) has = (comes_whole input left (asks (plain request)) has.0 (λ e. cc), has.1)
  outcome_whole input (Some left) (Err fault.Ended) has = (ends_whole input left has.0 has.1, has.2)
  outcome_whole input (Some left) (Err fault.Read) has = has.1
  outcome_whole input (Some left) (Err fault.TooManyReads) has = has.1
  outcome_whole input (Some left) (Err (fault.Write status want)) has = has
  outcome_whole input (Some left) (Err (fault.NoMemory status _)) has = has
  outcome_whole input (Some left) (Ok (NoMemory _)) has = has
  outcome_whole input None (Ok (Refused why)) has = absurd has.0.1
  outcome_whole input None (Ok (Answered request answer)) has = absurd has.0.1
  outcome_whole input None (Ok (NoMemory _)) has = has
  outcome_whole input None (Err fault.Ended) has = absurd has.0.1
  outcome_whole input None (Err fault.Read) has = has.1
  outcome_whole input None (Err fault.TooManyReads) has = has.1
  outcome_whole input None (Err (fault.Write status want)) has = has
  outcome_whole input None (Err (fault.NoMemory status _)) has = has

  pub served_whole : (unread rest before after : Option (List ℕ)) (result : Result Served HttpFault) → IsServed Same Handled unread rest before after result
      → IsServedOf Same Handled unread before after result
  served_whole None rest before after result served = tt
  served_whole (Some input) rest before after result served =
      served_as (HasOutcome Same Handled (Some input) rest) (HasOutcomeOf Same Handled input) (outcome_whole input rest) before after result served

-- ---- a crash

module _ {X : Type 0} (m : Meaning X) (old new : X) (h : History) (office : m.is_of h old) (only : LeavesOnly m h old) (clean : m.is_clean new) where
  stays_whole : new ≡ old → StaysWhole m h old new
  stays_whole same =
      let both : m.is_of h new × LeavesOnly m h new = subst (λ (x : X). m.is_of h x × LeavesOnly m h x) (sym same) (office, only) in
      (same, both.0, both.1)

  left_by : (request : Request) (answer : Answer) → IsHandled m old new request answer → LeftByOne m h old new request answer
  left_by request answer step = record {
    handled = step;
    answer_is = step.answer h office clean;
    office = step.office h office;
    left = λ left may. left_of_one m old h (request ∷ []) (answer ∷ []) left only
        (left_by_one m (m.may_leave old) old new h request answer step office clean (λ rest may. may) left may);
  }

  module _ (unread rest : Option (List ℕ)) where
    outcome_left : (r : Result ExchangeOutcome HttpFault) → HasOutcome (new ≡ old) (IsHandled m old new) unread rest r
        → HasOutcome (StaysWhole m h old new) (LeftByOne m h old new) unread rest r
    outcome_left (Ok (Refused why)) has = (has.0, stays_whole has.1)
    outcome_left (Ok (Answered request answer)) has = (has.0, left_by request answer has.1)
    outcome_left (Ok (NoMemory _)) has = stays_whole has
    outcome_left (Err fault.Ended) has = (has.0, has.1, stays_whole has.2)
    outcome_left (Err fault.Read) has = (has.0, stays_whole has.1)
    outcome_left (Err fault.TooManyReads) has = (has.0, stays_whole has.1)
    outcome_left (Err (fault.Write status want)) has = has
    outcome_left (Err (fault.NoMemory status _)) has = has

    pub served_left : (before after : Option (List ℕ)) (result : Result Served HttpFault) → IsServed (new ≡ old) (IsHandled m old new) unread rest before after result
        → IsServed (StaysWhole m h old new) (LeftByOne m h old new) unread rest before after result
    served_left before after result served =
        served_as (HasOutcome (new ≡ old) (IsHandled m old new) unread rest) (HasOutcome (StaysWhole m h old new) (LeftByOne m h old new) unread rest)
        outcome_left before after result served

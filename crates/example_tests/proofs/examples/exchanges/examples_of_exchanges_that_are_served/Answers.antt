use Rattle.std.proofs.Common.{◌≡◌, inl, inr, [], ◌∷◌, None, Some, Ok, Err, refl, sym, subst}
use Rattle.desk_http.specs.Served.{HasOutcome}
use Rattle.desk_http.specs.declared.fault.HttpFault.{HttpFault}
use Rattle.desk_http.specs.declared.fault.HttpFault.TheVariants as fault
use Rattle.desk_http.specs.declared.outcome.ExchangeOutcome.{ExchangeOutcome}
use Rattle.desk_http.specs.declared.outcome.ExchangeOutcome.TheVariants.{Answered, NoMemory, Refused}
use Rattle.example_tests.proofs.examples.exchanges.examples_of_exchanges_that_are_served.Goals as goal

pub returns-clause-unread : goal.returns-clause-unread
returns-clause-unread c = λ come. inl (fault.Read, refl, (come, tt), refl)

pub returns-clause-changed : goal.returns-clause-changed
returns-clause-changed c = λ served. elim served [
  | inl none ↦
      let k = none.1 in
      let same : fault.Read ≡ none.0 = cc in
      (subst (λ (e : HttpFault). HasOutcome ⊥ (λ request answer. Unit {0}) None None (Err e)) (sym same) none.2).1
  | inr done ↦ done.2
]

pub returns-clause-written : goal.returns-clause-written
returns-clause-written c = λ served. elim served [
  | inl none ↦ let k = none.3 in cc
  | inr done ↦ done.2
]

-- nothing was refused, answered, or had no memory
never : (outcome : ExchangeOutcome) → HasOutcome ⊥ (λ request answer. ⊥) None None (Ok outcome) → ⊥
never (Refused why) has = has.1
never (Answered request answer) has = has.1
never (NoMemory refused) has = has

pub returns-clause-unhandled : goal.returns-clause-unhandled
returns-clause-unhandled c = λ served is. elim is [
  | inl none ↦ let k = none.1 in cc
  | inr done ↦ never done.0 done.1
]

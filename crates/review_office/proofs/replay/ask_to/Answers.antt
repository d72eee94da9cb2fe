use Rattle.std.proofs.Common.{◌≡◌, ◌∙◌, sym, ap, subst}
use Rattle.review_policy.specs.declared.ask.Ask.TheVariants as ask
use Rattle.office_policy.specs.History.{did}
use Rattle.review_office.specs.Replayed.{IsAskOf}
use Rattle.review_office.proofs.replay.ask_to.Goals as goal

pub returns-in_ok-from_slice-in-Submit-clause-ask : goal.returns-in_ok-from_slice-in-Submit-clause-ask
returns-in_ok-from_slice-in-Submit-clause-ask c = λ caller.
    let document = c.in_ok-from_slice-in-Submit.field-0 in
    let same : c.in_ok-named-in-Submit.field-0 ≡ c.in-Submit.name = c.in_ok-named-in-Submit.ensures.same in
    subst (λ deed. IsAskOf (did caller deed) (ask.Submit c.in_ok-named-in-Submit.field-0 document)) (sym c.in-Submit.is)
    (document, c.in_ok-from_slice-in-Submit.ensures.items ∙ c.as_bytes.ensures.value ∙ c.as_str.ensures, ap (λ p. ask.Submit p document) same)

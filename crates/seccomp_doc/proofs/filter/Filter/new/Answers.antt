use Rattle.std.proofs.Common.{◌≡◌, ◌∙◌, sym, subst, None, Some}
use Rattle.std.specs.List.{flat_map}
use Rattle.std.proofs.lemmas.Result.{err_from_is_err_and}
use Rattle.seccomp_doc.specs.Checks.{entry_checks, errno_checks, first_fault}
use Rattle.seccomp_doc.specs.Parts.{FilterPartsValue}
use Rattle.seccomp_doc.proofs.FilterFacts.{fault_of-count, fault_of-default, fault_of-entries, fault_of-last, lawful_last, made_last, steps}
use Rattle.seccomp_doc.proofs.filter.Filter.new.Goals as goal

pub returns-then-has_too_many-clause-answers : goal.returns-then-has_too_many-clause-answers
returns-then-has_too_many-clause-answers c = λ _. fault_of-count c.args.parts (sym c.if-has_too_many.ensures)

pub returns-in_err-default-clause-answers : goal.returns-in_err-default-clause-answers
returns-in_err-default-clause-answers c =
    let p = err_from_is_err_and c.from_residual.result c.from_residual.ensures.1 in
    rw (p.1, p.2) (λ memory. fault_of-default c.args.parts (sym c.if-has_too_many.ensures) _
    (subst (λ (v : FilterPartsValue). first_fault (errno_checks v.default v.default_errno) ≡ Some c.in_err-default.field-0.0) c.parts.view_is (c.in_err-default.ensures.answers memory)))

pub returns-in_err-entries-clause-answers : goal.returns-in_err-entries-clause-answers
returns-in_err-entries-clause-answers c =
    let p = err_from_is_err_and c.from_residual-in_err-entries.result c.from_residual-in_err-entries.ensures.1 in
    rw (p.1, p.2) (λ memory. fault_of-entries c.args.parts (sym c.if-has_too_many.ensures)
    (subst (λ (v : FilterPartsValue). first_fault (errno_checks v.default v.default_errno) ≡ None) c.parts.view_is c.in_ok-default.ensures.answers.0) _
    (subst (λ (v : FilterPartsValue). first_fault (flat_map entry_checks v.entries) ≡ Some c.in_err-entries.field-0.0) c.parts.view_is (c.in_err-entries.ensures.err memory)))

pub returns-in_err-refuse_two_actions-clause-answers :
    goal.returns-in_err-refuse_two_actions-clause-answers
returns-in_err-refuse_two_actions-clause-answers c =
    let p = err_from_is_err_and c.from_residual-in_err-refuse_two_actions.result c.from_residual-in_err-refuse_two_actions.ensures.1 in
    let done = steps _ _ _ _ _ c.parts.view_is (sym c.if-has_too_many.ensures) c.in_ok-default.ensures.answers c.in_ok-default.ensures.lawful c.in_ok-entries.ensures.ok c.as_slice.ensures.value in
    rw (p.1, p.2) (λ memory. fault_of-last _ _ _ _ _ c.parts.view_is done ∙ c.in_err-refuse_two_actions.ensures.answers memory)

pub invariant_of-result : goal.invariant_of-result
invariant_of-result c =
    let done = steps _ _ _ _ _ c.parts.view_is (sym c.if-has_too_many.ensures) c.in_ok-default.ensures.answers c.in_ok-default.ensures.lawful c.in_ok-entries.ensures.ok c.as_slice.ensures.value in
    lawful_last _ _ _ _ done c.in_ok-refuse_two_actions.ensures.one_action

pub returns-clause-answers : goal.returns-clause-answers
returns-clause-answers c =
    let done = steps _ _ _ _ _ c.parts.view_is (sym c.if-has_too_many.ensures) c.in_ok-default.ensures.answers c.in_ok-default.ensures.lawful c.in_ok-entries.ensures.ok c.as_slice.ensures.value in
    made_last _ _ _ _ _ c.parts.view_is done c.in_ok-refuse_two_actions.ensures.answers.0

pub returns-clause-lawful : goal.returns-clause-lawful
returns-clause-lawful c =
    let done = steps _ _ _ _ _ c.parts.view_is (sym c.if-has_too_many.ensures) c.in_ok-default.ensures.answers c.in_ok-default.ensures.lawful c.in_ok-entries.ensures.ok c.as_slice.ensures.value in
    lawful_last _ _ _ _ done c.in_ok-refuse_two_actions.ensures.one_action

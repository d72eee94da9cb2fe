use Rattle.std.proofs.Common.{◌≡◌, ◌∙◌, inl, inr, [], false, true, refl, sym, ap}
use Rattle.std.proofs.Math.Logic.{∥∥₁_elim}
use Rattle.std.specs.IoError.{error_kind}
use Rattle.command_host.specs.FailedCalls.{CallFailed}
use Rattle.command_host.specs.ReadFaults.{IsToldOf, tells_of_read}
use Rattle.command_host.specs.declared.fault.CommandFault.{CommandFault}
use Rattle.command_host.specs.declared.fault.CommandFault.TheVariants as fault
use Rattle.command_host.specs.declared.noted.NoneFailed.{NoneFailed}
use Rattle.example_tests.specs.EdgeExamples.{never_fails}
use Rattle.example_tests.proofs.examples.reads.examples_of_faults_that_are_told.Goals as goal

-- no call of read failed
none_failed : ∥ CallFailed never_fails ∥₁ → ⊥
none_failed failed = ∥∥₁_elim failed (λ x y. absurd x) (λ call. call.call)

never_told : (met : CommandFault) → tells_of_read met ≡ true → ((none : NoneFailed) → met ≡ fault.Endless none → ⊥) → IsToldOf never_fails met met → ⊥
never_told met tells ends (inl told) = none_failed (told.1 tells)
never_told met tells ends (inr endless) = ends endless.0 endless.1

pub returns-clause-opened : goal.returns-clause-opened
returns-clause-opened c = inl (refl, λ tells. absurd (let k : false ≡ true = tells in cc))

pub returns-clause-torn : goal.returns-clause-torn
returns-clause-torn c = inl (refl, λ tells. absurd (let k : false ≡ true = tells in cc))

pub returns-clause-failed : goal.returns-clause-failed
returns-clause-failed c = λ e failed. inl (refl, λ tells. ∣ record { old = []; new = []; error = e; bytes = []; call = refl; failed = failed } ∣₁)

pub returns-clause-endless : goal.returns-clause-endless
returns-clause-endless c = λ none. inr (none, refl, refl)

pub returns-clause-other : goal.returns-clause-other
returns-clause-other c = λ told. elim told [
  | inl is ↦ let k = is.0 in cc
  | inr endless ↦ let k = endless.1 in cc
]

pub returns-clause-endless_unopened : goal.returns-clause-endless_unopened
returns-clause-endless_unopened c = λ none told. elim told [
  | inl is ↦ let k = is.0 in cc
  | inr endless ↦ let k : false ≡ true = endless.2 in cc
]

pub returns-clause-interrupted : goal.returns-clause-interrupted
returns-clause-interrupted c = λ e kind told. elim told [
  | inl is ↦ ∥∥₁_elim (is.1 refl) (λ x y. absurd x) (λ call. let same : call.error ≡ e = cc in call.failed (ap error_kind same ∙ kind))
  | inr endless ↦ let k = endless.1 in cc
]

pub returns-clause-unbuilt : goal.returns-clause-unbuilt
returns-clause-unbuilt c = never_told _ refl (λ none is. cc)

pub returns-clause-unverified : goal.returns-clause-unverified
returns-clause-unverified c = λ told is. never_told told (ap tells_of_read is) (λ none same. let k = sym is ∙ same in cc)

pub returns-clause-unwritten : goal.returns-clause-unwritten
returns-clause-unwritten c = λ told is. never_told told (ap tells_of_read is) (λ none same. let k = sym is ∙ same in cc)

pub returns-clause-no_evidence : goal.returns-clause-no_evidence
returns-clause-no_evidence c = λ told is. never_told told (ap tells_of_read is) (λ none same. let k = sym is ∙ same in cc)

use Rattle.office_policy.proofs.AnswerFacts.{accepted_is, accepted_told, denied_is, denied_told}
use Rattle.office_policy.proofs.law_examples.answers_tell_the_verdict.Goals as goal

pub returns-clause-done : goal.returns-clause-done
returns-clause-done c = λ h r reply. (accepted_is h r reply, λ told. accepted_told h r reply told.0 told.1)

pub returns-clause-denied : goal.returns-clause-denied
returns-clause-denied c = λ h r d f. (denied_is h r d f, denied_told h r d f)

-- What is answered of what a request came to.
use Rattle.std.specs.Prelude.{Result, Ok, Err}
use Rattle.review_policy.specs.declared.answer.Answer.{Answer}
use Rattle.review_policy.specs.declared.answer.Answer.TheVariants.{Denied, Fault}
use Rattle.office_policy.specs.declared.judge.Judgement.{Judgement}
use Rattle.office_policy.specs.declared.judge.Judgement.TheVariants.{Answered}
use Rattle.office_judging.specs.declared.refusal.Refusal.{Refusal}
use Rattle.office_judging.specs.declared.refusal.Refusal.TheVariants as refusals

-- the answer to a request that was refused so
abbrev pub answer_to : Refusal → Answer
answer_to (refusals.Denied denial fault) = Denied denial fault
answer_to (refusals.Fault fault) = Fault fault

-- what a request comes to: a refusal is its answer
abbrev pub judgement_of : Result Judgement Refusal → Judgement
judgement_of (Ok judgement) = judgement
judgement_of (Err refusal) = Answered (answer_to refusal)

-- What a request comes to, by what its kind came to.
use Rattle.std.specs.Prelude.{Result, Ok, Err}
use Rattle.review_policy.specs.declared.answer.Answer.TheVariants.{Done}
use Rattle.review_policy.specs.declared.answer.Reply.{Reply}
use Rattle.office_policy.specs.declared.judge.Allowed.{Allowed}
use Rattle.office_policy.specs.declared.judge.Judgement.{Judgement}
use Rattle.office_policy.specs.declared.judge.Judgement.TheVariants as judgements
use Rattle.office_judging.specs.declared.refusal.Refusal.{Refusal}

abbrev pub answered_of : Result Reply Refusal → Result Judgement Refusal
answered_of (Ok reply) = Ok (judgements.Answered (Done reply))
answered_of (Err refusal) = Err refusal

abbrev pub allowed_of : Result Allowed Refusal → Result Judgement Refusal
allowed_of (Ok allowed) = Ok (judgements.Allowed allowed)
allowed_of (Err refusal) = Err refusal

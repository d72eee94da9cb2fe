use Rattle.review_policy.specs.declared.answer.Reply.TheVariants as reply
use Rattle.office_policy.proofs.ReplyFacts.{replied_to}
use Rattle.office_policy.proofs.duty.what_is_submitted_is_told.Goals as goal

pub returns : goal.returns
returns c = λ h r digest n e. replied_to h r (reply.Submitted digest n) e

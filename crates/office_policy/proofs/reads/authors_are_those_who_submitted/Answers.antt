use Rattle.office_policy.proofs.LookUps.{author_is}
use Rattle.office_policy.proofs.reads.authors_are_those_who_submitted.Goals as goal

pub returns : goal.returns
returns c = author_is

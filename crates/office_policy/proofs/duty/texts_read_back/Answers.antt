use Rattle.office_policy.proofs.TextFacts.{reads_back}
use Rattle.office_policy.proofs.duty.texts_read_back.Goals as goal

pub returns : goal.returns
returns c = reads_back

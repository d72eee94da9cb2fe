use Rattle.journal.proofs.LineFacts.{candidate_is}
use Rattle.journal.proofs.read.candidate.Goals as goal

pub returns-in-Ok-candidate_of : goal.returns-in-Ok-candidate_of
returns-in-Ok-candidate_of c = candidate_is c.args.bytes.now _ _ c.in-Ok.ensures.ok.0 c.in-Ok.ensures.ok.1 c.in-Ok-candidate_of.ensures

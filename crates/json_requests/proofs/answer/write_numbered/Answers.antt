use Rattle.json_tree.proofs.Writing.{after_last}
use Rattle.json_requests.proofs.answer.write_numbered.Goals as goal

pub returns : goal.returns
returns c = after_last _ _ _ c.in_ok-write_digest.ensures c.write_number.ensures

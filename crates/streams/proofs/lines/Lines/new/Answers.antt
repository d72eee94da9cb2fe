use Rattle.streams.proofs.HandedFacts.{handed_none}
use Rattle.streams.proofs.lines.Lines.new.Goals as goal

pub returns-clause-handed : goal.returns-clause-handed
returns-clause-handed c = λ stream. handed_none stream

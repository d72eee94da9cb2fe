use Rattle.std.proofs.Common.{refl}
use Rattle.json.specs.Lex.{lex, punctuate}
use Rattle.json_tree.proofs.Writers.{no_token}
use Rattle.json_tree.proofs.writer.Writer.with_capacity.Goals as goal

pub invariant_of-result : goal.invariant_of-result
invariant_of-result c = no_token _ refl refl

pub returns : goal.returns
unfolding lex punctuate
returns c = refl

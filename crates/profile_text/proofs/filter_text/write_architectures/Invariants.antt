use Rattle.std.proofs.Common.{drop}
use Rattle.serde_json.specs.Data.{string}
use Rattle.json_tree.proofs.Writing.{Leaves}
use Rattle.profile_text.proofs.filter_text.write_architectures.Given as goal

abbrev pub invariant-loop-architecture : goal.invariant-loop-architecture
invariant-loop-architecture l = Leaves string l.architectures (drop l.architecture-index l.architectures) l.initial.out l.out

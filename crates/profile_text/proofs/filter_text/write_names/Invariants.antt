use Rattle.std.proofs.Common.{drop}
use Rattle.serde_json.specs.Data.{string}
use Rattle.json_tree.proofs.Writing.{Leaves}
use Rattle.profile_text.proofs.filter_text.write_names.Given as goal

abbrev pub invariant-loop-name : goal.invariant-loop-name
invariant-loop-name l = Leaves string l.names (drop l.name-index l.names) l.initial.out l.out

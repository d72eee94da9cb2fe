use Rattle.std.proofs.Common.{drop}
use Rattle.serde_json.specs.Data.{string}
use Rattle.json_tree.proofs.Writing.{Leaves}
use Rattle.profile_text.proofs.filter_text.write_flags.Given as goal

abbrev pub invariant-loop-flag : goal.invariant-loop-flag
invariant-loop-flag l = Leaves string l.flags (drop l.flag-index l.flags) l.initial.out l.out

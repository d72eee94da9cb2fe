use Rattle.std.proofs.Common.{drop}
use Rattle.profile_text.specs.Text.{arg_data}
use Rattle.json_tree.proofs.Writing.{Leaves}
use Rattle.profile_text.proofs.filter_text.write_args.Given as goal

abbrev pub invariant-loop-arg : goal.invariant-loop-arg
invariant-loop-arg l = Leaves arg_data l.args (drop l.arg-index l.args) l.initial.out l.out

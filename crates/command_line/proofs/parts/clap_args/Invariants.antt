use Rattle.std.proofs.Common.{◌≡◌, map, take}
use Rattle.command_line.specs.Parts.{part_for, part_of}
use Rattle.command_line.proofs.parts.clap_args.Given as goal

abbrev pub invariant-loop-parameter : goal.invariant-loop-parameter
invariant-loop-parameter l = map part_of l.args.items ≡ map part_for (take l.parameter-index l.parameters)

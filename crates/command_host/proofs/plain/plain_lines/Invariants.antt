use Rattle.std.proofs.Common.{◌≡◌, flat_map, string_bytes}
use Rattle.command_host.specs.Plain.{plain_or_end}
use Rattle.command_host.proofs.plain.plain_lines.Given as goal

abbrev pub invariant-loop-c : goal.invariant-loop-c
invariant-loop-c l = string_bytes l.said ≡ flat_map plain_or_end l.yielded

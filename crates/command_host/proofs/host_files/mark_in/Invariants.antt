use Rattle.std.proofs.Common.{◌≤◌}
use Rattle.command_host.proofs.host_files.mark_in.Given as goal

abbrev pub invariant-loop : goal.invariant-loop
invariant-loop l = l.count ≤ 100

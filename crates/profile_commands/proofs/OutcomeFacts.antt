-- What comes of the commands.
use Rattle.std.proofs.Common.{Result, Ok, Err}
use Rattle.std.specs.Prelude.{IfOk}
use Rattle.cap_sets.specs.declared.exec.File.{File}
use Rattle.cap_sets.specs.declared.state.CapState.{CapState}
use Rattle.cap_sets.specs.Execve.{IsAfter, IsAfterRoot}
use Rattle.profile_commands.specs.declared.execution.Execution.{Execution}
use Rattle.profile_commands.specs.declared.execution.Execution.TheVariants.{ByRoot, OfFile}
use Rattle.profile_commands.specs.declared.execve.ExecveOutcome.{ExecveOutcome}
use Rattle.profile_commands.specs.declared.execve.ExecveOutcome.TheVariants.{Done, Denied}
use Rattle.profile_commands.specs.Executions.{IsDone, IsOutcome}

-- the lines of the state after execve by root, and by anyone else
pub by_root : {E : Type 0} (before after : CapState) (r : Result ExecveOutcome E) → IsAfterRoot before after → IfOk r (IsDone after) → IfOk r (IsOutcome ByRoot before)
by_root before after (Ok outcome) is done = (after, is, done)
by_root before after (Err e) is done = tt

pub of_file : {E : Type 0} (before after : CapState) (file : File) (r : Result ExecveOutcome E) → IsAfter before file after → IfOk r (IsDone after)
    → IfOk r (IsOutcome (OfFile file) before)
of_file before after file (Ok (Done text)) is done = (after, is, done)
of_file before after file (Ok Denied) is done = absurd done
of_file before after file (Err e) is done = tt

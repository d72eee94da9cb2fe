-- What the words of a command line did, whatever they were.
use Rattle.std.specs.Prelude.{ℕ, List, Option, String}
use Rattle.std.specs.declared.alloc.Global.{Global}
use Rattle.command_line.specs.declared.command.Command.{Command}
use Rattle.streams.specs.declared.counted.Counted.{Counted}
use Rattle.command_host.specs.Known.{Known}
use Rattle.command_host.specs.declared.fault.CommandFault.{CommandFault}
use Rattle.changing_commands.specs.Untouched.{AreUntouched}
use Rattle.office_commands.specs.Commands.{HasRun, HasRunWords}
use Rattle.office_commands.specs.Failing.{HasFailed}
use Rattle.office_commands.specs.Notes.{goes_without, without_line, HasNotedAll, HasNotedAllWell}
use Rattle.office_commands.specs.Notes.{SaysIf}
use Rattle.office_commands.specs.declared.ended.Ended.{Ended}
use Rattle.office_commands.specs.SameFiles.{FailsApart, WasApart}

-- over input that was to come and what of it is left, an output, and of what this is known that the
-- program gets from outside
module _ {S D F L N O : Type 0} (k : Known S D F L N) (contents : O → Option (List ℕ))
    (came left : Option (List ℕ)) (output wrote : Counted O) where
  module _ {E : Type 0} (said_of : E → Option (List ℕ)) (errors : Counted E) where
    -- it was said that the office goes on without its journal, just where a command says so, and then
    -- this was done
    abbrev pub IsWarned : Command → (Done : (warned : Counted E) → Type 0) → Type 0
    IsWarned asked Done =
        (warned : Counted E) × SaysIf said_of errors warned (goes_without asked) without_line
        × Done warned

    -- a command ended well, and its journal and its database were apart
    abbrev pub HasRunApart : Command → (noted : Counted E) → ℕ → Type 0
    HasRunApart asked noted status =
        WasApart k.compares asked (IsWarned asked
        (λ warned. HasRun k contents said_of warned noted asked came left output wrote status))

    -- a command failed; or its journal and its database weren't apart, and it is refused for that, with
    -- nothing read, written or noted
    abbrev pub HasFailedApart : Command → (noted : Counted E) → CommandFault → Type 0
    HasFailedApart asked noted why =
        FailsApart k.compares asked (AreUntouched came left output wrote errors noted)
        (λ why. IsWarned asked
        (λ warned. HasFailed k contents said_of warned noted asked came left output wrote why)) why

    -- words were carried out, with what was said on standard error
    abbrev pub HasCarriedOut : (said : Counted E) → List (String Global) → Ended → Type 0
    HasCarriedOut said words ended =
        HasRunWords said_of errors said contents output wrote
        (λ asked noted. HasNotedAllWell k said_of errors noted asked)
        (λ asked noted. HasNotedAll k said_of errors noted asked)
        HasRunApart HasFailedApart words ended

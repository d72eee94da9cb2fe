-- What the words of a command line ask for, by what clap makes of them.
use Rattle.std.specs.Prelude.{◌≡◌, List, String, []}
use Rattle.std.specs.declared.alloc.Global.{Global}
use Rattle.command_line.specs.declared.command.Command.{Command}
use Rattle.command_line.specs.declared.fault.WordsFault.{WordsFault}
use Rattle.command_line.specs.Commands.{faults_in, found_in}
use Rattle.command_line.specs.Meaning.{IsCommand}
use Rattle.command_line.specs.Refusals.{IsRefused}

-- the words ask for this command
pub record AskFor (words : List (String Global)) (command : Command) : Type 0 where
  pub accepted : faults_in words ≡ []
  pub found : IsCommand (found_in words) command

-- the words ask for no command, as this says
abbrev pub AskForNone : List (String Global) → WordsFault → Type 0
AskForNone words fault = IsRefused (faults_in words) (found_in words) fault

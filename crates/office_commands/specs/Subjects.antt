-- What a refusal is about, as the words of its command name it.
use Rattle.std.specs.Prelude.{ℕ, List, Option, None}
use Rattle.command_line.specs.declared.command.Command.{Command}
use Rattle.command_line.specs.declared.command.Command.TheVariants as command
use Rattle.command_host.specs.Arguments.{subject_of_evidence, subject_of_execve}
use Rattle.command_host.specs.Arguments.{subject_of_history, subject_of_init}
use Rattle.command_host.specs.Unread.{unread_at, unread_of}
use Rattle.command_host.specs.declared.fault.CommandFault.{CommandFault}

-- what a fault of a command is about: the document or the journal that couldn't be read, the argument
-- that isn't of its form, or the word that is the name of no capability
abbrev pub subject_of : Command → CommandFault → Option (List ℕ)
subject_of (command.Check file) why = unread_at file.now why
subject_of (command.Execve words) why = subject_of_execve words why
subject_of (command.Compare base new) why = unread_of base.now new.now why
subject_of (command.Init words) why = subject_of_init words why
subject_of (command.Verify words) why = unread_at words.journal.now why
subject_of (command.Rebuild database journal) why = unread_at journal.now why
subject_of (command.History words) why = subject_of_history words why
subject_of (command.Evidence words) why = subject_of_evidence words why
subject_of _ why = None

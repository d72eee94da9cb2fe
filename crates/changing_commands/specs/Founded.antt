-- What `init` does, with a journal or without.
use Rattle.std.specs.Prelude.{option_copied}
use Rattle.command_line.specs.declared.command.InitWords.{InitWords}
use Rattle.command_host.specs.Known.{Known}
use Rattle.command_host.specs.Openings.{IsClosed}
use Rattle.command_host.specs.declared.fault.CommandFault.{CommandFault}
use Rattle.changing_commands.specs.Foundings.{founding_of_words, IsUnfounded, WasFounded}
use Rattle.changing_commands.specs.Journals.{IfJournaled, IsUnfoundedWith, WasFoundedWith}

module _ {S D F L N : Type 0} (k : Known S D F L N) (words : InitWords) where
  -- the office that the words describe was founded at their path, and closed; and a journal was begun
  -- before, where they give one
  abbrev pub HasFounded : Type 0
  HasFounded =
      IfJournaled (option_copied words.journal)
      (WasFounded k.store (k.databases.opened words.database.now) (IsClosed k.databases.closed)
      (founding_of_words words))
      (λ file. WasFoundedWith k.store k.log (k.creates file)
      (k.databases.opened words.database.now) (IsClosed k.databases.closed)
      (founding_of_words words))

  -- no office was founded as the words describe, for this; or one was, and couldn't be closed
  abbrev pub FailsToInit : CommandFault → Type 0
  FailsToInit why =
      IfJournaled (option_copied words.journal)
      (IsUnfounded k.store k.databases words.database.now (founding_of_words words) why)
      (λ file. IsUnfoundedWith k.store k.log (k.creates file) (k.removes file) k.databases
      words.database.now (founding_of_words words) why)

-- Why each command fails, by the words that it was, and what it then has done.
use Rattle.std.specs.Prelude.{◌≡◌, ◌⊎◌, ℕ, List, true, Option, Err, codes}
use Rattle.command_line.specs.declared.command.Command.{Command}
use Rattle.command_line.specs.declared.command.VerifyWords.{VerifyWords}
use Rattle.command_line.specs.declared.command.Command.TheVariants as command
use Rattle.desk_http.specs.Lines.{IsCut}
use Rattle.streams.specs.declared.counted.Counted.{Counted}
use Rattle.command_host.specs.Known.{Known}
use Rattle.command_host.specs.declared.fault.CommandFault.{CommandFault}
use Rattle.command_host.specs.declared.fault.CommandFault.TheVariants as fault
use Rattle.changing_commands.specs.Founded.{FailsToInit, HasFounded}
use Rattle.changing_commands.specs.Migrations.{FailsToMigrateAt, HasMigrated}
use Rattle.changing_commands.specs.Rebuildings.{FailsToRebuild}
use Rattle.changing_commands.specs.Served.{IsDesk, IsMarkedWith, IsServedOver}
use Rattle.changing_commands.specs.Trials.{IsTrial}
use Rattle.no_memory.specs.declared.witness.NoMemory.{«NoMemory» as Want}
use Rattle.reading_commands.specs.DocumentFailures.{FailsToCheck, FailsToCompare, FailsToExecute}
use Rattle.reading_commands.specs.Reports.{FailsToProve, IsUntoldAt}
use Rattle.reading_commands.specs.Verifications.{FailsToVerify, HasVerified}

-- what an output has after what it had
module _ {O : Type 0} (contents : O → Option (List ℕ)) (output wrote : Counted O) where
  -- a word wasn't printed whole, where this was done; or this wasn't done, and nothing was printed
  abbrev pub FailsToSay : (word : List ℕ) → (Done Failed : Type 0) → CommandFault → Type 0
  FailsToSay word Done Failed why =
      (Failed × (wrote ≡ output)) ⊎ ((why ≡ fault.Write) × Done × IsCut contents output wrote word)

-- What a command did that failed so, over the same as one that ended well.
module _ {S D F L N O : Type 0} (k : Known S D F L N) (contents : O → Option (List ℕ)) where
  -- the two don't agree, or the line wasn't printed; or they do and it was, and the database wasn't
  -- marked
  abbrev pub FailsToVerifyAll : (output wrote : Counted O) → VerifyWords → CommandFault → Type 0
  FailsToVerifyAll output wrote words why =
      FailsToVerify k.opens k.places k.gives k.bytes_of words.journal.now words.database.now
      words.seal contents output wrote why
      ⊎ ((words.mark ≡ true)
      × HasVerified k.opens k.places k.bytes_of words.journal.now words.database.now
      words.seal contents output wrote
      × IsMarkedWith k words.database.now words.journal.now (Err why))

  -- with what standard error had and has
  module _ {E : Type 0} (said_of : E → Option (List ℕ)) (errors noted : Counted E) where
    abbrev pub HasFailed : Command → (came left : Option (List ℕ)) (output wrote : Counted O)
        → CommandFault → Type 0
    HasFailed command.Trial came left output wrote why =
        (want : Option Want)
        × IsTrial contents said_of came left output wrote errors noted want (Err why)
    HasFailed (command.Check file) came left output wrote why =
        FailsToCheck k.opens k.gives k.bytes_of contents output wrote file.now why
    HasFailed (command.Execve words) came left output wrote why =
        FailsToExecute k.opens k.gives k.bytes_of contents output wrote words why
    HasFailed (command.Init words) came left output wrote why =
        FailsToSay contents output wrote (codes "founded\n") (HasFounded k words)
        (FailsToInit k words why) why
    HasFailed (command.Desk database journal) came left output wrote why =
        (want : Option Want)
        × IsDesk k contents output wrote said_of errors noted came left want database.now journal
        (Err why)
    HasFailed (command.Serve words) came left output wrote why =
        IsServedOver k contents output wrote words (Err why)
    HasFailed (command.Migrate database without) came left output wrote why =
        FailsToSay contents output wrote (codes "migrated\n")
        (HasMigrated k.store k.databases database.now without)
        (FailsToMigrateAt k.store k.databases database.now without why) why
    HasFailed (command.Verify words) came left output wrote why =
        FailsToVerifyAll output wrote words why
    HasFailed (command.Rebuild database journal) came left output wrote why =
        FailsToRebuild k.store k.databases database.now (k.opens journal.now) k.gives k.bytes_of
        contents output wrote why
    HasFailed (command.History words) came left output wrote why =
        IsUntoldAt k.opens k.gives k.bytes_of contents output wrote words why
    HasFailed (command.Evidence words) came left output wrote why =
        FailsToProve k.opens k.gives k.bytes_of contents output wrote words why
    HasFailed (command.Compare base new) came left output wrote why =
        FailsToCompare k.opens k.gives k.bytes_of contents output wrote base.now new.now why

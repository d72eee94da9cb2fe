-- What each command has done, by the outcome: what it printed of which bytes, what it said on
-- standard error, and the status that it ended with.
use Rattle.std.specs.Prelude.{◌≡◌, ◌⊎◌, ℕ, List, Option, Some, None, Ok}
use Rattle.std.specs.Prelude.{String, Bool, true, false, codes, string_bytes}
use Rattle.std.specs.declared.alloc.Global.{Global}
use Rattle.command_line.specs.Words.{AskFor, AskForNone}
use Rattle.command_line.specs.declared.fault.WordsFault.{WordsFault}
use Rattle.command_line.specs.declared.fault.WordsFault.TheVariants.{Help, Version, Refused}
use Rattle.command_line.specs.declared.fault.WordsFault.TheVariants.{NoMemory}
use Rattle.command_line.specs.declared.command.Command.{Command}
use Rattle.command_line.specs.declared.command.VerifyWords.{VerifyWords}
use Rattle.command_line.specs.declared.command.Command.TheVariants as command
use Rattle.desk_http.specs.Lines.{IsCut, IsWhole}
use Rattle.streams.specs.declared.counted.Counted.{Counted}
use Rattle.command_host.specs.Known.{Known}
use Rattle.command_host.specs.Said.{AreSaid, IsRefusal}
use Rattle.command_host.specs.declared.fault.CommandFault.{CommandFault}
use Rattle.command_host.specs.declared.fault.CommandFault.TheVariants as fault
use Rattle.changing_commands.specs.Founded.{HasFounded}
use Rattle.changing_commands.specs.Migrations.{HasMigrated}
use Rattle.changing_commands.specs.Rebuildings.{HasRebuilt}
use Rattle.changing_commands.specs.Served.{IsDesk, IsMarkedWith, IsServedOver}
use Rattle.changing_commands.specs.Trials.{IsTrial}
use Rattle.reading_commands.specs.Documents.{HasChecked, HasCompared, HasExecuted}
use Rattle.reading_commands.specs.Reports.{HasProved, WasToldAt}
use Rattle.reading_commands.specs.Verifications.{HasVerified}
use Rattle.office_commands.specs.Subjects.{subject_of}
use Rattle.office_commands.specs.declared.ended.Ended.{Ended}
use Rattle.no_memory.specs.Witness.{witness}
use Rattle.no_memory.specs.declared.witness.NoMemory.{«NoMemory» as Want}

-- a fact holds where a flag is set
abbrev pub IfSet : Bool → Type 0 → Type 0
IfSet true Holds = Holds
IfSet false Holds = Unit {0}

-- a command ended with this status, and nothing was to be said
abbrev pub ended_well : ℕ → Ended
ended_well status = record { status = status; why = None; witness = None }

-- the status of a command that was refused or failed
abbrev pub failed_status : Command → ℕ
failed_status (command.Compare base shown) = 2
failed_status _ = 1

-- What a command did that ended well with this status, over input that was to come and what of it is
-- left, and of what this is known that the program gets from outside.
module _ {S D F L N O : Type 0} (k : Known S D F L N) (contents : O → Option (List ℕ)) where
  -- the two agree, and the line was printed; and the database was marked, where the words say so
  abbrev pub HasVerifiedAll : (output wrote : Counted O) → VerifyWords → Type 0
  HasVerifiedAll output wrote words =
      HasVerified k.opens k.places k.bytes_of words.journal.now words.database.now
      words.seal contents output wrote
      × IfSet words.mark (IsMarkedWith k words.database.now words.journal.now (Ok (tt {0})))

  -- with what standard error had and has
  module _ {E : Type 0} (said_of : E → Option (List ℕ)) (errors noted : Counted E) where
    abbrev pub HasRun : Command → (came left : Option (List ℕ)) (output wrote : Counted O) → ℕ
        → Type 0
    HasRun command.Trial came left output wrote status =
        ((want : Option Want)
        × IsTrial contents said_of came left output wrote errors noted want (Ok (tt {0})))
        × (status ≡ 0)
    HasRun (command.Check file) came left output wrote status =
        HasChecked k.opens k.bytes_of contents output wrote file.now × (status ≡ 0)
    HasRun (command.Execve words) came left output wrote status =
        HasExecuted k.opens k.bytes_of contents output wrote words status
    HasRun (command.Init words) came left output wrote status =
        HasFounded k words × IsWhole contents output wrote (codes "founded\n") × (status ≡ 0)
    HasRun (command.Desk database journal) came left output wrote status =
        ((want : Option Want)
        × IsDesk k contents output wrote said_of errors noted came left want database.now journal
        (Ok (tt {0})))
        × (status ≡ 0)
    HasRun (command.Serve words) came left output wrote status =
        IsServedOver k contents output wrote words (Ok (tt {0})) × (status ≡ 0)
    HasRun (command.Migrate database without) came left output wrote status =
        HasMigrated k.store k.databases database.now without
        × IsWhole contents output wrote (codes "migrated\n") × (status ≡ 0)
    HasRun (command.Verify words) came left output wrote status =
        HasVerifiedAll output wrote words × (status ≡ 0)
    HasRun (command.Rebuild database journal) came left output wrote status =
        HasRebuilt k.store k.databases database.now (k.opens journal.now) k.gives k.bytes_of
        contents output wrote × (status ≡ 0)
    HasRun (command.History words) came left output wrote status =
        WasToldAt k.opens k.gives k.bytes_of contents output wrote words × (status ≡ 0)
    HasRun (command.Evidence words) came left output wrote status =
        HasProved k.opens k.gives k.bytes_of contents output wrote words × (status ≡ 0)
    HasRun (command.Compare base new) came left output wrote status =
        HasCompared k.opens k.bytes_of contents output wrote base.now new.now status

-- what was said on standard error at the end
module _ {E : Type 0} (said_of : E → Option (List ℕ)) (said : Counted E) where
  -- A command ended so: well, as this says, with nothing said but what it noted; or it was refused or
  -- failed, as that says, and then why was said, and what that is about.
  abbrev pub HasEnded : Command → (NotesWell Notes : Counted E → Type 0)
      → (Run : Counted E → ℕ → Type 0) → (Fails : Counted E → CommandFault → Type 0) → Ended → Type 0
  HasEnded asked NotesWell Notes Run Fails ended =
      (Run said ended.status × NotesWell said × (ended ≡ ended_well ended.status))
      ⊎ ((why : CommandFault) × (ended.why ≡ Some why) × (ended.status ≡ failed_status asked)
      × ((noted : Counted E) × Fails noted why × Notes noted
      × IsRefusal said_of noted said why (subject_of asked why) ended.witness))

-- what was said there
module _ {E : Type 0} (said_of : E → Option (List ℕ)) (errors said : Counted E) where
  module _ {O : Type 0} (contents : O → Option (List ℕ)) (output wrote : Counted O) where
    -- a text was printed, with nothing said; or it couldn't be printed whole, which was said
    abbrev pub IsPrinted : List ℕ → Ended → Type 0
    IsPrinted text ended =
        (IsWhole contents output wrote text × (said ≡ errors) × (ended ≡ ended_well 0))
        ⊎ (IsCut contents output wrote text × (ended.why ≡ Some fault.Write)
        × IsRefusal said_of errors said fault.Write None ended.witness × (ended.status ≡ 1))

    -- Why words ask for no command was told: help and the version are printed, and a refusal is
    -- said.
    abbrev pub HasTold : WordsFault → Ended → Type 0
    HasTold (Help text) ended = IsPrinted (string_bytes text) ended
    HasTold (Version text) ended = IsPrinted (string_bytes text) ended
    HasTold (Refused text) ended =
        (wrote ≡ output) × AreSaid said_of errors said (string_bytes text) ended.witness
        × (ended.status ≡ 2) × (ended.why ≡ None)
    HasTold (NoMemory _) ended =
        (wrote ≡ output) × (ended.why ≡ Some (fault.NoMemory witness))
        × IsRefusal said_of errors said (fault.NoMemory witness) None ended.witness
        × (ended.status ≡ 1)

    -- Words were carried out: the command that they ask for, with the first noted and this done where it
    -- ended well, and the second noted and that done where it failed, or why they ask for none was told.
    abbrev pub HasRunWords : (NotesWell Notes : Command → Counted E → Type 0)
        → (Run : Command → Counted E → ℕ → Type 0)
        → (Fails : Command → Counted E → CommandFault → Type 0) → List (String Global) → Ended → Type 0
    HasRunWords NotesWell Notes Run Fails words ended =
        ((asked : Command) × AskFor words asked
        × HasEnded said_of said asked (NotesWell asked) (Notes asked) (Run asked) (Fails asked) ended)
        ⊎ ((why : WordsFault) × AskForNone words why × HasTold why ended)

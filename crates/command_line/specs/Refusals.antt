-- Words that ask for no command.
use Rattle.std.specs.Prelude.{◌≡◌, ◌≢◌, ◌⊎◌, ℕ, Option, List}
use Rattle.clap.specs.Words.{IsAmong, Kinds, Row, Text}
use Rattle.clap.specs.declared.error.kind.ErrorKind.{ErrorKind}
use Rattle.clap.specs.declared.error.kind.ErrorKind.TheVariants.{DisplayHelp, DisplayVersion}
use Rattle.clap.specs.declared.error.kind.ErrorKind.TheVariants.{OutOfMemory}
use Rattle.command_line.specs.declared.command.Command.{Command}
use Rattle.command_line.specs.declared.command.JournalWords.{JournalWords}
use Rattle.command_line.specs.declared.command.KeptSeal.{KeptSeal}
use Rattle.command_line.specs.declared.fault.WordsFault.{WordsFault}
use Rattle.command_line.specs.declared.fault.WordsFault.TheVariants.{Help, Version, Refused}
use Rattle.command_line.specs.declared.fault.WordsFault.TheVariants.{NoMemory}
use Rattle.command_line.specs.declared.command.Requests.{Requests}
use Rattle.command_line.specs.Meaning.{AreRequests, AsksFor, IsCommand, IsJournalGiven, IsKeptSeal}
use Rattle.command_line.specs.Meaning.{IsLineGiven, IsNumberIn, IsSealGiven}

-- what is reported of an error of clap's by its kind; out of memory may stand in place of its text
abbrev pub IsTold : ErrorKind → WordsFault → Type 0
IsTold kind (Help text) = kind ≡ DisplayHelp
IsTold kind (Version text) = kind ≡ DisplayVersion
IsTold kind (Refused text) = (kind ≢ DisplayHelp) × (kind ≢ DisplayVersion) × (kind ≢ OutOfMemory)
IsTold kind (NoMemory _) = Unit {0}

-- the text, if there is one, writes no number from low to high
abbrev pub NoNumberIn : ℕ → ℕ → Option Text → Type 0
NoNumberIn low high text = (n : ℕ) → ¬ IsNumberIn low high n text

-- the rows give neither `--requests` with a number within its limits nor `--until-stopped`, or both
abbrev pub NoRequests : List Row → Type 0
NoRequests rows = (requests : Requests) → ¬ AreRequests rows requests

-- the rows give both `--journal` and `--without-journal`
abbrev pub NoJournalGiven : List Row → Type 0
NoJournalGiven rows = (journal : JournalWords) → ¬ IsJournalGiven rows journal

-- the text names no line with a seal
abbrev pub NoKeptSeal : Text → Type 0
NoKeptSeal text = (kept : KeptSeal) → ¬ IsKeptSeal text kept

-- a text is given, and names no line with a seal
abbrev pub NoSealGiven : Option Text → Type 0
NoSealGiven given = (seal : Option KeptSeal) → ¬ IsSealGiven given seal

-- a `--line` is given, and its value is no number from 1 and of 64 bits
abbrev pub NoLineGiven : List Row → Type 0
NoLineGiven rows = (line : Option ℕ) → ¬ IsLineGiven rows line

-- the subcommand of this name, with these rows of values, asks for no command
abbrev pub NoneAskedFor : Text → List Row → Type 0
NoneAskedFor name rows = (command : Command) → ¬ AsksFor name rows command

-- what was found asks for no command
abbrev pub NamesNoCommand : Option (Text × List Row) → Type 0
NamesNoCommand found = (command : Command) → ¬ IsCommand found command

-- help is among clap's answers to the words
abbrev pub AsksForHelp : Kinds → Type 0
AsksForHelp kinds = IsAmong DisplayHelp kinds

-- the version is among clap's answers to the words
abbrev pub AsksForVersion : Kinds → Type 0
AsksForVersion kinds = IsAmong DisplayVersion kinds

-- a mistake is among clap's answers to the words
abbrev pub HasMistake : Kinds → Type 0
HasMistake kinds =
    (kind : ErrorKind) × IsAmong kind kinds × (kind ≢ DisplayHelp) × (kind ≢ DisplayVersion)

-- the words ask for help, for the version, or for no command; or it is out of memory
abbrev pub IsRefused : Kinds → Option (Text × List Row) → WordsFault → Type 0
IsRefused kinds found (Help text) = AsksForHelp kinds
IsRefused kinds found (Version text) = AsksForVersion kinds
IsRefused kinds found (Refused text) = HasMistake kinds ⊎ NamesNoCommand found
IsRefused kinds found (NoMemory _) = Unit {0}

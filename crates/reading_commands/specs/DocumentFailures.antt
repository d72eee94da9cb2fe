-- Why `check`, `execve` and `compare` fail, and what they then have done.
use Rattle.std.specs.Prelude.{◌≡◌, ◌≢◌, ◌⊎◌, ℕ, List, Option, Result, Ok, Err, IfSome, String}
use Rattle.std.specs.Prelude.{string_bytes}
use Rattle.std.specs.declared.alloc.Global.{Global}
use Rattle.std.specs.declared.io.Error.{Error}
use Rattle.command_line.specs.declared.command.ExecveWords.{ExecveWords}
use Rattle.desk_http.specs.Lines.{IsCut}
use Rattle.profile_text.specs.declared.profile.Profile.{Profile}
use Rattle.profile_commands.specs.Executions.{execution_of, IsExecuted}
use Rattle.profile_commands.specs.Refusal.{no_memory, IsChecked, RefusesAs}
use Rattle.profile_commands.specs.declared.compare.ComparedFault.{ComparedFault}
use Rattle.profile_commands.specs.declared.compare.ComparedFault.TheVariants as compared
use Rattle.profile_commands.specs.declared.execution.Execution.{Execution}
use Rattle.profile_commands.specs.declared.execve.ExecveOutcome.{ExecveOutcome}
use Rattle.profile_commands.specs.declared.fault.FileFault.{FileFault}
use Rattle.profile_commands.specs.declared.fault.FileFault.TheVariants as file
use Rattle.streams.specs.declared.counted.Counted.{Counted}
use Rattle.streams.specs.declared.unread.Unread.TheVariants as unread
use Rattle.command_host.specs.declared.fault.CommandFault.{CommandFault}
use Rattle.command_host.specs.declared.fault.CommandFault.TheVariants as fault
use Rattle.reading_commands.specs.Documents.{file_of, outcome_text, IsDocumentIn, WereCompared}
use Rattle.reading_commands.specs.Reading.{FailsToRead}
use Rattle.reading_commands.specs.declared.document_bytes.NoBytes.{NoBytes}
use Rattle.reading_commands.specs.declared.document_bytes.NoBytes.TheVariants.{Unopened, Unread}

-- the fault of a file that gave no bytes: of one that can't be opened, that it couldn't be read
abbrev pub file_fault_of : NoBytes → FileFault
file_fault_of Unopened = file.Unread unread.Failed
file_fault_of (Unread why) = file.Unread why

-- the fault of a command that reads one file, where that gave no bytes
abbrev pub fault_of : NoBytes → CommandFault
fault_of Unopened = fault.Open
fault_of (Unread why) = fault.File (file.Unread why)

-- of a file of which this is known as it is opened and read
module _ {F : Type 0} (Opened : Result F Error → Type 0)
    (Gives : F → F → Result ℕ Error → List ℕ → Type 0) where
  -- the file can't be opened; or it was, and wasn't read
  abbrev pub AreNoBytes : NoBytes → Type 0
  AreNoBytes Unopened = (e : Error) × Opened (Err e)
  AreNoBytes (Unread why) = (file : F) × Opened (Ok file) × FailsToRead Gives why

  -- where something is known of its bytes too
  module _ (bytes_of : F → Option (List ℕ)) where
    -- the file was opened and has no document, for this: it wasn't read, or its bytes have this fault
    abbrev pub IsRefusedIn : F → FileFault → Type 0
    IsRefusedIn it (file.Unread why) = FailsToRead Gives why
    IsRefusedIn it why = IfSome (bytes_of it) (λ bytes. RefusesAs bytes why)

    abbrev pub IsRefused : FileFault → Type 0
    IsRefused why = (it : F) × Opened (Ok it) × IsRefusedIn it why

    -- the file can't be opened, or has no document
    abbrev pub HasNoDocument : FileFault → Type 0
    HasNoDocument why =
        ((why ≡ file.Unread unread.Failed) × ((e : Error) × Opened (Err e))) ⊎ IsRefused why

-- Files of which this is known as they are opened at a path and read, and whose bytes are these.
module _ {F : Type 0} (Opens : List ℕ → Result F Error → Type 0)
    (Gives : F → F → Result ℕ Error → List ℕ → Type 0) (bytes_of : F → Option (List ℕ)) where
  -- Two documents weren't compared: BASE is none, or it is one and NEW is none, for this, which isn't
  -- want of memory. Or there was no memory.
  abbrev pub IsUncompared : (base_word new_word : List ℕ) → ComparedFault → Type 0
  IsUncompared base_word new_word (compared.Base why) =
      (why ≢ no_memory) × HasNoDocument (Opens (file_of base_word)) Gives bytes_of why
  IsUncompared base_word new_word (compared.New why) =
      (why ≢ no_memory)
      × ((base : Profile) × IsDocumentIn (Opens (file_of base_word)) bytes_of base)
      × HasNoDocument (Opens (file_of new_word)) Gives bytes_of why
  IsUncompared base_word new_word (compared.NoMemory _) = Unit {0}

-- What an output has after what it had, of files of which this is known as they are opened at a
-- path and read, and whose bytes are these.
module _ {F O : Type 0} (Opens : List ℕ → Result F Error → Type 0)
    (Gives : F → F → Result ℕ Error → List ℕ → Type 0) (bytes_of : F → Option (List ℕ))
    (contents : O → Option (List ℕ)) (output wrote : Counted O) where
  -- the file that a word names couldn't be opened, and nothing was printed
  abbrev pub IsUnopened : (word : List ℕ) → Type 0
  IsUnopened word = ((e : Error) × Opens (file_of word) (Err e)) × (wrote ≡ output)

  -- the file that a word names has no document, for this, and nothing was printed
  abbrev pub GaveNothing : (word : List ℕ) → FileFault → Type 0
  GaveNothing word why =
      IsRefused (Opens (file_of word)) Gives bytes_of why × (wrote ≡ output)

  -- `check` fails: no file can be opened, it has no document, or its text was cut
  abbrev pub FailsToCheck : (word : List ℕ) → CommandFault → Type 0
  FailsToCheck word fault.Open = IsUnopened word
  FailsToCheck word (fault.File why) = GaveNothing word why
  FailsToCheck word fault.Write =
      (file : F) × (text : String Global) × Opens (file_of word) (Ok file)
      × IfSome (bytes_of file) (λ bytes. IsChecked bytes (Ok text))
      × IsCut contents output wrote (string_bytes text)
  FailsToCheck word _ = ⊥

  -- `execve` fails: its words describe no execution; or they do, and the same of the file
  abbrev pub FailsToExecute : ExecveWords → CommandFault → Type 0
  FailsToExecute words (fault.Execution why) =
      (execution_of words ≡ Err why) × (wrote ≡ output)
  FailsToExecute words fault.Open =
      ((execution : Execution) × (execution_of words ≡ Ok execution)) × IsUnopened words.file.now
  FailsToExecute words (fault.File why) =
      ((execution : Execution) × (execution_of words ≡ Ok execution))
      × GaveNothing words.file.now why
  FailsToExecute words fault.Write =
      (file : F) × (execution : Execution) × (outcome : ExecveOutcome)
      × (execution_of words ≡ Ok execution) × Opens (file_of words.file.now) (Ok file)
      × IfSome (bytes_of file) (λ bytes. IsExecuted execution bytes (Ok outcome))
      × IsCut contents output wrote (outcome_text outcome)
  FailsToExecute words _ = ⊥

  -- `compare` fails: the documents weren't compared, or the text of the findings was cut
  abbrev pub FailsToCompare : (base_word new_word : List ℕ) → CommandFault → Type 0
  FailsToCompare base_word new_word (fault.Compared why) =
      IsUncompared Opens Gives bytes_of base_word new_word why × (wrote ≡ output)
  FailsToCompare base_word new_word fault.Write =
      (text : String Global) × WereCompared Opens bytes_of base_word new_word text
      × IsCut contents output wrote (string_bytes text)
  FailsToCompare base_word new_word _ = ⊥

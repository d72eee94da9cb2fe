-- What `check`, `execve` and `compare` print of which bytes, and their status.
use Rattle.std.specs.Prelude.{◌≡◌, ℕ, List, [], ◌∷◌, Option, Result, Ok, IfSome}
use Rattle.std.specs.Prelude.{String, bytes_eq, codes, if◌then◌else◌, string_bytes}
use Rattle.std.specs.declared.alloc.Global.{Global}
use Rattle.std.specs.declared.io.Error.{Error}
use Rattle.command_line.specs.declared.command.ExecveWords.{ExecveWords}
use Rattle.desk_http.specs.Lines.{IsWhole}
use Rattle.streams.specs.declared.counted.Counted.{Counted}
use Rattle.profile_commands.specs.Comparing.{IsCompared}
use Rattle.profile_commands.specs.Executions.{execution_of, IsExecuted}
use Rattle.profile_commands.specs.Refusal.{IsChecked}
use Rattle.profile_commands.specs.declared.execution.Execution.{Execution}
use Rattle.profile_commands.specs.declared.execve.ExecveOutcome.{ExecveOutcome}
use Rattle.profile_commands.specs.declared.execve.ExecveOutcome.TheVariants.{Done, Denied}
use Rattle.profile_text.specs.Reading.{reading_of}
use Rattle.profile_text.specs.declared.profile.Profile.{Profile}

-- the path of the file that a word names for a document: `-` is standard input
unfoldable pub file_of : List ℕ → List ℕ
file_of word = if bytes_eq word (codes "-") then codes "/dev/stdin" else word

-- what is printed of an execve: the lines of the state after it, or EPERM
abbrev pub outcome_text : ExecveOutcome → List ℕ
outcome_text (Done text) = string_bytes text
outcome_text Denied = codes "EPERM\n"

-- the status of an execve: 0 where it is done, and 1 where it is denied
abbrev pub outcome_status : ExecveOutcome → ℕ
outcome_status (Done text) = 0
outcome_status Denied = 1

-- the status of a comparison: whether it printed findings
abbrev pub findings_status : List ℕ → ℕ
findings_status [] = 0
findings_status (byte ∷ text) = 1

-- of a file of which this is known as it is opened, and whose bytes are these
module _ {F : Type 0} (Opened : Result F Error → Type 0) (bytes_of : F → Option (List ℕ)) where
  -- the file was opened, and gave bytes that read as its own, where those are known
  abbrev pub AreBytesOf : List ℕ → Type 0
  AreBytesOf bytes = (file : F) × Opened (Ok file)
      × IfSome (bytes_of file) (λ all. reading_of all ≡ reading_of bytes)

  -- the file was opened, and this document is in it, where its bytes are known
  abbrev pub IsDocumentIn : Profile → Type 0
  IsDocumentIn profile = (file : F) × Opened (Ok file)
      × IfSome (bytes_of file) (λ all. reading_of all ≡ Ok profile)

-- of the files that two words name, BASE and NEW, of which this is known as they are opened, and whose
-- bytes are these, the text says what NEW permits more
abbrev pub WereCompared : {F : Type 0} → (Opens : List ℕ → Result F Error → Type 0)
    → (bytes_of : F → Option (List ℕ)) → (base_word new_word : List ℕ) → String Global → Type 0
WereCompared {F} Opens bytes_of base_word new_word text =
    (base shown : F) × Opens (file_of base_word) (Ok base) × Opens (file_of new_word) (Ok shown)
    × IfSome (bytes_of base) (λ b. IfSome (bytes_of shown) (λ s. IsCompared b s text))

-- What an output has after what it had, of files of which this is known as they are opened at a
-- path, and whose bytes are these.
module _ {F O : Type 0} (Opens : List ℕ → Result F Error → Type 0)
    (bytes_of : F → Option (List ℕ)) (contents : O → Option (List ℕ))
    (output wrote : Counted O) where
  -- `check`: the canonical text of the document in the file that a word names, and a line feed
  pub record HasChecked (word : List ℕ) : Type 0 where
    pub file : F
    pub opened : Opens (file_of word) (Ok file)
    pub text : String Global
    pub checked : IfSome (bytes_of file) (λ bytes. IsChecked bytes (Ok text))
    pub printed : IsWhole contents output wrote (string_bytes text)

  -- `execve`: what comes of the execution that the words describe, for the document in the file that they
  -- name
  pub record HasExecuted (words : ExecveWords) (status : ℕ) : Type 0 where
    pub file : F
    pub opened : Opens (file_of words.file.now) (Ok file)
    pub execution : Execution
    pub outcome : ExecveOutcome
    pub described : execution_of words ≡ Ok execution
    pub executed : IfSome (bytes_of file) (λ bytes. IsExecuted execution bytes (Ok outcome))
    pub printed : IsWhole contents output wrote (outcome_text outcome)
    pub ended : status ≡ outcome_status outcome

  -- `compare`: the findings between the documents in the files that two words name, BASE and NEW
  pub record HasCompared (base_word new_word : List ℕ) (status : ℕ) : Type 0 where
    pub base : F
    pub base_opened : Opens (file_of base_word) (Ok base)
    pub shown : F
    pub shown_opened : Opens (file_of new_word) (Ok shown)
    pub text : String Global
    pub compared : IfSome (bytes_of base)
        (λ b. IfSome (bytes_of shown) (λ s. IsCompared b s text))
    pub printed : IsWhole contents output wrote (string_bytes text)
    pub ended : status ≡ findings_status (string_bytes text)

-- Why a command failed, by what its parts say of it.
use Rattle.std.proofs.Common.{◌≡◌, ◌≢◌, ℕ, List, Option, Result, Ok, Err, inl, inr, subst, sym}
use Rattle.std.specs.Prelude.{IfErr, IfSome, IsErrAnd, String, string_bytes}
use Rattle.std.specs.declared.alloc.Global.{Global}
use Rattle.std.specs.declared.io.Error.{Error}
use Rattle.command_line.specs.declared.command.ExecveWords.{ExecveWords}
use Rattle.desk_http.specs.Lines.{IsCut}
use Rattle.profile_text.specs.declared.profile.Profile.{Profile}
use Rattle.profile_commands.specs.Comparing.{IsToldOfNew}
use Rattle.profile_commands.specs.Executions.{execution_of, IsExecuted}
use Rattle.profile_commands.specs.Refusal.{IsChecked}
use Rattle.profile_commands.specs.declared.compare.ComparedFault.{ComparedFault}
use Rattle.profile_commands.specs.declared.execution.Execution.{Execution}
use Rattle.profile_commands.specs.declared.execve.ExecveOutcome.{ExecveOutcome}
use Rattle.profile_commands.specs.declared.fault.FileFault.{FileFault}
use Rattle.streams.specs.declared.counted.Counted.{Counted}
use Rattle.reading_commands.specs.Documents.{file_of, outcome_text, IsDocumentIn, WereCompared}
use Rattle.reading_commands.specs.DocumentFailures.{FailsToCheck, FailsToCompare, FailsToExecute}
use Rattle.reading_commands.specs.DocumentFailures.{HasNoDocument, IsUncompared}
use Rattle.command_host.specs.declared.fault.CommandFault.{CommandFault}
use Rattle.command_host.specs.declared.fault.CommandFault.TheVariants as fault

-- a result that is this error fails as it does
pub failed_by : {A : Type 0} (Fails : CommandFault → Type 0) (result : Result A CommandFault) (why : CommandFault) → IsErrAnd result (λ r. r ≡ why) → Fails why
    → IfErr result Fails
failed_by Fails (Ok a) why is fails = tt
failed_by Fails (Err e) why is fails = subst Fails (sym is) fails

-- ---- the commands

module _ {F O : Type 0} (Opens : List ℕ → Result F Error → Type 0) (Gives : F → F → Result ℕ Error → List ℕ → Type 0) (bytes_of : F → Option (List ℕ)) (contents : O → Option (List ℕ))
    (output wrote : Counted O) where
  module _ (word : List ℕ) where
    pub check_cut : (why : CommandFault) (it : F) (text : String Global) (printed : List ℕ) → Opens (file_of word) (Ok it) → IfSome (bytes_of it) (λ bytes. IsChecked bytes (Ok text))
        → printed ≡ string_bytes text → (why ≡ fault.Write) × IsCut contents output wrote printed → FailsToCheck Opens Gives bytes_of contents output wrote word why
    check_cut why it text printed opened checked is cut =
        subst (λ (w : CommandFault). FailsToCheck Opens Gives bytes_of contents output wrote word w) (sym cut.0)
        (it, text, opened, checked, subst (λ (t : List ℕ). IsCut contents output wrote t) is cut.1)

  module _ (words : ExecveWords) (execution : Execution) (described : execution_of words ≡ Ok execution) where
    pub execve_cut : (why : CommandFault) (it : F) (outcome : ExecveOutcome) (printed : List ℕ) → Opens (file_of words.file.now) (Ok it)
        → IfSome (bytes_of it) (λ bytes. IsExecuted execution bytes (Ok outcome)) → printed ≡ outcome_text outcome
        → (why ≡ fault.Write) × IsCut contents output wrote printed → FailsToExecute Opens Gives bytes_of contents output wrote words why
    execve_cut why it outcome printed opened executed is cut =
        subst (λ (w : CommandFault). FailsToExecute Opens Gives bytes_of contents output wrote words w) (sym cut.0)
        (it, execution, outcome, described, opened, executed, subst (λ (t : List ℕ). IsCut contents output wrote t) is cut.1)

  module _ (base_word new_word : List ℕ) where
    pub compare_cut : (why : CommandFault) (text : String Global) (printed : List ℕ) → WereCompared Opens bytes_of base_word new_word text → printed ≡ string_bytes text
        → (why ≡ fault.Write) × IsCut contents output wrote printed → FailsToCompare Opens Gives bytes_of contents output wrote base_word new_word why
    compare_cut why text printed compared is cut =
        subst (λ (w : CommandFault). FailsToCompare Opens Gives bytes_of contents output wrote base_word new_word w) (sym cut.0)
        (text, compared, subst (λ (t : List ℕ). IsCut contents output wrote t) is cut.1)

-- ---- two documents

module _ {F : Type 0} (Opens : List ℕ → Result F Error → Type 0) (Gives : F → F → Result ℕ Error → List ℕ → Type 0) (bytes_of : F → Option (List ℕ))
    (base_word new_word : List ℕ) where
  pub new_refused : (base : Profile) (why : FileFault) (told : ComparedFault) → IsDocumentIn (Opens (file_of base_word)) bytes_of base → IsToldOfNew why told
      → HasNoDocument (Opens (file_of new_word)) Gives bytes_of why → IsUncompared Opens Gives bytes_of base_word new_word told
  new_refused base why told read (inl it) none = subst (λ (t : ComparedFault). IsUncompared Opens Gives bytes_of base_word new_word t) (sym it.1) tt
  new_refused base why told read (inr it) none =
      subst (λ (t : ComparedFault). IsUncompared Opens Gives bytes_of base_word new_word t) (sym it.1) (it.0, (base, read), none)

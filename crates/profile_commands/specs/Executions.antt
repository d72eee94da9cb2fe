-- How a process executes its file, by the words of `execve`, and what comes of it: capabilities(7),
-- "Transformation of capabilities during execve()".
use Rattle.std.specs.Prelude.{◌≡◌, ℕ, Bool, ◌||◌, List, Option, Some, None, is_some, option_map}
use Rattle.std.specs.Prelude.{Result, Ok, Err, string_bytes, if◌then◌else◌, option_copied}
use Rattle.std.specs.List.{find}
use Rattle.cap_sets.specs.declared.exec.File.TheVariants.{Plain, WithCaps}
use Rattle.cap_sets.specs.declared.state.CapState.{CapState}
use Rattle.cap_sets.specs.Execve.{IsAfter, IsAfterRoot, IsDenied}
use Rattle.command_line.specs.declared.command.ExecveWords.{ExecveWords}
use Rattle.profile_text.specs.declared.profile.Profile.{Profile}
use Rattle.profile_text.specs.Reading.{reading_of}
use Rattle.review_sheet.specs.Sets.{state_text}
use Rattle.profile_commands.specs.declared.execution.Execution.{Execution}
use Rattle.profile_commands.specs.declared.execution.Execution.TheVariants.{ByRoot, OfFile}
use Rattle.profile_commands.specs.declared.execution.ExecutionFault.{ExecutionFault}
use Rattle.profile_commands.specs.declared.execution.ExecutionFault.TheVariants.{RootTakesNoFile}
use Rattle.profile_commands.specs.declared.execution.ExecutionFault.TheVariants.{UnknownCapability}
use Rattle.profile_commands.specs.declared.fault.FileFault.{FileFault}
use Rattle.profile_commands.specs.declared.execve.ExecveOutcome.{ExecveOutcome}
use Rattle.profile_commands.specs.declared.execve.ExecveOutcome.TheVariants.{Done, Denied}
use Rattle.profile_commands.specs.Lists.{is_unknown, parts_of, set_listed}
use Rattle.profile_commands.specs.Refusal.{RefusesAs}

-- an option gives the file capabilities
abbrev pub takes_file : ExecveWords → Bool
takes_file words =
    is_some words.file_permitted || (is_some words.file_inheritable || words.file_effective)

-- the set of an option of the file, empty where it isn't given
abbrev pub set_given : Option (List ℕ) → Option ℕ
set_given None = Some 0
set_given (Some list) = set_listed list

-- the file with these two sets and this bit, where each set is one
abbrev pub file_given : Option ℕ → Option ℕ → Bool → Result Execution ExecutionFault
file_given (Some permitted) (Some inheritable) effective =
    Ok (OfFile (WithCaps permitted inheritable effective))
file_given (Some permitted) None effective = Err UnknownCapability
file_given None inheritable effective = Err UnknownCapability

-- the execution that the words describe: root takes no file, and with no option of the file it is
-- plain
abbrev pub execution_of : ExecveWords → Result Execution ExecutionFault
execution_of words =
    if takes_file words
    then (if words.root then Err RootTakesNoFile
    else file_given (set_given (option_map (λ s. s.now) words.file_permitted))
    (set_given (option_map (λ s. s.now) words.file_inheritable)) words.file_effective)
    else (if words.root then Ok ByRoot else Ok (OfFile Plain))

-- the first part of a LIST that is the name of no capability, where the LIST is given
abbrev pub unknown_given : Option (List ℕ) → Option (List ℕ)
unknown_given None = None
unknown_given (Some list) = find is_unknown (parts_of list)

-- the first of two, where there is one, and else the other
abbrev pub first_of : Option (List ℕ) → Option (List ℕ) → Option (List ℕ)
first_of None other = other
first_of (Some text) other = Some text

-- of the LISTs of `execve` the first part that is the name of no capability
abbrev pub unknown_of : ExecveWords → Option (List ℕ)
unknown_of words =
    first_of (unknown_given (option_copied words.file_permitted))
    (unknown_given (option_copied words.file_inheritable))

-- the outcome is the lines of this state
abbrev pub IsDone : CapState → ExecveOutcome → Type 0
IsDone after (Done text) = string_bytes text ≡ state_text after
IsDone after Denied = ⊥

-- what comes of execve: the lines of a state after it, or EPERM where there is none
abbrev pub IsOutcome : Execution → CapState → ExecveOutcome → Type 0
IsOutcome ByRoot before outcome =
    (after : CapState) × IsAfterRoot before after × IsDone after outcome
IsOutcome (OfFile file) before Denied = IsDenied before file
IsOutcome (OfFile file) before outcome =
    (after : CapState) × IsAfter before file after × IsDone after outcome

-- what comes of it in a process that has the sets of what the bytes read as
abbrev pub IsExecuted : Execution → List ℕ → Result ExecveOutcome FileFault → Type 0
IsExecuted execution bytes (Ok outcome) =
    (profile : Profile) × (reading_of bytes ≡ Ok profile)
    × IsOutcome execution profile.caps outcome
IsExecuted execution bytes (Err fault) = RefusesAs bytes fault

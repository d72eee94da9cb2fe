-- Which argument of a command a refusal is about.
use Rattle.std.specs.Prelude.{ℕ, ◌==◌, Bool, true, if◌then◌else◌, List, Option, Some, None, codes}
use Rattle.std.specs.Prelude.{length, map, option_copied, option_map}
use Rattle.std.specs.List.{find}
use Rattle.command_line.specs.declared.command.EvidenceWords.{EvidenceWords}
use Rattle.command_line.specs.declared.command.ExecveWords.{ExecveWords}
use Rattle.command_line.specs.declared.command.HistoryWords.{HistoryWords}
use Rattle.command_line.specs.declared.command.InitWords.{InitWords}
use Rattle.profile_commands.specs.Executions.{unknown_of}
use Rattle.profile_commands.specs.Lists.{is_unknown}
use Rattle.profile_commands.specs.declared.execution.ExecutionFault.TheVariants as execution
use Rattle.office_words.specs.Words.{is_word}
use Rattle.command_host.specs.Unread.{unread_at}
use Rattle.command_host.specs.declared.fault.CommandFault.{CommandFault}
use Rattle.command_host.specs.declared.fault.CommandFault.TheVariants as fault
use Rattle.command_host.specs.declared.founding_fault.FoundingWordsFault.TheVariants as words

-- a word of a command line as it is shown: as a shell writes it where it is empty
abbrev pub shown : List ℕ → List ℕ
shown word = if length word == 0 then codes "''" else word

-- a text is a word, where it is given
abbrev pub is_given_word : Option (List ℕ) → Bool
is_given_word None = true
is_given_word (Some text) = is_word text

-- of the words of `init` the argument that isn't of its form, where one of them isn't
abbrev pub wrong_of_init : InitWords → List ℕ
wrong_of_init words =
    if is_word words.name.now
    then (if is_word words.team.now then codes "DIGEST" else codes "TEAM")
    else codes "NAME"

-- the same of those of `history`
abbrev pub wrong_of_history : HistoryWords → List ℕ
wrong_of_history words =
    if is_given_word (option_copied words.team)
    then (if is_given_word (option_copied words.profile) then codes "--user" else codes "--profile")
    else codes "--team"

-- the same of those of `evidence`
abbrev pub wrong_of_evidence : EvidenceWords → List ℕ
wrong_of_evidence words = if is_word words.team.now then codes "PROFILE" else codes "TEAM"

-- what a refusal of `init` is about: the argument that isn't of its form, by its name, or the first
-- CAP that is the name of no capability
abbrev pub subject_of_init : InitWords → CommandFault → Option (List ℕ)
subject_of_init given (fault.FoundingWords words.BadWord) = Some (wrong_of_init given)
subject_of_init given (fault.FoundingWords words.UnknownCapability) =
    option_map shown (find is_unknown (map (λ name. name.now) given.capabilities.items))
subject_of_init given _ = None

-- what one of `execve` is about: the first part of a LIST that is the name of no capability, or the
-- file that couldn't be read
abbrev pub subject_of_execve : ExecveWords → CommandFault → Option (List ℕ)
subject_of_execve given (fault.Execution execution.UnknownCapability) =
    option_map shown (unknown_of given)
subject_of_execve given why = unread_at given.file.now why

-- what one of `history` is about: the option whose value is no word, or the journal that couldn't be
-- read
abbrev pub subject_of_history : HistoryWords → CommandFault → Option (List ℕ)
subject_of_history given fault.NotAWord = Some (wrong_of_history given)
subject_of_history given why = unread_at given.journal.now why

-- what one of `evidence` is about: the argument that is no word, or the journal that couldn't be read
abbrev pub subject_of_evidence : EvidenceWords → CommandFault → Option (List ℕ)
subject_of_evidence given fault.NotAWord = Some (wrong_of_evidence given)
subject_of_evidence given why = unread_at given.journal.now why

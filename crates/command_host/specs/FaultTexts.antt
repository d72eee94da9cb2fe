-- The words of why a command is refused or failed.
use Rattle.std.specs.Prelude.{ℕ, List, ◌++◌, codes}
use Rattle.desk_lines.specs.Faults.{desk_fault_word}
use Rattle.journal_faults.specs.DifferenceTexts.{difference_text}
use Rattle.journal_faults.specs.FaultTexts.{no_evidence_text, not_reopened_text, refused_text, unwritten_text}
use Rattle.journal_faults.specs.declared.unverified.Unverified.{Unverified}
use Rattle.journal_faults.specs.declared.unverified.Unverified.TheVariants as unverified
use Rattle.office_founding.specs.Faults.{founding_fault_word, migration_fault_word}
use Rattle.office_founding.specs.Faults.{opening_fault_word}
use Rattle.office_words.specs.WordTables.{fault_word}
use Rattle.profile_commands.specs.declared.execution.ExecutionFault.{ExecutionFault}
use Rattle.profile_commands.specs.declared.execution.ExecutionFault.TheVariants as execution
use Rattle.profile_commands.specs.FaultTexts.{compared_fault_text, file_fault_text}
use Rattle.command_host.specs.declared.fault.CommandFault.{CommandFault}
use Rattle.command_host.specs.declared.fault.CommandFault.TheVariants as fault
use Rattle.command_host.specs.declared.founding_fault.FoundingWordsFault.{FoundingWordsFault}
use Rattle.command_host.specs.declared.founding_fault.FoundingWordsFault.TheVariants as words

-- why the words of `init` describe no founding
abbrev pub founding_words_fault_word : FoundingWordsFault → List ℕ
founding_words_fault_word words.BadWord = codes "bad-word"
founding_words_fault_word words.UnknownCapability = codes "unknown-capability"
founding_words_fault_word (words.NoMemory _) = codes "memory"

-- why those of `execve` describe no execution
abbrev pub execution_fault_word : ExecutionFault → List ℕ
execution_fault_word execution.RootTakesNoFile = codes "root-takes-no-file"
execution_fault_word execution.UnknownCapability = codes "unknown-capability"

-- why an office isn't the one of its journal
abbrev pub unverified_text : Unverified → List ℕ
unverified_text (unverified.Refused refused) = refused_text refused
unverified_text (unverified.Differs row) = codes "differs: " ++ difference_text row
unverified_text unverified.OtherSeal = codes "other-seal"
unverified_text (unverified.Fault why) = fault_word why

-- why a command was refused or failed
abbrev pub command_fault_text : CommandFault → List ℕ
command_fault_text (fault.Execution why) = execution_fault_word why
command_fault_text fault.Open = codes "read"
command_fault_text (fault.File why) = file_fault_text why
command_fault_text (fault.Compared why) = compared_fault_text why
command_fault_text (fault.FoundingWords why) = founding_words_fault_word why
command_fault_text (fault.Founding why) = founding_fault_word why
command_fault_text (fault.Migration why) = migration_fault_word why
command_fault_text (fault.Store why) = fault_word why
command_fault_text (fault.Opening why) = opening_fault_word why
command_fault_text fault.Close = codes "disk"
command_fault_text fault.JournalThere = codes "journal-there"
command_fault_text fault.Busy = codes "busy"
command_fault_text fault.Journal = codes "journal"
command_fault_text fault.JournalUnnamed = codes "journal"
command_fault_text fault.JournalParted = codes "journal"
command_fault_text (fault.Reopening why) = not_reopened_text why
command_fault_text fault.SameFile = codes "same-file"
command_fault_text (fault.Unverified why) = unverified_text why
command_fault_text (fault.Unbuilt refused) = refused_text refused
command_fault_text fault.TooLarge = codes "too-large"
command_fault_text (fault.Endless none) = codes "too-many-reads"
command_fault_text (fault.Unwritten why) = unwritten_text why
command_fault_text (fault.NoEvidence why) = no_evidence_text why
command_fault_text fault.NotAWord = codes "bad-word"
command_fault_text (fault.Desk why) = desk_fault_word why
command_fault_text fault.Bind = codes "bind"
command_fault_text fault.Write = codes "write"
command_fault_text (fault.NoMemory _) = codes "memory"

use Rattle.std.proofs.Common.{[]}
use Rattle.journal.specs.Lines.{done, text_of}
use Rattle.example_tests.specs.JournalExamples.{first_line}
use Rattle.example_tests.proofs.Leavings.{never_ending, never_ending_nothing, nothing_left, part_left, whole_left}
use Rattle.example_tests.proofs.Lines.{first_lines_say, first_says}
use Rattle.example_tests.proofs.examples.leavings.examples_of_journals_being_ended.Goals as goal

pub returns-clause-nothing : goal.returns-clause-nothing
returns-clause-nothing c = record { before = first_line; says = first_says; number = 1; with_done = first_lines_say; left = nothing_left first_line [] (text_of (done 1)) }

pub returns-clause-part : goal.returns-clause-part
returns-clause-part c = record { before = first_line; says = first_says; number = 1; with_done = first_lines_say; left = part_left first_line (text_of (done 1)) }

pub returns-clause-whole : goal.returns-clause-whole
returns-clause-whole c = record { before = first_line; says = first_says; number = 1; with_done = first_lines_say; left = whole_left first_line (text_of (done 1)) }

pub returns-clause-no_journal : goal.returns-clause-no_journal
returns-clause-no_journal c = never_ending_nothing

pub returns-clause-too_long : goal.returns-clause-too_long
returns-clause-too_long c = never_ending

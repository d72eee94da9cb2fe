use Rattle.std.proofs.Common.{inl, inr, [], Some, None}
use Rattle.journal.specs.Begun.{with_event}
use Rattle.journal.specs.Lines.{happened, strike, text_of}
use Rattle.example_tests.specs.Examples.{enrols}
use Rattle.example_tests.specs.JournalExamples.{first_line, first_lines, second_lines}
use Rattle.example_tests.proofs.Founded.{enrols_allowed, founded_once}
use Rattle.example_tests.proofs.Leavings.{never_begun, never_begun_nothing, nothing_left, part_left, whole_left}
use Rattle.example_tests.proofs.Lines.{enrols_forms, first_lines_say, first_says}
use Rattle.example_tests.proofs.examples.leavings.examples_of_events_that_are_begun.Goals as goal

pub returns-clause-nothing : goal.returns-clause-nothing
returns-clause-nothing c = record {
  before = first_line;
  says = first_says;
  settling = None;
  settled = first_says;
  allowed = enrols_allowed;
  forms = enrols_forms;
  left = inl (nothing_left first_line [] (text_of (happened enrols)));
}

pub returns-clause-part : goal.returns-clause-part
returns-clause-part c = record {
  before = first_line;
  says = first_says;
  settling = None;
  settled = first_says;
  allowed = enrols_allowed;
  forms = enrols_forms;
  left = inl (part_left first_line (text_of (happened enrols)));
}

pub returns-clause-whole : goal.returns-clause-whole
returns-clause-whole c = record {
  before = first_line;
  says = first_says;
  settling = None;
  settled = first_says;
  allowed = enrols_allowed;
  forms = enrols_forms;
  left = inr (nothing_left second_lines [] (text_of strike));
}

pub returns-clause-settled : goal.returns-clause-settled
returns-clause-settled c = record {
  before = first_line;
  says = first_says;
  settling = Some 1;
  settled = first_lines_say;
  allowed = enrols_allowed;
  forms = enrols_forms;
  left = inr (nothing_left (with_event first_lines enrols) [] (text_of strike));
}

pub returns-clause-struck : goal.returns-clause-struck
returns-clause-struck c = record {
  before = first_line;
  says = first_says;
  settling = None;
  settled = first_says;
  allowed = enrols_allowed;
  forms = enrols_forms;
  left = inr (whole_left second_lines (text_of strike));
}

pub returns-clause-no_journal : goal.returns-clause-no_journal
returns-clause-no_journal c = never_begun_nothing

pub returns-clause-not_allowed : goal.returns-clause-not_allowed
returns-clause-not_allowed c = λ file begun. founded_once begun.allowed

pub returns-clause-too_long : goal.returns-clause-too_long
returns-clause-too_long c = never_begun

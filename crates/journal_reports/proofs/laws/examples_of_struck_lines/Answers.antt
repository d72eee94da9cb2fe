use Rattle.journal_reports.proofs.StruckExamples.{two_are, json_are, four_are, three_are, whole_are}
use Rattle.journal_reports.proofs.laws.examples_of_struck_lines.Goals as goal

pub returns-clause-two : goal.returns-clause-two
returns-clause-two c = two_are

pub returns-clause-json : goal.returns-clause-json
returns-clause-json c = json_are

pub returns-clause-four : goal.returns-clause-four
returns-clause-four c = four_are

pub returns-clause-whole : goal.returns-clause-whole
returns-clause-whole c = whole_are

pub returns-clause-carried_out_first : goal.returns-clause-carried_out_first
returns-clause-carried_out_first c = three_are

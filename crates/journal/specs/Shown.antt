-- The lines that the program's values are.
use Rattle.office_policy.specs.Happened.{event_meant}
use Rattle.journal.specs.declared.line.Line as of_lines
use Rattle.journal.specs.declared.line.Line.TheVariants as lines
use Rattle.journal.specs.Lines.{Line, happened, strike, done}

abbrev pub shown : of_lines.Line → Line
shown (lines.Event e) = happened (event_meant e)
shown lines.Strike = strike
shown (lines.Done n) = done n

-- What the reader of a line returns; out of memory may come in place of any answer.
use Rattle.std.specs.Prelude.{◌≡◌, ◌≢◌, ℕ, List, Option, Some, None, Result, Ok, Err}
use Rattle.sealed_log.specs.declared.unreadable.Unreadable.{Unreadable}
use Rattle.sealed_log.specs.declared.unreadable.Unreadable.TheVariants.{NotALine, NoMemory}
use Rattle.journal.specs.declared.line.Line as of_lines
use Rattle.journal.specs.Forms.{IsFormed}
use Rattle.journal.specs.Lines.{Line, text_of}
use Rattle.journal.specs.Shown.{shown}

-- the text is that of the line that is read, which has its forms; where none is, it is that of no
-- line with its forms
abbrev pub IsRead : List ℕ → Result of_lines.Line Unreadable → Type 0
IsRead text (Ok line) = (text ≡ text_of (shown line)) × IsFormed (shown line)
IsRead text (Err NotALine) = (line : Line) → IsFormed line → text ≢ text_of line
IsRead text (Err (NoMemory _)) = Unit {0}
IsRead text (Err why) = ⊥

-- what a text may be is found as the definition has it
abbrev pub IsCandidate : Result of_lines.Line Unreadable → Option Line → Type 0
IsCandidate (Ok line) candidate = candidate ≡ Some (shown line)
IsCandidate (Err NotALine) candidate = candidate ≡ None
IsCandidate (Err (NoMemory _)) candidate = Unit {0}
IsCandidate (Err why) candidate = ⊥

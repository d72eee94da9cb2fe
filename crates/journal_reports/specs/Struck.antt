-- The lines of a history for what was struck out: that a line's event didn't happen, and that the
-- next line says so.
use Rattle.std.specs.Prelude.{ℕ, ◌+◌, ◌-◌, ◌%◌, zero, suc, List, [], ◌++◌, Bool, true, false, ◌&&◌}
use Rattle.std.specs.Prelude.{codes, decimal, if◌then◌else◌, is_none, nat_le}
use Rattle.journal_reports.specs.Passing.{Asked}

-- the line of an event that was struck out
abbrev pub struck_text : (json : Bool) → (line : ℕ) → List ℕ
struck_text false line = decimal line ++ codes "  didn't happen\n"
struck_text true line = codes "{\"event\":\"struck\",\"line\":" ++ decimal line ++ codes "}\n"

-- the line of a line that strikes out the one before it
abbrev pub strike_text : (json : Bool) → (line : ℕ) → List ℕ
strike_text false line =
    decimal line ++ codes "  struck out line " ++ decimal (line - 1) ++ codes "\n"
strike_text true line = codes "{\"event\":\"strike\",\"line\":" ++ decimal line ++ codes "}\n"

-- struck lines are asked for where all lines are, or all from one on
abbrev pub asks_for_all : Asked → Bool
asks_for_all asked = is_none asked.team && (is_none asked.profile && is_none asked.user)

abbrev pub shows_struck : Asked → (line : ℕ) → Bool
shows_struck asked line = nat_le asked.since line && asks_for_all asked

-- each where it is asked for
abbrev pub struck_of : Asked → (line : ℕ) → List ℕ
struck_of asked line = if shows_struck asked line then struck_text asked.json line else []

abbrev pub strike_of : Asked → (line : ℕ) → List ℕ
strike_of asked line = if shows_struck asked line then strike_text asked.json line else []

-- the lines for so many of the journal behind one: of each two the second strikes out the first
abbrev pub pair_lines : Asked → (behind : ℕ) → (count : ℕ) → List ℕ
pair_lines asked behind zero = []
pair_lines asked behind (suc zero) = []
pair_lines asked behind (suc (suc count)) =
    struck_of asked (behind + 1) ++ strike_of asked (behind + 2)
    ++ pair_lines asked (behind + 2) count

-- the lines for so many of the journal behind one that has an event which stands, by none of which one
-- stands: where their number is odd, the first says that this event is carried out, and is left out
abbrev pub struck_lines : Asked → (behind : ℕ) → (count : ℕ) → List ℕ
struck_lines asked behind count =
    pair_lines asked (behind + count % 2) (count - count % 2)

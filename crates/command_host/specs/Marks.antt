-- What the mark of a database says of the journal of its office.
use Rattle.std.specs.Prelude.{◌-◌, ◌^◌, ℕ, min, Bool, ◌==◌, ◌&&◌, if◌then◌else◌, not}

-- the mark of an office that went on without its journal
abbrev pub parted_mark : ℕ
parted_mark = 2 ^ 32 - 1

-- the mark beside a journal of so many lines
abbrev pub mark_of_lines : ℕ → ℕ
mark_of_lines lines = min lines (2 ^ 32 - 2)

-- of how many lines a mark tells
abbrev pub least_lines : ℕ → ℕ
least_lines mark = if mark == parted_mark then 0 else mark

-- an office of this mark has a journal
abbrev pub has_journal : ℕ → Bool
has_journal mark = not (mark == 0) && not (mark == parted_mark)

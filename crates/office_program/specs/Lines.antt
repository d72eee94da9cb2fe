-- What a terminal is told of a file that is read.
use Rattle.std.specs.Prelude.{ℕ, List, ◌++◌, ◌/◌, codes, decimal, max}
use Rattle.office_program.specs.declared.line.ReadSoFar.{ReadSoFar}

-- the number of whole megabytes, in digits
abbrev pub megabytes : ℕ → List ℕ
megabytes bytes = decimal (bytes / 1_000_000)

-- how much was read, and of how much: of a file that grew, of all that was read
abbrev pub so_far_text : ReadSoFar → List ℕ
so_far_text so_far = codes "office: read " ++ megabytes so_far.done
    ++ codes " of " ++ megabytes (max so_far.done so_far.whole) ++ codes " MB"

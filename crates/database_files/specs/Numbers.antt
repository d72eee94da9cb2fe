-- Numbers in a file, the most significant byte first.
use Rattle.std.specs.Prelude.{ℕ, ◌+◌, ◌*◌, List, slice_index}

-- the number in two bytes
abbrev pub short_at : (bytes : List ℕ) (at : ℕ) → ℕ
short_at bytes at = slice_index bytes at * 256 + slice_index bytes (at + 1)

-- the number in four bytes
abbrev pub long_at : (bytes : List ℕ) (at : ℕ) → ℕ
long_at bytes at = short_at bytes at * 65536 + short_at bytes (at + 2)

-- Decimal numbers.
use Rattle.std.specs.Prelude.{ℕ, ◌==◌, ◌&&◌, not, Bool, List, length, nat_lt, nat_le, slice_index}
use Rattle.std.specs.Prelude.{Option, Some, None, if◌then◌else◌}
use Rattle.std.specs.List.{list_all}
use Rattle.std.specs.Char.{is_ascii_digit}
use Rattle.std.specs.Str.Parse.{digits_value}
use Rattle.office_words.specs.Limits.{max_revisions}

-- one or more decimal digits
abbrev pub is_number : List ℕ → Bool
is_number text = nat_lt 0 (length text) && list_all is_ascii_digit text

-- 1 to 9999 without leading zeros
abbrev pub is_revision_number : List ℕ → Bool
is_revision_number text = not (slice_index text 0 == 48)
    && (is_number text && nat_le (digits_value 10 text) max_revisions)

-- the number of a revision
abbrev pub revision_number_of : List ℕ → Option ℕ
revision_number_of text = if is_revision_number text then Some (digits_value 10 text) else None

-- A text as it is said to people: no character of it controls a terminal, or the direction of a text.
use Rattle.std.specs.Prelude.{ℕ, ◌/◌, ◌%◌, ◌==◌, Bool, ◌||◌, false, if◌then◌else◌, List, [], ◌∷◌, ◌++◌, codes, flat_map}
use Rattle.std.specs.Char.{encode_utf8, is_control}
use Rattle.std.specs.Fmt.{digit_glyph}
use Rattle.std.specs.Int.{is_in_range}
use Rattle.std.specs.Str.{chars, NoCharPasses}

-- a character that sets the direction in which a text is shown, as RIGHT-TO-LEFT OVERRIDE
abbrev pub is_bidirectional : ℕ → Bool
is_bidirectional c = is_in_range 0x202A 0x202E c || is_in_range 0x2066 0x2069 c

-- one of those, or of U+0000 to U+001F or U+007F to U+009F, as ESC
abbrev pub is_escaped : ℕ → Bool
is_escaped c = is_control c || is_bidirectional c

-- a byte in two hexadecimal digits
abbrev pub digits_of : ℕ → List ℕ
digits_of byte = digit_glyph false (byte / 16) ∷ digit_glyph false (byte % 16) ∷ []

-- a character below U+10000 in four digits, as JSON may escape it
abbrev pub escape_of : ℕ → List ℕ
escape_of c = codes "\\u" ++ digits_of (c / 256) ++ digits_of (c % 256)

-- such a character stands as its escape; any other as it is
abbrev pub plain_char : ℕ → List ℕ
plain_char c = if is_escaped c then escape_of c else encode_utf8 c

unfoldable pub plain : List ℕ → List ℕ
plain text = flat_map plain_char (chars text)

-- a text of lines is escaped alike, but for the ends of its lines
abbrev pub plain_or_end : ℕ → List ℕ
plain_or_end c = if c == 10 then 10 ∷ [] else plain_char c

unfoldable pub plain_lines : List ℕ → List ℕ
plain_lines text = flat_map plain_or_end (chars text)

-- no character of a text is one of those
abbrev pub IsPlain : List ℕ → Type 0
IsPlain text = NoCharPasses is_escaped text

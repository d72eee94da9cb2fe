-- The forms of words and tokens.
use Rattle.std.specs.Prelude.{ℕ, List, Bool, ◌&&◌, ◌||◌, ◌==◌, nat_le, length}
use Rattle.std.specs.List.{list_all}

-- a-z, 0-9 and the hyphen
abbrev pub is_word_byte : ℕ → Bool
is_word_byte b = (nat_le 97 b && nat_le b 122) || (nat_le 48 b && nat_le b 57) || (b == 45)

-- a name of a user, a team or a profile: 1 to 64 such bytes
unfoldable pub is_word : List ℕ → Bool
is_word bytes = nat_le 1 (length bytes) && nat_le (length bytes) 64 && list_all is_word_byte bytes

-- the printed characters of ASCII without the space, 0x21 to 0x7E
abbrev pub is_token_byte : ℕ → Bool
is_token_byte b = nat_le 33 b && nat_le b 126

-- what a caller shows: 1 to 128 such bytes
unfoldable pub is_token : List ℕ → Bool
is_token bytes =
    nat_le 1 (length bytes) && nat_le (length bytes) 128 && list_all is_token_byte bytes

-- Digests as requests and command lines write them.
use Rattle.std.specs.Prelude.{ℕ, ◌&&◌, ◌||◌, List, Bool, Option, None, if◌then◌else◌, nat_le}
use Rattle.std.specs.List.{list_all}
use Rattle.std.specs.Result.{result_ok}
use Rattle.hex.specs.Hex.{decode_sized}

-- 0-9 and a-f
abbrev pub is_lower_digit : ℕ → Bool
is_lower_digit c = (nat_le 48 c && nat_le c 57) || (nat_le 97 c && nat_le c 102)

-- the 32 bytes that 64 lower-case hexadecimal digits write
unfoldable pub digest_from_hex : List ℕ → Option (List ℕ)
digest_from_hex text =
    if list_all is_lower_digit text then result_ok (decode_sized text 32) else None

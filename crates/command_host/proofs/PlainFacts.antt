-- No character of what is said to people controls a terminal, or the direction of a text.
use Rattle.std.proofs.Common.{◌≡◌, ℕ, ◌/◌, ◌%◌, ◌<◌, Bool, true, false, List, [], ◌∷◌, flat_map, append-nil, if◌then◌else◌, refl, arith, lit<}
use Rattle.std.proofs.lemmas.Bool.Decides.{nat_tests}
use Rattle.std.proofs.lemmas.Str.{NoCharPasses-append, NoCharPasses-nil, encode_ascii}
use Rattle.std.specs.Char.{encode_utf8}
use Rattle.std.specs.Fmt.{digit_glyph}
use Rattle.std.specs.Str.{chars, encode_utf8_all}
use Rattle.command_host.specs.Plain.{escape_of, is_escaped, plain, plain_char, IsPlain}

-- the sign of a hexadecimal digit is one of ASCII that controls nothing
glyph_ascii : (d : ℕ) → d < 16 → digit_glyph false d < 128
glyph_ascii d less = grind (arith, nat_tests)

glyph_plain : (d : ℕ) → d < 16 → is_escaped (digit_glyph false d) ≡ false
glyph_plain d less = grind (arith, nat_tests)

-- what stands as an escape is below U+10000
pub below_65536 : (c : ℕ) → is_escaped c ≡ true → c < 65536
below_65536 c is = grind (arith, nat_tests)

-- such a character is said as its escape
pub escaped : (c : ℕ) → is_escaped c ≡ true → escape_of c ≡ plain_char c
escaped c is = rw is refl

-- a text of these signs is its own characters
signs : (p q r s : ℕ) → p < 128 → q < 128 → r < 128 → s < 128 → encode_utf8_all (92 ∷ 117 ∷ p ∷ q ∷ r ∷ s ∷ []) ≡ 92 ∷ 117 ∷ p ∷ q ∷ r ∷ s ∷ []
signs p q r s p_ascii q_ascii r_ascii s_ascii =
    rw (encode_ascii 92 (lit< tt), encode_ascii 117 (lit< tt), encode_ascii p p_ascii, encode_ascii q q_ascii, encode_ascii r r_ascii, encode_ascii s s_ascii)
    refl

-- the escape of four digits
four_plain : (p q r s : ℕ) → p < 16 → q < 16 → r < 16 → s < 16
    → IsPlain (92 ∷ 117 ∷ digit_glyph false p ∷ digit_glyph false q ∷ digit_glyph false r ∷ digit_glyph false s ∷ [])
four_plain p q r s p_less q_less r_less s_less = (
  92 ∷ 117 ∷ digit_glyph false p ∷ digit_glyph false q ∷ digit_glyph false r ∷ digit_glyph false s ∷ [],
  signs _ _ _ _ (glyph_ascii p p_less) (glyph_ascii q q_less) (glyph_ascii r r_less) (glyph_ascii s s_less),
  (refl, (refl, (glyph_plain p p_less, (glyph_plain q q_less, (glyph_plain r r_less, (glyph_plain s s_less, tt)))))),
)

escape_plain : (c : ℕ) → c < 65536 → IsPlain (escape_of c)
escape_plain c less = four_plain (c / 256 / 16) (c / 256 % 16) (c % 256 / 16) (c % 256 % 16) (omega arith) (omega arith) (omega arith) (omega arith)

-- a character, as it is said
said_plain : (c : ℕ) (is_one : Bool) → is_escaped c ≡ is_one → IsPlain (if is_one then escape_of c else encode_utf8 c)
said_plain c true is = escape_plain c (below_65536 c is)
said_plain c false is = (c ∷ [], append-nil (encode_utf8 c), (is, tt))

char_plain : (c : ℕ) → IsPlain (plain_char c)
char_plain c = said_plain c (is_escaped c) refl

all_plain : (cs : List ℕ) → IsPlain (flat_map plain_char cs)
all_plain [] = NoCharPasses-nil is_escaped
all_plain (c ∷ cs) = NoCharPasses-append is_escaped (plain_char c) (flat_map plain_char cs) (char_plain c) (all_plain cs)

-- a text
pub is_plain : (text : List ℕ) → IsPlain (plain text)
unfolding plain
is_plain text = all_plain (chars text)

-- What is said of a refusal whose characters control no terminal.
use Rattle.std.proofs.Common.{◌≡◌, ◌∙◌, ◌<◌, ◌++◌, ℕ, Bool, true, false, List, [], ◌∷◌, Option, Some, None, if◌then◌else◌, codes, flat_map, refl, ap, ap₂, arith}
use Rattle.std.proofs.lemmas.Bool.{and_parts}
use Rattle.std.proofs.lemmas.Bool.Decides.{nat_tests}
use Rattle.std.proofs.lemmas.Str.{chars-IsAscii, encode_ascii}
use Rattle.std.proofs.lemmas.Str.Ascii.{IsAscii-cons, IsAscii-nil}
use Rattle.std.specs.Char.{is_ascii, is_control}
use Rattle.std.specs.List.{list_all}
use Rattle.std.specs.Str.{chars, IsAscii}
use Rattle.command_host.specs.Plain.{is_escaped, plain, plain_char}
use Rattle.command_host.specs.Said.{refusal_line}
use Rattle.command_host.specs.declared.fault.CommandFault.TheVariants.{Close, Open}

-- a character of ASCII that controls none
abbrev is_sign : ℕ → Bool
is_sign c = if is_control c then false else is_ascii c

sign_small : (c : ℕ) → is_sign c ≡ true → c < 128
sign_small c is = grind (arith, nat_tests)

sign_plain : (c : ℕ) → is_sign c ≡ true → plain_char c ≡ c ∷ []
sign_plain c is =
    let none : is_escaped c ≡ false = grind (arith, nat_tests) in
    rw none (encode_ascii c (sign_small c is))

signs_small : (text : List ℕ) → list_all is_sign text ≡ true → IsAscii text
signs_small [] all = IsAscii-nil
signs_small (c ∷ text) all =
    let parts = and_parts (is_sign c) (list_all is_sign text) all in
    IsAscii-cons c text (sign_small c parts.0) (signs_small text parts.1)

signs_plain : (text : List ℕ) → list_all is_sign text ≡ true → flat_map plain_char text ≡ text
signs_plain [] all = refl
signs_plain (c ∷ text) all =
    let parts = and_parts (is_sign c) (list_all is_sign text) all in
    ap₂ (λ a b. a ++ b) (sign_plain c parts.0) (signs_plain text parts.1)

-- such a text stands for itself
said : (text : List ℕ) → list_all is_sign text ≡ true → plain text ≡ text
unfolding plain
said text all = ap (flat_map plain_char) (chars-IsAscii text (signs_small text all)) ∙ signs_plain text all

pub disk_line : refusal_line Close None ≡ codes "office: disk\n"
disk_line = ap (λ (l : List ℕ). l ++ codes "\n") (said (codes "office: disk") refl)

pub read_line : refusal_line Open (Some (codes "a")) ≡ codes "office: read a\n"
read_line = ap (λ (l : List ℕ). l ++ codes "\n") (said (codes "office: read a") refl)

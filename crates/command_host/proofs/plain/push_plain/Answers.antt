use Rattle.std.proofs.Common.{◌≡◌, ◌∙◌, ℕ, ◌/◌, ◌%◌, ◌<◌, List, [], ◌∷◌, ◌++◌, Option, Some, Result, Ok, Err, IfSome, ap, sym, arith, false, refl}
use Rattle.std.specs.Prelude.{OnOk, if◌then◌else◌, is_ok}
use Rattle.std.specs.Fmt.{◌++?◌, styled_digits_output}
use Rattle.std.proofs.lemmas.Fmt.{hex_byte}
use Rattle.command_host.specs.Plain.{digits_of, escape_of}
use Rattle.command_host.proofs.PlainFacts.{below_65536, escaped}
use Rattle.command_host.proofs.plain.push_plain.Goals as goal

-- what was formatted is the escape
formatted : (high low : Option (List ℕ)) (c : ℕ) (text : List ℕ) → high ≡ Some (digits_of (c / 256)) → low ≡ Some (digits_of (c % 256))
    → IfSome (Some (92 ∷ 117 ∷ []) ++? (high ++? low)) (λ bs. text ≡ bs) → text ≡ escape_of c
formatted high low c text is_high is_low told = rw (is_high, is_low) at told

-- a text was appended
appended : {E : Type 0} (pushed : Result (Unit {0}) E) (now old text wanted : List ℕ) → now ≡ (if is_ok pushed then old ++ text else old) → text ≡ wanted
    → OnOk pushed (now ≡ old ++ wanted)
appended (Ok done) now old text wanted is same = is ∙ ap (λ t. old ++ t) same
appended (Err e) now old text wanted is same = tt

pub returns-in_ok-escape : goal.returns-in_ok-escape
returns-in_ok-escape c =
    let one = sym c.is_escaped.ensures ∙ c.if-is_escaped.true in
    let less : c.args.c < 65536 = below_65536 c.args.c one in
    let high : styled_digits_output c.in_radix.result c.laid_out.result ≡ Some (digits_of (c.args.c / 256)) =
    rw (c.laid_out.ensures, c.in_radix.ensures, hex_byte false (c.args.c / 256) (omega arith)) refl in
    let low : styled_digits_output c.in_radix-then-is_escaped.result c.laid_out-then-is_escaped.result ≡ Some (digits_of (c.args.c % 256)) =
    rw (c.laid_out-then-is_escaped.ensures, c.in_radix-then-is_escaped.ensures, hex_byte false (c.args.c % 256) (omega arith)) refl in
    appended c.push_str.result _ _ _ _ c.push_str.ensures.bytes
    (c.as_str.ensures.value ∙ formatted _ _ c.args.c _ high low c.in_ok-escape.ensures.ok ∙ escaped c.args.c one)

use Rattle.std.proofs.Common.{◌≡◌, ◌≤◌, ◌+◌, ◌*◌, ℕ, min, take, true, get_or, arith, ◌∙◌}
use Rattle.std.specs.List.{list_all}
use Rattle.std.specs.Char.{is_ascii_digit, digit_value}
use Rattle.std.specs.Str.Parse.{digits_value}
use Rattle.std.proofs.lemmas.Bool.Decides.{nat_tests}
use Rattle.std.proofs.lemmas.Int.Digits.{digits_value_more}
use Rattle.std.proofs.lemmas.List.Folds.{list_all_more}
use Rattle.http_requests.proofs.number.decimal.Goals as goal

capped : (cap v w n d : ℕ) → n ≡ min v cap → w ≡ v * 10 + d → min (n * 10 + d) cap ≡ min w cap
capped cap v w n d e f = omega arith

pub loop-b-preserved : goal.loop-b-preserved
loop-b-preserved c =
    let digit : digit_value (get_or c.args.text.now c.loop-b.b-index 0) ≡ c.from.result = grind (arith, nat_tests) in
    let all : list_all is_ascii_digit (take (c.loop-b.b-index + 1) c.args.text.now) ≡ true = grind (arith, nat_tests, list_all_more is_ascii_digit c.args.text.now c.loop-b.b-index 0 c.loop-b-test.true) in
    let value : digits_value 10 (take (c.loop-b.b-index + 1) c.args.text.now) ≡ digits_value 10 (take c.loop-b.b-index c.args.text.now) * 10 + c.from.result = omega (arith, digits_value_more 10 c.args.text.now c.loop-b.b-index c.loop-b-test.true) in
    let small : c.min-n.result ≤ c.args.cap = omega (arith, c.min-n.ensures) in
    (small, c.min-n.ensures ∙ capped _ _ _ _ _ c.loop-b.invariant.1 value, all)

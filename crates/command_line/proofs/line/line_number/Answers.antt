use Rattle.std.proofs.Common.{None, arith, refl}
use Rattle.clap.specs.Words.{found_of}
use Rattle.command_line.proofs.Getters.{lacks}
use Rattle.command_line.proofs.Numbers.{no_number, none_is_given, number_is, one_is_given}
use Rattle.command_line.proofs.line.line_number.Goals as goal

pub returns-in_err-line-clause-lacking : goal.returns-in_err-line-clause-lacking
returns-in_err-line-clause-lacking c =
    lacks _ _ (no_number 64 1 18446744073709551615 (found_of c.args.given.now) c.args.id.now None
    c.in_err-line.ensures.value (omega arith) (λ n above below. none_is_given None refl n))

pub returns-then-line-ge1-clause-number : goal.returns-then-line-ge1-clause-number
returns-then-line-ge1-clause-number c =
    number_is 64 1 18446744073709551615 c.in_ok-line.line (found_of c.args.given.now) c.args.id.now c.get_one.result
    c.get_one.ensures.none c.get_one.ensures.value c.in_ok-line.was
    (λ small. (c.if-line-ge1.true, omega (arith, small))) (omega arith)

pub returns-else-line-ge1-clause-lacking : goal.returns-else-line-ge1-clause-lacking
returns-else-line-ge1-clause-lacking c =
    let given = c.in_ok-line.line in
    no_number 64 1 18446744073709551615 (found_of c.args.given.now) c.args.id.now c.get_one.result c.get_one.ensures.value (omega arith)
    (λ n above below is.
    let same = one_is_given given n c.get_one.result c.in_ok-line.was is in
    absurd (omega (arith, c.if-line-ge1.false, above, same)))

use Rattle.std.proofs.Common.{arith, codes}
use Rattle.clap.specs.Words.{found_of}
use Rattle.command_line.proofs.Numbers.{no_number, none_is_given, number_is, where_none, where_some}
use Rattle.command_line.proofs.serve.port_of.Goals as goal

pub returns-clause-number : goal.returns-clause-number
returns-clause-number c =
    let one = c.get_one in
    where_some one.result _ (λ n is. number_is 16 0 65535 n (found_of c.args.given.now) (codes "port") one.result
    one.ensures.none one.ensures.value is (λ small. (omega arith, omega (arith, small))) (omega arith))

pub returns-clause-lacking : goal.returns-clause-lacking
returns-clause-lacking c =
    let one = c.get_one in
    where_none one.result _ (λ none. no_number 16 0 65535 (found_of c.args.given.now) (codes "port") one.result
    one.ensures.value (omega arith) (λ n above below. none_is_given one.result none n))

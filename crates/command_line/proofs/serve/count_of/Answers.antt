use Rattle.std.proofs.Common.{None, arith, codes, inl, inr, refl}
use Rattle.clap.specs.Words.{found_of}
use Rattle.command_line.proofs.Getters.{lacks}
use Rattle.command_line.proofs.Numbers.{no_number, none_is_given, number_is, one_is_given}
use Rattle.command_line.proofs.serve.count_of.Goals as goal

pub returns-in_err-requests-clause-lacking : goal.returns-in_err-requests-clause-lacking
returns-in_err-requests-clause-lacking c =
    lacks _ _ (no_number 32 1 1000000 (found_of c.args.given.now) (codes "requests") None
    c.in_err-requests.ensures.value (omega arith) (λ n above below. none_is_given None refl n))

pub returns-then-requests-le-MOST_REQUESTS-clause-number : goal.returns-then-requests-le-MOST_REQUESTS-clause-number
returns-then-requests-le-MOST_REQUESTS-clause-number c =
    number_is 32 1 1000000 c.in_ok-requests.requests (found_of c.args.given.now) (codes "requests") c.get_one.result
    c.get_one.ensures.none c.get_one.ensures.value c.in_ok-requests.was
    (λ small. (c.if-requests-ge1.true, c.if-requests-le-MOST_REQUESTS.true)) (omega arith)

pub returns-else-requests-ge1-clause-lacking : goal.returns-else-requests-ge1-clause-lacking
returns-else-requests-ge1-clause-lacking c =
    let given = c.in_ok-requests.requests in
    no_number 32 1 1000000 (found_of c.args.given.now) (codes "requests") c.get_one.result c.get_one.ensures.value (omega arith)
    (λ n above below is.
    let same = one_is_given given n c.get_one.result c.in_ok-requests.was is in
    elim c.else-requests-ge1.either [
      | inl past ↦ absurd (omega (arith, past.1, same))
      | inr short ↦ absurd (omega (arith, short, same))
    ])

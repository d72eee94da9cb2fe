use Rattle.std.proofs.Common.{Some, arith, subst, sym}
use Rattle.clap.specs.Words.{Text}
use Rattle.command_line.specs.Meaning.{IsNumberIn}
use Rattle.command_line.specs.Refusals.{NoKeptSeal}
use Rattle.command_line.proofs.Getters.{lacks}
use Rattle.command_line.proofs.seal.kept_seal.Goals as goal

pub returns-in_err-line-2-clause-none : goal.returns-in_err-line-2-clause-none
returns-in_err-line-2-clause-none c =
    let split = c.in_ok-line.ensures.byte (omega arith) (λ w o finds. finds) in
    lacks _ (NoKeptSeal c.args.text.now) (λ kept h. c.in_err-line-2.ensures.none kept.line
    (subst (λ (t : Text). IsNumberIn 1 18446744073709551615 kept.line (Some t)) (sym split.0) h.line))

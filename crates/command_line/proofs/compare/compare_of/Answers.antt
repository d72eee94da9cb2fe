use Rattle.std.proofs.Common.{None, codes, refl}
use Rattle.clap.specs.Words.{found_of, rows_of}
use Rattle.command_line.proofs.Getters.{lacks, text_is}
use Rattle.command_line.proofs.RefusalFacts.{lacks_value, no_compare}
use Rattle.command_line.proofs.compare.compare_of.Goals as goal

pub returns-clause-command : goal.returns-clause-command
returns-clause-command c =
    let f = found_of c.args.given.now in (
      refl,
      record {
        base = text_is f (codes "base") _ c.in_ok-base.ensures;
        new = text_is f (codes "new") _ c.in_ok-new.ensures;
      },
    )

pub returns-in_err-base-clause-lacking : goal.returns-in_err-base-clause-lacking
returns-in_err-base-clause-lacking c =
    let f = found_of c.args.given.now in
    lacks _ _ (no_compare (rows_of f) (λ base new h. lacks_value _ base (text_is f (codes "base") None c.in_err-base.ensures) h.base))

pub returns-in_err-new-clause-lacking : goal.returns-in_err-new-clause-lacking
returns-in_err-new-clause-lacking c =
    let f = found_of c.args.given.now in
    lacks _ _ (no_compare (rows_of f) (λ base new h. lacks_value _ new (text_is f (codes "new") None c.in_err-new.ensures) h.new))

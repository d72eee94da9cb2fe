use Rattle.std.proofs.Common.{None, arith, codes, inl, inr, refl}
use Rattle.clap.specs.Words.{found_of}
use Rattle.command_line.proofs.Getters.{lacks}
use Rattle.command_line.proofs.Numbers.{no_number, none_is_given, number_is, one_is_given}
use Rattle.command_line.proofs.evidence.revision_of.Goals as goal

pub returns-in_err-revision-clause-lacking : goal.returns-in_err-revision-clause-lacking
returns-in_err-revision-clause-lacking c =
    lacks _ _ (no_number 32 1 9999 (found_of c.args.given.now) (codes "revision") None
    c.in_err-revision.ensures.value (omega arith) (λ n above below. none_is_given None refl n))

pub returns-then-revision-le-LAST_REVISION-clause-number : goal.returns-then-revision-le-LAST_REVISION-clause-number
returns-then-revision-le-LAST_REVISION-clause-number c =
    number_is 32 1 9999 c.in_ok-revision.revision (found_of c.args.given.now) (codes "revision") c.get_one.result
    c.get_one.ensures.none c.get_one.ensures.value c.in_ok-revision.was
    (λ small. (c.if-revision-ge1.true, c.if-revision-le-LAST_REVISION.true)) (omega arith)

pub returns-else-revision-ge1-clause-lacking : goal.returns-else-revision-ge1-clause-lacking
returns-else-revision-ge1-clause-lacking c =
    let given = c.in_ok-revision.revision in
    no_number 32 1 9999 (found_of c.args.given.now) (codes "revision") c.get_one.result c.get_one.ensures.value (omega arith)
    (λ n above below is.
    let same = one_is_given given n c.get_one.result c.in_ok-revision.was is in
    elim c.else-revision-ge1.either [
      | inl past ↦ absurd (omega (arith, past.1, same))
      | inr short ↦ absurd (omega (arith, short, same))
    ])

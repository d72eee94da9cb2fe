use Rattle.std.proofs.Common.{None, Option, Some, codes, refl, subst, sym}
use Rattle.clap.specs.Words.{Text, found_of}
use Rattle.command_line.specs.Meaning.{IsSealGiven}
use Rattle.command_line.specs.Refusals.{NoSealGiven}
use Rattle.command_line.proofs.Getters.{text_is}
use Rattle.command_line.proofs.RefusalFacts.{no_seal_given}
use Rattle.command_line.proofs.verify.seal_of.Goals as goal

pub returns-in-Some-kept_seal-clause-seal : goal.returns-in-Some-kept_seal-clause-seal
returns-in-Some-kept_seal-clause-seal c =
    subst (λ (o : Option Text). IsSealGiven o (Some c.in-Some-kept_seal.seal))
    (sym (text_is (found_of c.args.given.now) (codes "seal") (Some c.in-Some.text.now) c.in-Some.ensures)) c.in-Some-kept_seal.ensures.seal

pub returns-in-None-kept_seal-clause-lacking : goal.returns-in-None-kept_seal-clause-lacking
returns-in-None-kept_seal-clause-lacking c =
    subst NoSealGiven (sym (text_is (found_of c.args.given.now) (codes "seal") (Some c.in-Some.text.now) c.in-Some.ensures))
    (no_seal_given c.in-Some.text.now c.in-None-kept_seal.ensures.none)

pub returns-in-None-clause-seal : goal.returns-in-None-clause-seal
returns-in-None-clause-seal c =
    subst (λ (o : Option Text). IsSealGiven o None) (sym (text_is (found_of c.args.given.now) (codes "seal") None c.in-None.ensures)) refl

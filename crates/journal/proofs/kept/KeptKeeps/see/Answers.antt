use Rattle.std.proofs.Common.{◌∙◌, Err, None, Ok, Some, refl, sym}
use Rattle.journal.proofs.KeptFacts.{kept_as, kept_on, still_kept}
use Rattle.journal.proofs.kept.KeptKeeps.see.Goals as goal

pub returns-then-is_some : goal.returns-then-is_some
returns-then-is_some c = λ bodies counted is_body kept. still_kept c.args.self.now.fault bodies c.args.body.now c.args.self.now _ (sym c.is_some.ensures ∙ c.if-is_some.true) kept

pub returns-in-Err : goal.returns-in-Err
returns-in-Err c = λ bodies counted is_body kept.
    kept_on bodies c.args.body.now c.args.before c.args.self.now c.take.new.self (Err c.in-Err.fault) (Some c.in-Err.fault) (sym c.is_some.ensures ∙ c.if-is_some.false) counted is_body kept c.in-Err.ensures.takes refl

pub returns-in_default : goal.returns-in_default
returns-in_default c = λ bodies counted is_body kept.
    kept_as _ c.args.self.now c.take.new.self (sym c.is_some.ensures ∙ c.if-is_some.false) c.take.ensures.same
    (kept_on bodies c.args.body.now c.args.before c.args.self.now c.take.new.self (Ok c.in_default.field-0) None (sym c.is_some.ensures ∙ c.if-is_some.false) counted is_body kept c.in_default.ensures.takes refl)

use Rattle.std.proofs.Common.{◌∙◌, sym}
use Rattle.widening.specs.Calls.{rules_of}
use Rattle.widening.proofs.RankFacts.{and_else, and_then}
use Rattle.widening.proofs.calls.keeps_to.Goals as goal

pub returns-then-do_imply : goal.returns-then-do_imply
returns-then-do_imply c =
    let b = rules_of c.args.name.now c.args.base.now in
    let n = rules_of c.args.name.now c.args.new.now in
    c.do_imply-then-do_imply.ensures
    ∙ and_then _ _ _ (c.between-of_new.ensures b n c.ranks_of.ensures c.ranks_of-2.ensures) (sym c.do_imply.ensures ∙ c.if-do_imply.true)

pub returns-else-do_imply : goal.returns-else-do_imply
returns-else-do_imply c =
    let b = rules_of c.args.name.now c.args.base.now in
    let n = rules_of c.args.name.now c.args.new.now in
    c.do_imply.ensures
    ∙ and_else _ _ _ (c.between-of_new.ensures b n c.ranks_of.ensures c.ranks_of-2.ensures) (sym c.do_imply.ensures ∙ c.if-do_imply.false)

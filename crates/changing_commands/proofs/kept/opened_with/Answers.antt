use Rattle.std.proofs.Common.{Ok, subst, sym}
use Rattle.changing_commands.proofs.kept.opened_with.Goals as goal

pub returns-in-Ok-reopen-clause-opened : goal.returns-in-Ok-reopen-clause-opened
returns-in-Ok-reopen-clause-opened g c = record {
  log = c.new.result;
  found = subst (λ d. g.J.Journals.opens c.args.journals.now c.args.path.now (Ok d)) (sym c.new.ensures.disk) c.in-Ok.ensures.opened;
  again = c.in-Ok-reopen.ensures.opened;
}

pub returns-clause-none : goal.returns-clause-none
returns-clause-none g c = (
  c.new.result,
  _,
  subst (λ d. g.J.Journals.opens c.args.journals.now c.args.path.now (Ok d)) (sym c.new.ensures.disk) c.in-Ok.ensures.opened,
  c.in-Err-reopen.ensures.back,
)

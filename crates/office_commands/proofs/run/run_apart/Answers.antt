use Rattle.std.proofs.Common.{inr, subst}
use Rattle.office_commands.specs.Notes.{without_line, SaysIf}
use Rattle.office_commands.proofs.RunFacts.{err_as, ok_as}
use Rattle.office_commands.proofs.run.run_apart.Goals as goal

pub returns-clause-done : goal.returns-clause-done
returns-clause-done g c =
    let said = subst (λ says. SaysIf g.E.Write.contents c.args.errors.now c.say_if.new.errors says without_line) c.goes_without.ensures c.say_if.ensures in
    ok_as _ _ c.run.result (λ status done. record { apart = c.in_ok-see_apart.ensures.apart; done = (c.say_if.new.errors, said, done) }) c.run.ensures.done

pub returns-clause-failed : goal.returns-clause-failed
returns-clause-failed g c =
    let said = subst (λ says. SaysIf g.E.Write.contents c.args.errors.now c.say_if.new.errors says without_line) c.goes_without.ensures c.say_if.ensures in
    err_as _ _ c.run.result (λ why fails. inr (c.in_ok-see_apart.ensures.apart, (c.say_if.new.errors, said, fails))) c.run.ensures.failed

pub returns-clause-noted_well : goal.returns-clause-noted_well
returns-clause-noted_well g c =
    let said = subst (λ says. SaysIf g.E.Write.contents c.args.errors.now c.say_if.new.errors says without_line) c.goes_without.ensures c.say_if.ensures in
    ok_as _ _ c.run.result (λ status well. (c.say_if.new.errors, said, well)) c.run.ensures.noted_well

pub returns-clause-noted : goal.returns-clause-noted
returns-clause-noted g c =
    let said = subst (λ says. SaysIf g.E.Write.contents c.args.errors.now c.say_if.new.errors says without_line) c.goes_without.ensures c.say_if.ensures in
    inr (c.say_if.new.errors, said, c.run.ensures.noted)

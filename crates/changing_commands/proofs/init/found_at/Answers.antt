use Rattle.std.proofs.Common.{IfErr, ap, option_copied, subst, sym}
use Rattle.command_host.specs.Outside.{known}
use Rattle.changing_commands.specs.Foundings.{Described, IsUnfounded}
use Rattle.changing_commands.proofs.KeptFacts.{failed_with, failed_without, unfounded_with}
use Rattle.changing_commands.proofs.init.found_at.Goals as goal

pub returns-clause-failed : goal.returns-clause-failed
returns-clause-failed g c =
    let k = known c.args.host.now in
    failed_without _ _ _ c.found_and_close.result (ap option_copied c.in-None.is)
    (subst (λ (d : Described). IfErr c.found_and_close.result (IsUnfounded k.store k.databases c.args.words.now.database.now d))
    (sym c.in_ok-founding.ensures.described) c.found_and_close.ensures.failed)

pub returns-in-Some-clause-failed : goal.returns-in-Some-clause-failed
returns-in-Some-clause-failed g c =
    let k = known c.args.host.now in
    failed_with _ c.in-Some.file.now _ _ c.found_behind.result (ap option_copied c.in-Some.is)
    (unfounded_with k.store k.log (k.creates c.in-Some.file.now) k.databases c.args.words.now.database.now (k.removes c.in-Some.file.now) _
    c.in_ok-founding.founding c.found_behind.result c.in_ok-founding.ensures.described c.found_behind.ensures.failed)

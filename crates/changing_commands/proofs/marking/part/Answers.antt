use Rattle.std.proofs.Common.{inr}
use Rattle.command_host.specs.Outside.{known}
use Rattle.changing_commands.proofs.OpeningFacts.{only_closed}
use Rattle.changing_commands.proofs.marking.part.Goals as goal

pub returns : goal.returns
returns g c =
    let k = known c.args.host.now in
    inr (only_closed k.store k.databases c.args.path.now _ c.in_ok-office.office c.in_ok-office.ensures.opened c.close.result c.close.ensures.closed c.close.ensures.ended c.close.ensures.fault)

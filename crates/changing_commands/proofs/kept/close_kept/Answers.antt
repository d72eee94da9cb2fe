use Rattle.command_host.specs.Openings.{IsClosed, IsEnded}
use Rattle.changing_commands.proofs.KeptFacts.{closed_kept, closed_kept_if}
use Rattle.changing_commands.proofs.kept.close_kept.Goals as goal

pub returns-clause-closed : goal.returns-clause-closed
returns-clause-closed g c =
    closed_kept_if g.S.Store g.J.Disk (IsClosed g.D.Databases.closed) c.args.kept c.settle.new.self c.settle.result c.settle.ensures c.into_parts-office.result c.into_parts-office.ensures
    c.mark_beside-mark.result c.mark_beside-mark.ensures c.close.result c.close.ensures.closed

pub returns-clause-ended : goal.returns-clause-ended
returns-clause-ended g c =
    closed_kept g.S.Store g.J.Disk (IsEnded g.D.Databases) c.args.kept c.settle.new.self c.settle.result c.settle.ensures c.into_parts-office.result c.into_parts-office.ensures
    c.mark_beside-mark.result c.mark_beside-mark.ensures c.close.ensures.ended

use Rattle.std.proofs.Common.{◌∙◌, None, Some, ap, inl, inr, refl}
use Rattle.office_commands.proofs.RunFacts.{refusal_as}
use Rattle.office_commands.proofs.run.print_or_refuse.Goals as goal

pub returns-in-Ok : goal.returns-in-Ok
returns-in-Ok g c = inl (c.in-Ok.ensures.whole, refl, c.well.ensures)

pub returns-in-Err : goal.returns-in-Err
returns-in-Err g c =
    let failed = c.in-Err.ensures.fault in
    inr (
      failed.1,
      c.ended_by.ensures.why ∙ ap Some failed.0,
      refusal_as g.E.Write.contents c.args.errors.now c.ended_by.new.errors _ _ None _ failed.0 c.ended_by.ensures.said,
      c.ended_by.ensures.status,
    )

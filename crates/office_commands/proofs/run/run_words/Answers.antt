use Rattle.std.proofs.Common.{inl, inr}
use Rattle.command_host.specs.Outside.{known}
use Rattle.office_commands.specs.Apart.{HasFailedApart, HasRunApart}
use Rattle.office_commands.specs.Notes.{HasNotedAll, HasNotedAllWell}
use Rattle.office_commands.proofs.RunFacts.{has_ended}
use Rattle.office_commands.proofs.run.run_words.Goals as goal

pub returns-in-Ok : goal.returns-in-Ok
returns-in-Ok g c =
    let k = known c.args.host.now in
    let here = c.run_apart-came.new in
    let came = g.I.Read.remaining c.args.input.now.inner in
    let left = g.I.Read.remaining here.input.inner in
    let contents = g.O.Write.contents in
    let said_of = g.E.Write.contents in
    inl (
      c.in-Ok.command,
      c.in-Ok.ensures.command,
      has_ended said_of here.errors _ c.in-Ok.command
          (λ noted. HasNotedAllWell k said_of c.args.errors.now noted c.in-Ok.command)
          (λ noted. HasNotedAll k said_of c.args.errors.now noted c.in-Ok.command)
          (HasRunApart k contents came left c.args.output.now here.output said_of c.args.errors.now c.in-Ok.command)
          (HasFailedApart k contents came left c.args.output.now here.output said_of c.args.errors.now c.in-Ok.command)
          c.run_apart-came.result _
          c.run_apart-came.ensures.noted_well c.run_apart-came.ensures.noted c.run_apart-came.ensures.done c.run_apart-came.ensures.failed c.ended_of.ensures,
    )

pub returns-in-Err : goal.returns-in-Err
returns-in-Err g c = inr (c.in-Err.fault, c.in-Err.ensures.refused, c.tell.ensures)

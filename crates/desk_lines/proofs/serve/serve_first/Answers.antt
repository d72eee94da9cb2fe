use Rattle.std.proofs.Common.{refl, sym}
use Rattle.streams.specs.Lines.{first_line}
use Rattle.json_requests.specs.declared.bad.BadLine.TheVariants.{TooLong}
use Rattle.desk_lines.specs.declared.outcome.LineOutcome.TheVariants.{Bad}
use Rattle.desk_lines.proofs.AskedFacts.{asked_long, handled_bad}
use Rattle.desk_lines.proofs.OutcomeFacts.{or_none}
use Rattle.desk_lines.proofs.ServeFacts.{served_as}
use Rattle.desk_lines.proofs.serve.serve_first.Goals as goal

pub returns-in-Ok-clause-told : goal.returns-in-Ok-clause-told
returns-in-Ok-clause-told g c = λ bytes holds.
    served_as g.H.Handler.meaning g.E.Write.contents _ _ _ _ _ _ _ _ _ _ c.serve_line.result (c.in-Ok.ensures bytes holds).0 c.serve_line.ensures.told

pub returns-in-Err-clause-told : goal.returns-in-Err-clause-told
returns-in-Err-clause-told g c = λ bytes holds. (
  Bad TooLong,
  handled_bad g.H.Handler.meaning _ (first_line bytes) TooLong (asked_long (first_line bytes) (c.in-Err.ensures bytes holds)),
  c.tell.ensures.told,
  sym (or_none c.args.want),
  refl,
)

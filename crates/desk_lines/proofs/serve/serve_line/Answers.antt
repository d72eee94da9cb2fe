use Rattle.std.proofs.Common.{◌∙◌, ap}
use Rattle.std.specs.Option.{option_or}
use Rattle.desk_lines.proofs.serve.serve_line.Goals as goal

pub returns-clause-told : goal.returns-clause-told
returns-clause-told g c = (
  c.of_line-outcome.result,
  c.of_line-outcome.ensures,
  c.tell-answered.ensures.told,
  c.or.ensures ∙ ap (λ o. option_or c.args.want o) c.witness.ensures,
  c.note.ensures,
)

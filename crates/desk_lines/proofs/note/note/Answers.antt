use Rattle.std.proofs.Common.{rules, ◌≡◌, ◌∙◌}
use Rattle.json_requests.specs.declared.bad.BadLine.TheVariants.{NotARequest}
use Rattle.desk_lines.specs.declared.outcome.LineOutcome.TheVariants.{Bad}
use Rattle.desk_lines.proofs.NoteFacts.{noted}
use Rattle.desk_lines.proofs.note.note.Goals as goal

pub returns-in-Bad-NotARequest : goal.returns-in-Bad-NotARequest
returns-in-Bad-NotARequest g c =
    let is : c.args.outcome.now ≡ Bad NotARequest = search rules in
    noted g.E.Write.contents c.args.number c.args.line.now c.args.outcome.now c.args.errors.now c.put.new.errors c.flaw_of_line-found.result c.as_str.result.now is
    c.flaw_of_line-found.ensures (c.as_str.ensures.value ∙ c.note_text.ensures) c.put.ensures

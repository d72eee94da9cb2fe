use Rattle.std.proofs.Common.{◌∙◌, Err, ap, option_and_then, sym}
use Rattle.desk_lines.specs.Flaws.{flaw_at}
use Rattle.json_requests.proofs.RequestFacts.{value_is, value_is_none}
use Rattle.desk_lines.proofs.flawed.flaw_of_line.Goals as goal

pub returns-in-Ok : goal.returns-in-Ok
returns-in-Ok c = rw (value_is c.args.line.now _ c.in-Ok.ensures.ok.0 c.in-Ok.ensures.ok.1) c.flaw_at.ensures

pub returns-in-Err-NotJson : goal.returns-in-Err-NotJson
returns-in-Err-NotJson c =
    let none = value_is_none c.args.line.now (λ text. c.from_slice.ensures.not_json (c.in-Err-NotJson.is ∙ ap Err c.in-Err-NotJson.field-0-is) text) in
    sym (ap (option_and_then flaw_at) none)

use Rattle.std.proofs.Common.{◌∙◌, Err, ap}
use Rattle.json_requests.proofs.RequestFacts.{value_is, value_is_none}
use Rattle.json_requests.proofs.body.value_of.Goals as goal

pub returns-in-Ok : goal.returns-in-Ok
returns-in-Ok c = value_is c.args.body.now _ c.in-Ok.ensures.ok.0 c.in-Ok.ensures.ok.1

pub returns-in-Err-NotJson : goal.returns-in-Err-NotJson
returns-in-Err-NotJson c = value_is_none c.args.body.now (λ text. c.from_slice.ensures.not_json (c.in-Err-NotJson.is ∙ ap Err c.in-Err-NotJson.field-0-is) text)

use Rattle.std.proofs.Common.{◌∙◌, Err, ap}
use Rattle.json_requests.proofs.RequestFacts.{asked_is, line_is, line_is_none, line_reads}
use Rattle.json_requests.proofs.request.read_line.Goals as goal

pub returns-in-Ok-clause-request : goal.returns-in-Ok-clause-request
returns-in-Ok-clause-request c = rw (line_is c.args.line.now _ c.in-Ok.ensures.ok.0 c.in-Ok.ensures.ok.1) (line_reads _ _ c.request_of.ensures)

pub returns-in-Ok-clause-asked : goal.returns-in-Ok-clause-asked
returns-in-Ok-clause-asked c =
    λ small. rw (asked_is c.args.line.now small, line_is c.args.line.now _ c.in-Ok.ensures.ok.0 c.in-Ok.ensures.ok.1) (line_reads _ _ c.request_of.ensures)

pub returns-in-Err-NotJson-clause-request : goal.returns-in-Err-NotJson-clause-request
returns-in-Err-NotJson-clause-request c = line_is_none c.args.line.now (λ text. c.from_slice.ensures.not_json (c.in-Err-NotJson.is ∙ ap Err c.in-Err-NotJson.field-0-is) text)

pub returns-in-Err-NotJson-clause-asked : goal.returns-in-Err-NotJson-clause-asked
returns-in-Err-NotJson-clause-asked c =
    λ small. rw (asked_is c.args.line.now small)
    (line_is_none c.args.line.now (λ text. c.from_slice.ensures.not_json (c.in-Err-NotJson.is ∙ ap Err c.in-Err-NotJson.field-0-is) text))

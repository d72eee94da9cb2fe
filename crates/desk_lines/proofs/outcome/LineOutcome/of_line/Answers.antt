use Rattle.std.proofs.Common.{◌∙◌}
use Rattle.json_requests.specs.Requests.{request_in}
use Rattle.json_requests.specs.declared.bad.BadLine.TheVariants as bad
use Rattle.json_requests.specs.declared.fault.LineFault.TheVariants.{NotJson, NotARequest}
use Rattle.desk_lines.proofs.AskedFacts.{asked_long, asked_short, tells_as, handled_bad, handled_unread, handled_answered}
use Rattle.desk_lines.proofs.outcome.LineOutcome.of_line.Goals as goal

pub returns-then-line-gt-MAX_LINE : goal.returns-then-line-gt-MAX_LINE
returns-then-line-gt-MAX_LINE g c =
    let line = c.args.line.now in
    handled_bad g.H.Handler.meaning _ line bad.TooLong (asked_long line c.if-line-gt-MAX_LINE.true)

pub returns-in-Ok : goal.returns-in-Ok
returns-in-Ok g c =
    let line = c.args.line.now in
    let short = asked_short line c.if-line-gt-MAX_LINE.false in
    handled_answered g.H.Handler.meaning _ _ line c.in-Ok.request c.handle-answer.result (short ∙ c.in-Ok.ensures.request) c.handle-answer.ensures

pub returns-in-Err-NotJson : goal.returns-in-Err-NotJson
returns-in-Err-NotJson g c =
    let line = c.args.line.now in
    let short = asked_short line c.if-line-gt-MAX_LINE.false in
    handled_bad g.H.Handler.meaning _ line bad.NotJson (short ∙ tells_as c.in-Err-NotJson.field-0 NotJson (request_in line) (cc) c.in-Err-NotJson.ensures.request)

pub returns-in-Err-NotARequest : goal.returns-in-Err-NotARequest
returns-in-Err-NotARequest g c =
    let line = c.args.line.now in
    let short = asked_short line c.if-line-gt-MAX_LINE.false in
    handled_bad g.H.Handler.meaning _ line bad.NotARequest (short ∙ tells_as c.in-Err-NotARequest.field-0 NotARequest (request_in line) (cc) c.in-Err-NotARequest.ensures.request)

pub returns-in-Err-NoMemory : goal.returns-in-Err-NoMemory
returns-in-Err-NoMemory g c = handled_unread g.H.Handler.meaning _ c.args.line.now

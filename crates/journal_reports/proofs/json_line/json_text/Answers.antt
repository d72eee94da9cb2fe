use Rattle.std.proofs.Common.{◌∙◌, ◌∷◌, [], ◌++◌, ap, arith}
use Rattle.std.specs.Prelude.{string_bytes}
use Rattle.json_requests.proofs.AnswerFacts.{text_is}
use Rattle.office_policy.specs.Happened.{event_meant}
use Rattle.journal_reports.specs.Json.{data_of, json_of}
use Rattle.journal_reports.proofs.json_line.json_text.Goals as goal

pub returns : goal.returns
unfolding json_of
returns c =
    let d = data_of c.args.placed.now.line (event_meant c.args.placed.now.event) c.args.found.now in
    let written = text_is d c.in_ok-out.ensures c.in_ok-write_event.ensures c.written_text-text.ensures in
    c.in_ok-push.ensures.bytes ∙ ap (λ e. string_bytes c.written_text-text.result ++ e) (c.in_ok-push.ensures.ascii (omega arith)) ∙ ap (λ t. t ++ 10 ∷ []) written

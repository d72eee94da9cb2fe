use Rattle.json_requests.proofs.AnswerFacts.{text_is}
use Rattle.office_policy.specs.History.{submitted}
use Rattle.journal.specs.Lines.{event_data, text_of}
use Rattle.journal.proofs.print.submission_text.Goals as goal

pub returns-clause-text : goal.returns-clause-text
unfolding text_of
returns-clause-text c =
    text_is (event_data (submitted c.args.caller.now c.args.name.now c.args.text.now)) c.in_ok-out.ensures c.in_ok-write_submission.ensures c.written_text.ensures

use Rattle.json_requests.proofs.AnswerFacts.{text_is}
use Rattle.office_policy.specs.History.{enrolled}
use Rattle.journal.specs.Lines.{event_data, text_of}
use Rattle.journal.proofs.print.enrolment_text.Goals as goal

pub returns-clause-text : goal.returns-clause-text
unfolding text_of
returns-clause-text c =
    text_is (event_data (enrolled c.args.caller.now c.args.user.now c.args.team.now c.args.roles c.args.digest.now)) c.in_ok-out.ensures c.in_ok-write_enrolment.ensures c.written_text.ensures

use Rattle.json_requests.proofs.AnswerFacts.{text_is}
use Rattle.office_policy.specs.History.{voted}
use Rattle.journal.specs.Lines.{event_data, text_of}
use Rattle.journal.proofs.print.vote_text.Goals as goal

pub returns-clause-text : goal.returns-clause-text
unfolding text_of
returns-clause-text c =
    text_is (event_data (voted c.args.caller.now c.args.name.now c.args.revision c.args.digest.now c.args.approves)) c.in_ok-out.ensures c.in_ok-write_vote.ensures c.written_text.ensures

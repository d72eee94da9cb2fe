use Rattle.json_requests.proofs.AnswerFacts.{text_is}
use Rattle.office_policy.specs.History.{on_revision}
use Rattle.journal.specs.Lines.{event_data, text_of}
use Rattle.journal.proofs.print.act_on_revision_text.Goals as goal

pub returns-clause-text : goal.returns-clause-text
unfolding text_of
returns-clause-text c =
    text_is (event_data (on_revision c.args.caller.now c.args.act c.args.name.now c.args.revision)) c.in_ok-out.ensures (rw c.word.ensures at c.in_ok-write_on_revision.ensures) c.written_text.ensures

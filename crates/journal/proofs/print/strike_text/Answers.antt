use Rattle.json_requests.proofs.AnswerFacts.{text_is}
use Rattle.journal.specs.Lines.{line_data, strike, text_of}
use Rattle.journal.proofs.print.strike_text.Goals as goal

pub returns : goal.returns
unfolding text_of
returns c = text_is (line_data strike) c.in_ok-out.ensures c.in_ok-write_strike.ensures c.written_text.ensures

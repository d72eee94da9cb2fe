use Rattle.std.proofs.Common.{arith}
use Rattle.json_requests.proofs.AnswerFacts.{text_is}
use Rattle.journal.specs.Lines.{done, line_data, text_of}
use Rattle.journal.proofs.Lengths.{done_entry}
use Rattle.journal.proofs.print.done_text.Goals as goal

pub returns-clause-text : goal.returns-clause-text
unfolding text_of
returns-clause-text c = text_is (line_data (done c.args.of)) c.in_ok-out.ensures c.in_ok-write_done.ensures c.written_text.ensures

pub returns-clause-entry : goal.returns-clause-entry
returns-clause-entry c = let small = c.ranges.of in done_entry c.args.of (omega (arith, small))

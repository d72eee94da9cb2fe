use Rattle.json_requests.specs.Bad.{bad_data, bad_text}
use Rattle.json_requests.proofs.AnswerFacts.{text_is}
use Rattle.json_requests.proofs.bad.bad_text.Goals as goal

pub returns : goal.returns
unfolding bad_text
returns c = text_is (bad_data c.args.word.now) c.new-out.ensures c.in_ok-write_bad.ensures c.written_text.ensures

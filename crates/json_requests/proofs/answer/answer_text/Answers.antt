use Rattle.json_requests.specs.Answers.{answer_data, answer_text}
use Rattle.json_requests.proofs.AnswerFacts.{text_is}
use Rattle.json_requests.proofs.answer.answer_text.Goals as goal

pub returns : goal.returns
unfolding answer_text
returns c = text_is (answer_data c.args.answer.now) c.in_ok-out.ensures c.in_ok-write_answer.ensures c.written_text.ensures

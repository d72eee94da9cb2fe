use Rattle.journal.proofs.LineFacts.{same_line}
use Rattle.journal.proofs.laws.a_text_is_of_one_line.Goals as goal

pub returns : goal.returns
returns c = same_line

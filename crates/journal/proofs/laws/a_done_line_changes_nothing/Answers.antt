use Rattle.journal.proofs.Texts.{one_done}
use Rattle.journal.proofs.laws.a_done_line_changes_nothing.Goals as goal

pub returns : goal.returns
returns c = one_done

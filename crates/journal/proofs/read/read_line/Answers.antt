use Rattle.std.proofs.Common.{◌∙◌, sym}
use Rattle.journal.proofs.LineFacts.{read_other}
use Rattle.journal.proofs.read.read_line.Goals as goal

pub returns-else-branch : goal.returns-else-branch
returns-else-branch c =
    read_other c.args.bytes.now c.in_ok-line.line c.in_ok-line.ensures (sym c.in_ok-is_its_text.ensures.same ∙ c.if-branch.false)

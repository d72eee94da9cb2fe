use Rattle.sealed_log.proofs.PieceFacts.{text_read}
use Rattle.sealed_log.proofs.input.read_text.Goals as goal

pub returns-in-Whole : goal.returns-in-Whole
returns-in-Whole g c =
    let piece = rw c.in-Whole.is at c.in_ok-read_on.ensures in
    text_read _ _ _ _ _ c.pieces.invariant piece.0 piece.1

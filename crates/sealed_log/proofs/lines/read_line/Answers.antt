use Rattle.std.proofs.Common.{◌≤◌, ◌+◌, ap, arith, length, take}
use Rattle.std.proofs.lemmas.Grind.{common_steps}
use Rattle.sealed_log.proofs.FaultFacts.{later_by_read, left_met}
use Rattle.sealed_log.proofs.lines.read_line.Goals as goal

pub returns-in_err-read_piece-clause-word : goal.returns-in_err-read_piece-clause-word
returns-in_err-read_piece-clause-word g c = λ clean long.
    let before = c.pieces.invariant in
    let size = ap length before.read.seen in
    let within : c.args.at + length c.pieces.line.items + length (take c.min-wanted.result c.pieces.piece) ≤ length (g.D.Disk.seen c.pieces.disk) =
    grind (arith, common_steps, size, long) in
    left_met g.D.Disk c.args.disk.now c.pieces.disk c.read_piece.new.disk c.from_residual.result c.in_err-read_piece.field-0.0 c.from_residual.ensures.1
    (later_by_read g.D.Disk c.args.disk.now c.pieces.disk before.read.counts before.read.tally) (c.in_err-read_piece.ensures.word clean within)

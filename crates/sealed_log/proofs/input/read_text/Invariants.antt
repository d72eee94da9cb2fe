use Rattle.sealed_log.proofs.PieceFacts.{IsBegun}
use Rattle.sealed_log.proofs.input.read_text.Given as goal

abbrev pub invariant-pieces : goal.invariant-pieces
invariant-pieces g l = IsBegun (g.R.Read.remaining l.fn.input) (g.R.Read.remaining l.input) l.text.items

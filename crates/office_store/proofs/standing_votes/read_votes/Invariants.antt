use Rattle.std.proofs.Common.{take}
use Rattle.office_store.specs.Lists.{AreCastAs}
use Rattle.office_store.proofs.standing_votes.read_votes.Given as goal

abbrev pub invariant-loop-row : goal.invariant-loop-row
invariant-loop-row l = AreCastAs (take l.row-index l.rows) l.votes.items

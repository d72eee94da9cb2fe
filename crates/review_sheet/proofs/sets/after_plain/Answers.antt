use Rattle.std.proofs.lemmas.Bool.{false≢true}
use Rattle.review_sheet.proofs.sets.after_plain.Goals as goal

pub unreachable-requires : goal.unreachable-requires
unreachable-requires c = absurd (false≢true c.in-Err.ensures.denied.0)

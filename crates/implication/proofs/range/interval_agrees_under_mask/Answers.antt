use Rattle.std.proofs.Common.{refl, arith}
use Rattle.std.specs.Int.{trailing_zeros, w64}
use Rattle.std.proofs.lemmas.Nat.Bits.{bit_at-trailing_zeros}
use Rattle.implication.proofs.Exact.{agree_exact}
use Rattle.implication.proofs.range.interval_agrees_under_mask.Goals as goal

pub returns : goal.returns
returns c =
    let lowest = bit_at-trailing_zeros w64 c.args.mask (omega arith) c.ranges.mask.fits in
    agree_exact c.args.mask (trailing_zeros w64 c.args.mask) c.args.first c.args.last lowest.1 lowest.2 c.requires _ refl

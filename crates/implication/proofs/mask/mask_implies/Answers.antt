use Rattle.std.proofs.Common.{◌∙◌, ◌<◌, ◌^◌, sym, arith}
use Rattle.implication.proofs.Exact.{mask_exact}
use Rattle.implication.proofs.mask.mask_implies.Goals as goal

pub returns-then-admits : goal.returns-then-admits
returns-then-admits c =
    let fits : c.args.other.value < 2 ^ 64 = omega arith in
    mask_exact c.args.mask c.args.bits c.ranges.mask.fits c.ranges.bits.fits c.requires c.args.other fits c.in_default.not-NotEqual (sym c.admits.ensures ∙ c.if-admits.true)
    _ (sym c.admits-then-admits.ensures)

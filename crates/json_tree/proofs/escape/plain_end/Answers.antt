use Rattle.std.proofs.Common.{◌≡◌, ◌+◌, ◌-◌, ◌∙◌, ap, sym, arith, take, drop}
use Rattle.std.specs.List.{prefix_len}
use Rattle.json.specs.Run.{is_plain}
use Rattle.json_tree.proofs.Escapes.{plain_next, plain_until}
use Rattle.json_tree.proofs.escape.plain_end.Goals as goal

pub loop-end-init : goal.loop-end-init
loop-end-init c =
    let at = c.args.at in
    let is = c.plain_block.ensures in
    let from : at + c.plain_block.result - at ≡ c.plain_block.result = omega arith in
    (omega arith, omega (arith, is.bound), from ∙ is.plain ∙ ap (λ n. prefix_len is_plain (take n (drop at c.args.text.now))) (sym from))

pub loop-end-preserved : goal.loop-end-preserved
loop-end-preserved c =
    let inv = c.loop-end.invariant in (
      omega (arith, inv.0),
      omega (arith, c.loop-end-test.true),
      plain_next c.args.text.now c.args.at c.loop-end.end _ inv.0 inv.2 c.loop-end-test.true (sym c.is_plain.ensures ∙ c.if-is_plain.true),
    )

pub returns-else-is_plain-clause-plain : goal.returns-else-is_plain-clause-plain
returns-else-is_plain-clause-plain c =
    plain_until c.args.text.now c.args.at c.loop-end.end c.loop-end.invariant.0 c.loop-end.invariant.2

pub returns-after-loop-end-clause-plain : goal.returns-after-loop-end-clause-plain
returns-after-loop-end-clause-plain c =
    plain_until c.args.text.now c.args.at c.loop-end.end c.loop-end.invariant.0 c.loop-end.invariant.2

use Rattle.std.proofs.Common.{◌+◌, ◌-◌, ◌<◌, ◌≤◌, ◌∙◌, arith}
use Rattle.json_tree.proofs.Escapes.{found_within, found_rest, found_put, none_put}
use lib.Count.{count_trailing_zeros}
use Rattle.json_tree.proofs.escape.write_block.Goals as goal

pub bounds-text-from : goal.bounds-text-from
bounds-text-from c =
    let is = c.loop-found.invariant.0 in
    omega (arith, is, found_within _ _ _ _ is (omega (arith, c.loop-found-test.true)))

pub write_byte-used-requires : goal.write_byte-used-requires
write_byte-used-requires c =
    let inv = c.loop-found.invariant in
    omega (arith, inv.2, inv.3, c.copy_block.ensures.len, found_within _ _ _ _ inv.0 (omega (arith, c.loop-found-test.true)))

pub overflow_shr-found : goal.overflow_shr-found
overflow_shr-found c =
    let is = c.loop-found.invariant.0 in
    omega (arith, is, found_within _ _ _ _ is (omega (arith, c.loop-found-test.true)))

pub loop-found-smaller : goal.loop-found-smaller
loop-found-smaller c =
    let within = found_within _ _ _ _ c.loop-found.invariant.0 (omega (arith, c.loop-found-test.true)) in
    let stop = c.args.start + 16 in
    let less : stop - (c.loop-found.from + (count_trailing_zeros 64 c.loop-found.found + 1)) < stop - c.loop-found.from = omega (arith, within) in
    less

pub loop-found-preserved : goal.loop-found-preserved
loop-found-preserved c =
    let inv = c.loop-found.invariant in
    let is = inv.0 in
    let some : 0 < c.loop-found.found = omega (arith, c.loop-found-test.true) in
    let within = found_within _ _ _ _ is some in
    let few : count_trailing_zeros 64 c.loop-found.found ≤ 16 = omega (arith, within, is) in (
      (omega (arith, within), omega (arith, is), omega (arith, is), found_rest _ _ _ _ is some),
      found_put _ _ _ _ is some _ _ _ _ (c.copy_block.ensures.copied _ few) c.write_byte-used.ensures.written ∙ inv.1,
      omega (arith, inv.2, within, c.write_byte-used.ensures.few),
      omega (arith, c.write_byte-used.ensures.len, c.copy_block.ensures.len, inv.3),
    )

pub returns-clause-escaped : goal.returns-clause-escaped
returns-clause-escaped c =
    let inv = c.loop-found.invariant in
    none_put _ _ _ _ inv.0 _ _ c.loop-found-test.false (c.copy_block-2.ensures.copied _ (omega (arith, inv.0))) ∙ inv.1

use Rattle.std.proofs.Common.{take, drop, sym, ◌∙◌, arith}
use Rattle.std.proofs.lemmas.Simd.{leading_from_mask_l, length-chunk}
use Rattle.json.specs.Run.{is_stop}
use Rattle.json_tree.proofs.escape.plain_block.Goals as goal

pub returns-then-found-eq0-clause-plain : goal.returns-then-found-eq0-clause-plain
returns-then-found-eq0-clause-plain c =
    let text = c.args.text.now in
    let block = take 16 (drop c.args.at text) in
    let long = length-chunk c.args.at 16 text (omega arith) in
    sym (leading_from_mask_l is_stop block (sym c.stops-found.ensures ∙ c.if-found-eq0.true) ∙ long)

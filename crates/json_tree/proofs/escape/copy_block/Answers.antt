use Rattle.std.proofs.Common.{◌+◌, arith, drop, take}
use Rattle.std.proofs.lemmas.Simd.{length-chunk, take_more_put_chunk}
use Rattle.json_tree.proofs.Escapes.{written_first}
use Rattle.json_tree.proofs.escape.copy_block.Goals as goal

pub returns-clause-copied : goal.returns-clause-copied
returns-clause-copied c =
    let text = c.args.text.now in
    let used = c.args.used in
    let room = c.args.room.now in
    let block = take 16 (drop c.args.at text) in
    let long = length-chunk c.args.at 16 text (omega (arith, c.requires.block)) in
    let put = take_more_put_chunk used room block (used + 16) (omega (arith, long)) (omega (arith, c.requires.room)) in
    λ n few. written_first used n 16 room _ (drop c.args.at text) few (omega (arith, c.requires.room)) put

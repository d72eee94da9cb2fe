use Rattle.std.proofs.Common.{length, take, ap, ◌∙◌, arith}
use Rattle.json_tree.proofs.Escapes.{plain_whole}
use Rattle.json_tree.proofs.Growing.{grows_placed, written_back}
use Rattle.json_tree.proofs.token.put_plain_quoted.Goals as goal

pub returns : goal.returns
returns c =
    let made = c.in_ok-make_room.ensures in
    let room = c.make_room.new.bytes in
    let lent = c.deref_mut.ensures.value in
    let long = c.deref_mut.ensures.len in
    let placed = c.place_quoted.ensures in
    let plain = plain_whole c.args.text.now c.requires.plain in
    let back = written_back room.len c.place_quoted.new.bytes room.items (omega (arith, long, ap length lent)) (placed.len ∙ ap length lent) in
    let grown = grows_placed {a = c.args.bytes.now.items} (ap (take c.args.at) lent ∙ made.text) (omega (arith, made.room, ap length lent)) placed in
    rw (back, plain) grown

use Rattle.std.proofs.Common.{◌≡◌, ◌+◌, ◌-◌, ◌≤◌, length, map, take, drop, ap, ◌∙◌, arith, length-take-le, take-take}
use lib.Lanes.{mask_l}
use Rattle.json.specs.Run.{is_stop}
use Rattle.json_tree.proofs.Escapes.{short_placed}
use Rattle.json_tree.proofs.Growing.{grows_placed, placed_kept, written_back}
use Rattle.json_tree.proofs.escape.put_short.Goals as goal

pub returns-then-found-text-eq0 : goal.returns-then-found-text-eq0
returns-then-found-text-eq0 c =
    let made = c.in_ok-make_room.ensures in
    let room = c.make_room.new.bytes in
    let new = c.place_text-end.new.bytes in
    let lent = c.deref_mut.ensures.value in
    let placed = c.place_text-end.ensures in
    let back = written_back room.len new room.items (omega (arith, c.deref_mut.ensures.len, ap length lent)) (placed.len ∙ ap length lent) in
    let grown = grows_placed {a = c.args.bytes.now.items} (ap (take c.args.at) lent ∙ made.text) (omega (arith, made.room, ap length lent)) placed in
    let text = c.args.text.now in
    let out = take c.args.at c.args.bytes.now.items in
    let end = c.place_text-end.result in
    let from = end - 16 in
    let seen : c.deref.result.now ≡ new = c.deref.ensures.value ∙ back in
    let long : length out ≡ c.args.at = length-take-le c.args.at c.args.bytes.now.items c.requires.within in
    let block = take-take 16 (length c.deref.result.now - from) (drop from c.deref.result.now) (omega (arith, ap length seen, grown.within, placed.moved, c.requires.short)) in
    let is = c.stops-found.ensures ∙ ap (λ l. mask_l (map is_stop l)) block ∙ ap (λ l. mask_l (map is_stop (take 16 (drop from l)))) seen in
    let plain = short_placed out text new end c.stops-found.result (omega (arith, c.requires.short)) (omega (arith, placed.moved, c.requires.short)) (omega (arith, placed.moved, long)) grown.text is c.if-found-text-eq0.true in
    record { put = rw (back, plain) grown }

pub returns : goal.returns
returns c =
    let made = c.in_ok-make_room.ensures in
    let room = c.make_room.new.bytes in
    let lent = c.deref_mut.ensures.value in
    let placed = c.place_text-end.ensures in
    let within : c.args.at + length c.args.text.now ≤ length c.deref_mut.result.now = omega (arith, made.room, ap length lent) in
    let back = written_back room.len c.place_text-end.new.bytes room.items (omega (arith, c.deref_mut.ensures.len, ap length lent)) (placed.len ∙ ap length lent) in
    record { put = rw back (placed_kept (omega (arith, within)) placed ∙ ap (take c.args.at) lent ∙ made.text, omega (arith, within, placed.len)) }

use Rattle.std.proofs.Common.{◌∙◌, ◌+◌, ap, drop, sym}
use Rattle.std.specs.Int.Bits.{or_zero_r}
use Rattle.std.specs.Int.RustNames.{bit_or}
use Rattle.json_tree.specs.View.{items_view, view}
use Rattle.profile_text.proofs.Bits.{or_assoc}
use Rattle.profile_text.proofs.WalkFacts.{caps_end, caps_more}
use Rattle.profile_text.specs.Sets.{cap_of, caps_of}
use Rattle.journal.proofs.part.caps_of.Goals as goal

pub loop-value-preserved : goal.loop-value-preserved
loop-value-preserved c =
    let i = c.loop-value.value-index in
    let v = c.value-item.result in
    let more = caps_more view c.args.values.now i v c.loop-value-test.true c.value-item.is in
    let rest = caps_of (items_view (drop (i + 1) c.args.values.now)) in
    rw (c.union-caps.ensures.bits, c.cap_of.ensures) (c.loop-value.invariant ∙ ap (bit_or c.loop-value.caps) more ∙ sym (or_assoc c.loop-value.caps (cap_of (view v)) rest))

pub returns : goal.returns
returns c =
    sym (c.loop-value.invariant ∙ ap (bit_or c.loop-value.caps) (caps_end view c.args.values.now c.loop-value.value-index c.loop-value-test.false) ∙ or_zero_r c.loop-value.caps)

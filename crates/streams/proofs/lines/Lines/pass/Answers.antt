use Rattle.std.proofs.Common.{◌≡◌, ◌∙◌, ◌<◌, sym, ap, subst, arith, refl}
use Rattle.std.specs.Prelude.{slice_range}
use Rattle.streams.specs.Held.{Held, HasLine}
use Rattle.streams.specs.Lines.{after_line}
use Rattle.streams.proofs.BufferFacts.{held_feed, held_after}
use Rattle.streams.proofs.HandedFacts.{handed_next}
use Rattle.streams.proofs.lines.Lines.pass.Goals as goal

pub feed_from-self-inside-requires-clause-ordered : goal.feed_from-self-inside-requires-clause-ordered
feed_from-self-inside-requires-clause-ordered c =
    let l = c.self.inside in
    let has : HasLine (slice_range l.buffer.items l.start l.end) = subst (λ (h : Held). HasLine h.bytes) (sym c.self.view_is) c.requires in
    omega (arith, held_feed l.buffer.items l.start l.feed l.end c.self.invariant has)

pub returns-clause-handed : goal.returns-clause-handed
returns-clause-handed c =
    let l = c.self.inside in
    let same : c.args.self.now.bytes ≡ slice_range l.buffer.items l.start l.end = ap (λ (h : Held). h.bytes) (sym c.self.view_is) in
    let has : HasLine (slice_range l.buffer.items l.start l.end) = subst (λ (h : Held). HasLine h.bytes) (sym c.self.view_is) c.requires in
    let there : l.feed < l.end = held_feed l.buffer.items l.start l.feed l.end c.self.invariant has in
    handed_next c.args.self.now _ c.requires (sym (held_after l.buffer.items l.start l.feed l.end c.self.invariant there) ∙ ap after_line (sym same)) refl

use Rattle.std.proofs.Common.{◌≡◌, ◌∙◌, ◌-◌, ◌<◌, List, ℕ, length, take, drop, sym, ap, subst, arith, inl, inr}
use Rattle.std.specs.Prelude.{slice_range}
use Rattle.streams.specs.Held.{Held, Holds}
use Rattle.streams.specs.Lines.{first_line}
use Rattle.streams.specs.declared.lines.TheConstants.{MAX_LINE}
use Rattle.streams.proofs.BufferFacts.{held_first, length_first}
use Rattle.streams.proofs.HeldFacts.{first_long, first_short}
use Rattle.streams.proofs.lines.Lines.line.Goals as goal
use Rattle.streams.proofs.lines.Lines.line.Goals.{then-self-via-then-self, then-self-via-else-self+then-feed-start-gt-MAX_LINE}

pub returns-then-self : goal.returns-then-self
returns-then-self c = λ bytes holds.
    let l = c.self.inside in
    let part : List ℕ = slice_range l.buffer.items l.start l.end in
    let held : Held = record { bytes = part; too_long = l.too_long } in
    let in_part : Holds held bytes = subst (λ (h : Held). Holds h bytes) (sym c.self.view_is) holds in
    let first = held_first l.buffer.items l.start l.feed l.end c.self.invariant in
    let length_is = length_first l.buffer.items l.start l.feed l.end c.self.invariant in
    elim c.then-self.branch [
      | then-self-via-then-self w ↦ first_long held bytes in_part (inl w.if-self.true)
      | then-self-via-else-self+then-feed-start-gt-MAX_LINE w ↦
          let long : MAX_LINE < length (first_line part) =
          omega (arith, w.if-feed-start-gt-MAX_LINE.true, ap length first, length_is) in
          first_long held bytes in_part (inr long)
    ]

pub returns : goal.returns
returns c = λ bytes holds.
    let l = c.self.inside in
    let part : List ℕ = slice_range l.buffer.items l.start l.end in
    let held : Held = record { bytes = part; too_long = l.too_long } in
    let in_part : Holds held bytes = subst (λ (h : Held). Holds h bytes) (sym c.self.view_is) holds in
    let buffer : take (l.feed - l.start) (drop l.start c.deref.result.now) ≡ slice_range l.buffer.items l.start l.feed =
    ap (λ b. take (l.feed - l.start) (drop l.start b)) c.deref.ensures.value in
    let first = held_first l.buffer.items l.start l.feed l.end c.self.invariant in (
      buffer ∙ sym first ∙ sym (first_short held bytes in_part c.if-self.false),
      omega (arith, c.if-feed-start-gt-MAX_LINE.false, ap length buffer, length_first l.buffer.items l.start l.feed l.end c.self.invariant),
    )

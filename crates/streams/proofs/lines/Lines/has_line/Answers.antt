use Rattle.std.proofs.Common.{subst}
use Rattle.std.specs.Prelude.{nat_lt}
use Rattle.streams.specs.Held.{Held, TellsWhole}
use Rattle.streams.proofs.BufferFacts.{held_told}
use Rattle.streams.proofs.lines.Lines.has_line.Goals as goal

pub returns : goal.returns
returns c =
    let l = c.self.inside in
    subst (λ (h : Held). TellsWhole h (nat_lt l.feed l.end)) c.self.view_is (held_told l.buffer.items l.start l.feed l.end c.self.invariant l.too_long)

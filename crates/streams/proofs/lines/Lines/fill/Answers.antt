use Rattle.std.proofs.Common.{◌≡◌, ◌∙◌, ◌+◌, ◌-◌, ◌++◌, Bool, List, ℕ, length, take, drop, sym, ap, subst, arith, inl}
use Rattle.std.specs.Prelude.{slice_range, if◌then◌else◌, []}
use Rattle.std.proofs.lemmas.Slice.{between_from_start}
use Rattle.std.proofs.lemmas.List.Edits.{length-between}
use Rattle.streams.specs.Some.{some_count}
use Rattle.streams.specs.Held.{Held, Holds}
use Rattle.streams.specs.Lines.{NoFeed}
use Rattle.streams.proofs.BufferFacts.{take-add}
use Rattle.streams.proofs.HeldFacts.{IsDropping, dropping_by_length, holds_filled}
use Rattle.streams.proofs.lines.Lines.fill.Goals as goal
use Rattle.streams.proofs.lines.Lines.fill.Goals.{then-self, else-self}

pub returns-clause-bytes : goal.returns-clause-bytes
returns-clause-bytes g c = λ bytes holds.
    let l = c.self.inside in
    let part : List ℕ = slice_range l.buffer.items l.start l.end in
    let held : Held = record { bytes = part; too_long = l.too_long } in
    let drops : Bool = c.if-self.too_long in
    let in_part : Holds held bytes = subst (λ (h : Held). Holds h bytes) (sym c.self.view_is) holds in
    let none : NoFeed part = subst (λ (h : Held). NoFeed h.bytes) (sym c.self.view_is) c.requires.unfinished in
    let long : length part ≡ l.end - l.start =
    length-between l.buffer.items l.start l.end (omega (arith, c.self.invariant.in_bounds, c.self.invariant.room)) in
    let dropping : IsDropping held drops = elim c.if-self.branch [
      | then-self w ↦ subst (IsDropping held) (sym (w.too_long-is ∙ w.if-self.true)) (inl w.if-self.true)
      | else-self w ↦ subst (IsDropping held) (sym w.too_long-is) (dropping_by_length held (l.end - l.start) w.if-self.false (sym long))
    ] in
    let buffer : List ℕ = c.read_after-read.new.buffer.items in
    let kept : ℕ = c.keep-kept.result in
    let count : ℕ = some_count c.read_after-read.result in
    let more : List ℕ = take count (drop kept buffer) in
    let front : take kept buffer ≡ (if drops then [] else part) = c.read_after-read.ensures.kept ∙ c.keep-kept.ensures.bytes in
    let all : slice_range buffer 0 (kept + c.count.result) ≡ (if drops then [] else part) ++ more =
    between_from_start buffer (kept + c.count.result) ∙ ap (λ n. take (kept + n) buffer) c.count.ensures ∙ take-add kept count buffer
    ∙ ap (λ b. b ++ more) front in
    (more, c.read_after-read.ensures.bytes, holds_filled held drops (slice_range buffer 0 (kept + c.count.result)) more bytes none dropping all in_part)

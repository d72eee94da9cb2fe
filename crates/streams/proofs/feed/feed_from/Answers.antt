use Rattle.std.proofs.Common.{◌≡◌, ◌≢◌, ◌∙◌, ℕ, ◌+◌, ◌-◌, ◌<◌, ◌≤◌, List, length, get_or, ap, arith, eq-eqb}
use Rattle.std.specs.Prelude.{slice_index, slice_range}
use Rattle.std.proofs.lemmas.List.Edits.{length-between, get_or-between}
use Rattle.memchr.specs.Find.{Nowhere, Passes, is_byte}
use Rattle.streams.proofs.feed.feed_from.Goals as goal

-- what isn't found in a part doesn't stand in that part
none_in_part : (bytes : List ℕ) (from end stop : ℕ) → Nowhere (Passes (is_byte 10) (slice_range bytes from end)) 0 stop → from + stop ≤ end
    → (k : ℕ) → from ≤ k → k < from + stop → slice_index bytes k ≢ 10
none_in_part bytes from end stop none within k low high feed =
    let place : from + (k - from) ≡ k = omega arith in
    let there : get_or (slice_range bytes from end) (k - from) 0 ≡ 10 =
    get_or-between bytes from end (k - from) 0 (omega arith) ∙ ap (λ n. get_or bytes n 0) place ∙ feed in
    none (k - from) (omega arith) (omega arith) (eq-eqb (get_or (slice_range bytes from end) (k - from) 0) 10 there)

pub returns-in-Some-clause-before : goal.returns-in-Some-clause-before
returns-in-Some-clause-before c =
    let part = length-between c.args.bytes.now c.args.from c.args.end c.requires.in_bounds in
    let within : c.args.from + c.in-Some.place ≤ c.args.end = omega (arith, c.in-Some.ensures.0.high, part, c.requires.ordered) in
    none_in_part c.args.bytes.now c.args.from c.args.end c.in-Some.place c.in-Some.ensures.0.before within

pub returns-in-None-clause-before : goal.returns-in-None-clause-before
returns-in-None-clause-before c = λ k low high.
    let part = length-between c.args.bytes.now c.args.from c.args.end c.requires.in_bounds in
    let stop : ℕ = length (slice_range c.args.bytes.now c.args.from c.args.end) in
    let within : c.args.from + stop ≤ c.args.end = omega (arith, part, c.requires.ordered) in
    let before : k < c.args.from + stop = omega (arith, high, part, c.requires.ordered) in
    none_in_part c.args.bytes.now c.args.from c.args.end stop c.in-None.ensures within k low before

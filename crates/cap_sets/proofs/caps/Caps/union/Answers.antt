use Rattle.std.proofs.Common.{◌≡◌}
use Rattle.std.proofs.lemmas.Nat.{or_lt}
use Rattle.std.specs.Int.RustNames.{bit_or}
use Rattle.cap_sets.proofs.Bits.{either_from_or, or_from_either}
use Rattle.cap_sets.proofs.caps.Caps.union.Goals as goal

pub invariant_of-result : goal.invariant_of-result
invariant_of-result c = rw (c.union.ensures tt) (or_lt 41 _ _ c.self.invariant c.other.invariant)

pub returns : goal.returns
returns c =
    let is : c.union.result.0 ≡ bit_or c.args.self c.args.other = rw (← c.self.view_is, ← c.other.view_is) (c.union.ensures tt) in
    record { members = rw is (λ n. (either_from_or c.args.self c.args.other n, or_from_either c.args.self c.args.other n)); bits = is }

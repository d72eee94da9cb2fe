use Rattle.std.proofs.Common.{◌≡◌}
use Rattle.std.specs.Int.RustNames.{bit_and}
use Rattle.cap_sets.proofs.Bits.{both_from_and, and_from_both}
use Rattle.cap_sets.proofs.caps.Caps.intersection.Goals as goal

pub returns : goal.returns
returns c =
    let is : c.intersection.result.0 ≡ bit_and c.args.self c.args.other = rw (← c.self.view_is, ← c.other.view_is) (c.intersection.ensures tt) in
    record { members = rw is (λ n. (both_from_and c.args.self c.args.other n, and_from_both c.args.self c.args.other n)); bits = is }

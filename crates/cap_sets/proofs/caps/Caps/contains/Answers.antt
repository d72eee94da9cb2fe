use Rattle.std.proofs.Common.{◌≡◌, ◌==◌, ◌<◌, ◌^◌, arith}
use Rattle.std.specs.Int.RustNames.{bit_and}
use Rattle.cap_sets.proofs.Bits.{within_from_test, test_from_within}
use Rattle.cap_sets.proofs.Lowest.{lacking_from_test}
use Rattle.cap_sets.proofs.caps.Caps.contains.Goals as goal

pub returns : goal.returns
returns c =
    let is : c.contains.result ≡ (bit_and c.args.self c.args.other == c.args.other) = rw (← c.self.view_is, ← c.other.view_is) (c.contains.ensures tt) in
    let small_self : c.args.self < 2 ^ 64 = rw (← c.self.view_is) (omega (arith, c.self.invariant)) in
    let small_other : c.args.other < 2 ^ 64 = rw (← c.other.view_is) (omega (arith, c.other.invariant)) in
    record {
      members = (λ h. within_from_test _ _ (rw is at h), λ h. rw is (test_from_within _ _ h));
      lacks = lacking_from_test _ _ _ small_self small_other is;
      bits = is;
    }

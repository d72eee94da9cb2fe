-- The closed profile permits no more than any other.
use Rattle.std.proofs.Common.{◌≤◌, arith}
use Rattle.cap_sets.proofs.Bits.{none_in_zero}
use Rattle.seccomp_doc.specs.Action.{rank_of}
use Rattle.profile_text.specs.declared.profile.Profile.{Profile}
use Rattle.profile_text.specs.Profile.{closed_profile}
use Rattle.widening.specs.Permits.{IsNoWider, action_under}

pub closed_no_wider : (base : Profile) → IsNoWider base closed_profile
closed_no_wider base = record {
  caps = record {
    effective = λ n h. absurd (none_in_zero n h);
    permitted = λ n h. absurd (none_in_zero n h);
    inheritable = λ n h. absurd (none_in_zero n h);
    bounding = λ n h. absurd (none_in_zero n h);
    ambient = λ n h. absurd (none_in_zero n h);
  };
  calls = λ name words small.
      let least : 0 ≤ rank_of (action_under base.filter name words) = omega (arith) in
      least;
}

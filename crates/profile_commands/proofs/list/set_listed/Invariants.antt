use Rattle.std.proofs.Common.{◌≡◌, length, IsUtf8}
use Rattle.cap_sets.specs.Capability.{with_names}
use Rattle.profile_commands.specs.Lists.{parts_of, set_listed}
use Rattle.profile_commands.proofs.list.set_listed.Given as goal

abbrev pub invariant-names : goal.invariant-names
invariant-names l = (with_names l.caps (parts_of l.rest) ≡ set_listed l.fn.list) × IsUtf8 l.rest

abbrev pub decreases-names : goal.decreases-names
decreases-names l = length l.rest

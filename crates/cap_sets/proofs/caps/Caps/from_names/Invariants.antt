use Rattle.std.proofs.Common.{◌≡◌, drop, map}
use Rattle.cap_sets.specs.Capability.{set_named, with_names}
use Rattle.cap_sets.proofs.caps.Caps.from_names.Given as goal

abbrev pub invariant-names : goal.invariant-names
invariant-names l = set_named (map (λ name. name.now) l.fn.names) ≡ with_names l.caps (map (λ name. name.now) (drop l.name-index l.names))

-- A command that is refused uses none of its streams.
use Rattle.std.specs.Prelude.{◌≡◌}

-- nothing was read of an input, and nothing was written to an output or noted
abbrev pub AreUntouched : {I O E : Type 0} → (came left : I) → (output wrote : O) → (errors noted : E)
    → Type 0
AreUntouched came left output wrote errors noted =
    (left ≡ came) × (wrote ≡ output) × (noted ≡ errors)

-- Sets of numbers, each known by what is in it.
use Rattle.std.specs.Prelude.{ℕ, ◌⊎◌, ◌↔◌}
use Rattle.cap_sets.specs.Capability.{Has}

-- a set of numbers: what it says of a number holds where the number is in the set
abbrev pub NumberSet : Type 1
NumberSet = ℕ → Type 0

-- the set with nothing in it
abbrev pub nothing : NumberSet
nothing n = ⊥

-- the numbers of the capabilities in a set
abbrev pub members : ℕ → NumberSet
members caps n = Has caps n

infixl 60 ◌∪◌
-- union: what is in either set
abbrev pub ◌∪◌ : NumberSet → NumberSet → NumberSet
(a ∪ b) n = a n ⊎ b n

infixl 70 ◌∩◌
-- intersection: what is in both sets
abbrev pub ◌∩◌ : NumberSet → NumberSet → NumberSet
(a ∩ b) n = a n × b n

-- the members of a capability set are just the numbers of this set
abbrev pub HasExactly : ℕ → NumberSet → Type 0
HasExactly caps set = (n : ℕ) → Has caps n ↔ set n

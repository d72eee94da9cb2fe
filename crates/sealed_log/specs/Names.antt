-- What would have to be found so that two journals have the same seal.
use Rattle.std.specs.Prelude.{◌≡◌, ◌≢◌, ◌⊎◌, ℕ, List}
use Rattle.sha2.specs.Sha256.{sha256}
use Rattle.hex.specs.Hex.{encode_lower}
use Rattle.sealed_log.specs.Sealed.{no_seal}

-- two messages with one digest
pub record IsCollision (a b : List ℕ) : Type 0 where
  pub differ : a ≢ b
  pub same : encode_lower (sha256 a) ≡ encode_lower (sha256 b)

-- two messages with one digest, or a message whose digest has only zeros
abbrev pub HasClash : Type 0
HasClash = ((a : List ℕ) × (b : List ℕ) × IsCollision a b) ⊎ ((a : List ℕ) × (encode_lower (sha256 a) ≡ no_seal))

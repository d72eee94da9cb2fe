-- The digest of a text.
use Rattle.std.specs.Prelude.{ℕ, List}
use Rattle.sha2.specs.Sha256.{sha256}

-- the 32 bytes of SHA-256 (FIPS 180-4)
unfoldable pub digest_of : List ℕ → List ℕ
digest_of bytes = sha256 bytes

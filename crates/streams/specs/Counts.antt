-- What a call adds to the counts of a reader or a writer.
use Rattle.std.specs.Prelude.{◌≡◌, ◌≢◌, ℕ, ◌+◌, ◌-◌, ◌^◌, ◌==◌, ◌&&◌, not, min, List, length}
use Rattle.std.specs.Prelude.{Result, Ok, Err, if◌then◌else◌}
use Rattle.std.specs.IoError.{error_kind}
use Rattle.std.specs.declared.io.Error.{Error}
use Rattle.std.specs.declared.io.ErrorKind.TheVariants.{Interrupted}

-- one more, but the greatest u64 stays
abbrev pub one_more : ℕ → ℕ
one_more n = min (n + 1) (2 ^ 64 - 1)

-- a call of read that failed is a fault, unless it was interrupted
abbrev pub CountsRead : ℕ → ℕ → Result ℕ Error → Type 0
CountsRead old new (Ok n) = new ≡ old
CountsRead old new (Err e) =
    (error_kind e ≡ Interrupted → new ≡ old) × (error_kind e ≢ Interrupted → new ≡ one_more old)

-- a call of write that failed is a fault, and so is one that took none of some bytes
abbrev pub CountsWrite : ℕ → ℕ → List ℕ → Result ℕ Error → Type 0
CountsWrite old new bytes (Ok n) =
    new ≡ (if (n == 0) && not (length bytes == 0) then one_more old else old)
CountsWrite old new bytes (Err e) = new ≡ one_more old

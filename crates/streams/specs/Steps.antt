-- What one call of read does, and what a write that was cut leaves.
use Rattle.std.specs.Prelude.{◌≡◌, ◌<◌, ◌≤◌, ℕ, List, Option, length, take}
use Rattle.std.specs.Io.KnownBytes.{Keeps, Appends, Consumes, IsAtEnd}
use Rattle.streams.specs.declared.step.ReadStep.{ReadStep}
use Rattle.streams.specs.declared.step.ReadStep.TheVariants.{Bytes, End, Interrupted, Failed}
use Rattle.streams.specs.Counts.{one_more}

-- the bytes at the front of the buffer were consumed, at least one; else none were
abbrev pub StepConsumes : Option (List ℕ) → Option (List ℕ) → ReadStep → List ℕ → Type 0
StepConsumes old new (Bytes n) buffer =
    (0 < n) × (n ≤ length buffer) × Consumes old new (take n buffer)
StepConsumes old new End buffer = Keeps old new × IsAtEnd new
StepConsumes old new Interrupted buffer = Keeps old new
StepConsumes old new Failed buffer = Keeps old new

-- only a call that failed is a fault
abbrev pub StepFaults : ℕ → ℕ → ReadStep → Type 0
StepFaults old new (Bytes n) = new ≡ old
StepFaults old new End = new ≡ old
StepFaults old new Interrupted = new ≡ old
StepFaults old new Failed = new ≡ one_more old

-- a front part of the bytes was appended, and not all of them
abbrev pub AppendsPart : Option (List ℕ) → Option (List ℕ) → List ℕ → Type 0
AppendsPart old new bytes = (n : ℕ) × (n < length bytes) × Appends old new (take n bytes)

-- What reading some bytes does to a reader and to its counts.
use Rattle.std.specs.Prelude.{◌≡◌, ◌<◌, ◌≤◌, ℕ, List, Option, length, take}
use Rattle.std.specs.Io.KnownBytes.{Keeps, Consumes, IsAtEnd}
use Rattle.streams.specs.declared.some.SomeRead.{SomeRead}
use Rattle.streams.specs.declared.some.SomeRead.TheVariants.{Bytes, End, Failed, TooManyReads}
use Rattle.streams.specs.Counts.{one_more}

-- how many bytes were read
abbrev pub some_count : SomeRead → ℕ
some_count (Bytes n) = n
some_count End = 0
some_count Failed = 0
some_count TooManyReads = 0

-- the bytes at the front of the buffer were consumed, at least one; else none were
abbrev pub ReadsSome : Option (List ℕ) → Option (List ℕ) → SomeRead → List ℕ → Type 0
ReadsSome old new (Bytes n) buffer =
    (0 < n) × (n ≤ length buffer) × Consumes old new (take n buffer)
ReadsSome old new End buffer = Keeps old new × IsAtEnd new
ReadsSome old new Failed buffer = Keeps old new
ReadsSome old new TooManyReads buffer = Keeps old new

-- only a call that failed is a fault
abbrev pub SomeFaults : ℕ → ℕ → SomeRead → Type 0
SomeFaults old new (Bytes n) = new ≡ old
SomeFaults old new End = new ≡ old
SomeFaults old new Failed = new ≡ one_more old
SomeFaults old new TooManyReads = new ≡ old

-- a call was made, and none past those that are allowed; all allowed ones were made where that is
-- reported
abbrev pub SomeCalls : (old new most : ℕ) → SomeRead → Type 0
SomeCalls old new most (Bytes n) = (old < new) × (new ≤ most)
SomeCalls old new most End = (old < new) × (new ≤ most)
SomeCalls old new most Failed = (old < new) × (new ≤ most)
SomeCalls old new most TooManyReads = new ≡ most

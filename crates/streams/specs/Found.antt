-- What is found in a stream.
use Rattle.std.specs.Prelude.{◌≡◌, ◌<◌, ◌+◌, ◌-◌, ◌*◌, ℕ, List, Option}
use Rattle.std.specs.Io.KnownBytes.{IsAtEnd}
use Rattle.streams.specs.Counts.{one_more}
use Rattle.streams.specs.declared.find.Found.{Found}
use Rattle.streams.specs.declared.find.Found.TheVariants.{Line, LastLine, End, Failed, TooManyReads}
use Rattle.streams.specs.Held.{Held, HasLine, size}
use Rattle.streams.specs.Lines.{NoFeed}

-- a whole line is held, or there is none
abbrev pub IsFound : Held → Option (List ℕ) → Found → Type 0
IsFound held rest Line = HasLine held.bytes
IsFound held rest LastLine = NoFeed held.bytes × (0 < size held) × IsAtEnd rest
IsFound held rest End = (size held ≡ 0) × IsAtEnd rest
IsFound held rest Failed = NoFeed held.bytes
IsFound held rest TooManyReads = NoFeed held.bytes

-- only where the reader failed there is one fault more
abbrev pub FoundFaults : ℕ → ℕ → Found → Type 0
FoundFaults old new Line = new ≡ old
FoundFaults old new LastLine = new ≡ old
FoundFaults old new End = new ≡ old
FoundFaults old new Failed = new ≡ one_more old
FoundFaults old new TooManyReads = new ≡ old

-- more than there can still be lines: it falls with each line that is passed
abbrev pub work : (most calls : ℕ) → Held → ℕ
work most calls held = (most - calls) * 300003 + size held

-- What reading adds to what is held.
use Rattle.std.specs.Prelude.{◌≤◌, ℕ, List, ◌++◌, Option}
use Rattle.std.specs.Io.KnownBytes.{Consumes, IsAtEnd}
use Rattle.streams.specs.declared.some.SomeRead.{SomeRead}
use Rattle.streams.specs.declared.some.SomeRead.TheVariants.{Bytes, End, Failed, TooManyReads}
use Rattle.streams.specs.Held.{Held, Holds, size}
use Rattle.streams.specs.Lines.{NoFeed}

-- the end was reported only where no byte is left
abbrev pub EndsAfter : Option (List ℕ) → SomeRead → Type 0
EndsAfter rest End = IsAtEnd rest
EndsAfter rest _ = Unit {0}

-- what was held stands for the same bytes, and then for those that were read
abbrev pub Fills : (old new : Held) (before after : Option (List ℕ)) → Type 0
Fills old new before after = (bytes : List ℕ) → Holds old bytes →
    (more : List ℕ) × Consumes before after more × Holds new (bytes ++ more)

-- where no byte was read there is no more than before, and no line feed
abbrev pub FillsNone : (old new : Held) → Type 0
FillsNone old new = NoFeed new.bytes × (size new ≤ size old)

abbrev pub StopsFilling : (old new : Held) (rest : Option (List ℕ)) → SomeRead → Type 0
StopsFilling old new rest (Bytes n) = size new ≤ 300002
StopsFilling old new rest End = FillsNone old new × IsAtEnd rest
StopsFilling old new rest Failed = FillsNone old new
StopsFilling old new rest TooManyReads = FillsNone old new

-- What the writing of an answer leaves of a writer.
use Rattle.std.specs.Prelude.{◌≡◌, ℕ, List, Option, ⊤, Result, Ok, Err}
use Rattle.std.specs.Io.KnownBytes.{Appends}
use Rattle.streams.specs.Counts.{one_more}
use Rattle.streams.specs.Steps.{AppendsPart}
use Rattle.desk_lines.specs.declared.fault.DeskFault.{DeskFault}
use Rattle.desk_lines.specs.declared.fault.DeskFault.TheVariants as fault

-- the line that answers a line of the input is written; or the fault has the number of that
-- line, and says what is written
abbrev pub IsServed : Option (List ℕ) → Option (List ℕ) → List ℕ → ℕ → Result ⊤ DeskFault → Type 0
IsServed before after text number (Ok u) = Appends before after text
IsServed before after text number (Err (fault.Write line)) =
    (line ≡ number) × AppendsPart before after text
IsServed before after text number (Err (fault.NoMemory line _)) = (line ≡ number) × (after ≡ before)
IsServed before after text number (Err (fault.Read line)) = ⊥
IsServed before after text number (Err (fault.TooManyReads line)) = ⊥
IsServed before after text number (Err (fault.Unbegun _)) = ⊥

-- only where the writer failed is there one fault more
abbrev pub CountsServed : ℕ → ℕ → Result ⊤ DeskFault → Type 0
CountsServed old new (Ok u) = new ≡ old
CountsServed old new (Err (fault.Write line)) = new ≡ one_more old
CountsServed old new (Err (fault.NoMemory line _)) = new ≡ old
CountsServed old new (Err (fault.Read line)) = ⊥
CountsServed old new (Err (fault.TooManyReads line)) = ⊥
CountsServed old new (Err (fault.Unbegun _)) = ⊥

-- What a buffer of lines holds of a stream.
use Rattle.std.specs.Prelude.{◌≡◌, ◌≢◌, ℕ, ◌+◌, ◌<◌, ◌≤◌, Bool, true, false, List, [], ◌∷◌, ◌++◌}
use Rattle.std.specs.Prelude.{length, slice_index, if◌then◌else◌}
use Rattle.streams.specs.Lines.{first_line, after_line, NoFeed}
use Rattle.streams.specs.declared.lines.TheConstants.{MAX_LINE, ROOM}

-- bytes, and whether others of the line that they begin with were dropped, since it is too long
pub record Held : Type 0 where
  pub bytes : List ℕ
  pub too_long : Bool

-- in the buffer the bytes from a start to an end are held, and the first line feed among them is
-- found, if there is one
pub record IsSound (buffer : List ℕ) (start feed end : ℕ) : Type 0 where
  pub room : length buffer ≡ ROOM
  pub ordered : start ≤ feed
  pub within : feed ≤ end
  pub in_bounds : end ≤ ROOM
  pub before : (k : ℕ) → start ≤ k → k < feed → slice_index buffer k ≢ 10
  pub at : feed < end → slice_index buffer feed ≡ 10

abbrev pub nothing : Held
nothing = record { bytes = []; too_long = false }

-- what may have been dropped before the bytes
abbrev pub IsDropped : Bool → List ℕ → Type 0
IsDropped false front = front ≡ []
IsDropped true front = NoFeed front × (MAX_LINE < length front)

-- what is held stands for these bytes of the stream
pub record Holds (held : Held) (bytes : List ℕ) : Type 0 where
  pub front : List ℕ
  pub parts : bytes ≡ front ++ held.bytes
  pub dropped : IsDropped held.too_long front

-- the bytes begin with a line and its line feed
abbrev pub HasLine : List ℕ → Type 0
HasLine bytes = bytes ≡ first_line bytes ++ 10 ∷ after_line bytes

-- whether a whole line is held
abbrev pub TellsWhole : Held → Bool → Type 0
TellsWhole held true = HasLine held.bytes
TellsWhole held false = NoFeed held.bytes

-- how much is held: none just where nothing is, and less after each line that is passed
abbrev pub size : Held → ℕ
size held = length held.bytes + (if held.too_long then 1 else 0)

-- whether nothing is held
abbrev pub TellsEmpty : Held → Bool → Type 0
TellsEmpty held true = size held ≡ 0
TellsEmpty held false = 0 < size held

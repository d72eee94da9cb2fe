-- Whether files changed while they were read, and what is said then.
use Rattle.std.specs.Prelude.{◌≡◌, ◌⊎◌, ◌&&◌, ℕ, List, Bool, true, false, codes, Option, Result}
use Rattle.std.specs.Prelude.{string_bytes}
use Rattle.std.specs.Option.{option_eq}
use Rattle.std.specs.Path.{path_buf_bytes}
use Rattle.std.specs.declared.alloc.Global.{Global}
use Rattle.std.specs.declared.io.Error.{Error}
use Rattle.std.specs.declared.path.buf.PathBuf.{PathBuf}
use Rattle.streams.specs.declared.counted.Counted.{Counted}
use Rattle.command_host.specs.Said.{IsSaid}
use Rattle.command_host.specs.contracts.place.StampPartialEq.TheImpl.{eq-value}
use Rattle.command_host.specs.declared.place.Stamp.{Stamp}
use Rattle.reading_commands.specs.Places.{IsPlace}
use Rattle.reading_commands.specs.declared.moment.Moment.{Moment}
use Rattle.reading_commands.specs.declared.place.Place.{Place}

-- the line on standard error
abbrev pub changed_line : List ℕ
changed_line = codes "office: a file changed while it was read\n"

-- the files of a database that lies there, and a journal, were so
pub record IsMoment (Stamped : List ℕ → Option Stamp → Type 0) (place : Place) (journal : List ℕ)
    (moment : Moment) : Type 0 where
  pub database : Stamped (path_buf_bytes place.database) moment.database
  pub log : Stamped (string_bytes place.log) moment.log
  pub journal_of : Stamped journal moment.journal

-- both moments are the same: of each file there was none, or the same one, as long, and written last
-- at the same time
abbrev pub is_same : (before after : Moment) → Bool
is_same before after =
    option_eq eq-value.it before.database after.database
    && (option_eq eq-value.it before.log after.log
    && option_eq eq-value.it before.journal after.journal)

-- what standard error had, and then has
module _ {E : Type 0} (said_of : E → Option (List ℕ)) (errors said : Counted E) where
  -- the line was said just where they changed between two moments
  abbrev pub WasNoted : (before after : Moment) → Type 0
  WasNoted before after = ((is_same before after ≡ true) × (said ≡ errors))
      ⊎ ((is_same before after ≡ false) × IsSaid said_of errors said changed_line)

  -- Of the files of the database at a path, and of a journal: they were so, before they were read and
  -- after that, and the line was said where they changed; or nothing was said.
  pub record HasCompared (Found : Result (PathBuf Global) Error → Type 0)
      (Stamped : List ℕ → Option Stamp → Type 0) (journal : List ℕ) : Type 0 where
    pub place : Place
    pub placed : IsPlace Found place
    pub before : Moment
    pub after : Moment
    pub was : IsMoment Stamped place journal before
    pub is : IsMoment Stamped place journal after
    pub noted : WasNoted before after

  abbrev pub MayHaveNoted : (Found : Result (PathBuf Global) Error → Type 0)
      → (Stamped : List ℕ → Option Stamp → Type 0) (journal : List ℕ) → Type 0
  MayHaveNoted Found Stamped journal =
      (said ≡ errors) ⊎ HasCompared Found Stamped journal

-- An office in a copy of the two files of a database.
use Rattle.std.specs.Prelude.{◌≡◌, ◌≢◌, ◌⊎◌, ◌<◌, ◌≤◌, ℕ, List, [], length, take}
use Rattle.std.specs.Prelude.{Option, Some, None, Result, Ok, Err, IfSome, string_bytes}
use Rattle.std.specs.IoError.{error_kind}
use Rattle.std.specs.Path.{path_buf_bytes}
use Rattle.std.specs.declared.io.Error.{Error}
use Rattle.std.specs.declared.io.ErrorKind.TheVariants as kind
use Rattle.sqlite.specs.Held.{Held}
use Rattle.sqlite.specs.declared.error.Error.{Error as SqliteError}
use Rattle.memory_database.specs.Copies.{CopyStore, over_copy, FailsToCopy, IsCopyOf}
use Rattle.office_founding.specs.declared.fault.OpeningFault.{OpeningFault}
use Rattle.office_words.specs.declared.fault.Fault.TheVariants.{NoMemory, Disk, NotAnOffice}
use Rattle.database_files.specs.Extents.{database_extent, head_bytes, log_extent, most_bytes}
use Rattle.command_host.specs.FailedCalls.{CallFailed}
use Rattle.command_host.specs.Openings.{fault_of_opening, IsNoOffice, IsOpenedOffice}
use Rattle.command_host.specs.declared.fault.CommandFault.{CommandFault}
use Rattle.command_host.specs.declared.fault.CommandFault.TheVariants as fault
use Rattle.profile_commands.specs.declared.fault.FileFault.TheVariants as file
use Rattle.streams.specs.declared.unread.Unread.{Unread}
use Rattle.streams.specs.declared.unread.Unread.TheVariants as unread
use Rattle.reading_commands.specs.Places.{IsMissing}
use Rattle.reading_commands.specs.Reading.{HaveCalled}
use Rattle.reading_commands.specs.declared.place.Place.{Place}

-- how far a file is read whose first bytes these are: a log, or a database beside one
abbrev pub extent_of : (log : Option (List ℕ)) (head : List ℕ) → ℕ
extent_of None head = log_extent head
extent_of (Some log) head = database_extent log head

-- the front of a file that is read
abbrev pub front_of : (log : Option (List ℕ)) (all : List ℕ) → List ℕ
front_of log all = take (extent_of log (take head_bytes all)) all

-- the fault of a file that wasn't read
abbrev pub fault_of_read : Unread → CommandFault
fault_of_read unread.Failed = fault.Store Disk
fault_of_read unread.TooManyReads = fault.File (file.Unread unread.TooManyReads)
fault_of_read (unread.NoMemory memory) = fault.Store (NoMemory memory)

-- why a file that was opened gives no bytes
abbrev pub IsOfReading : {F : Type 0} (Gives : F → F → Result ℕ Error → List ℕ → Type 0)
    → CommandFault → Type 0
IsOfReading Gives (fault.Store Disk) = CallFailed Gives
IsOfReading Gives (fault.Store (NoMemory _)) = Unit {0}
IsOfReading Gives (fault.File (file.Unread unread.TooManyReads)) = HaveCalled Gives
IsOfReading Gives _ = ⊥

-- of a file of which this is known as it is opened, and whose bytes are these: a log, or a database
-- beside one
module _ {F : Type 0} (Opened : Result F Error → Type 0) where
  -- the file was opened and gave these bytes, the front of its own where they are known
  abbrev pub Gave : (F → Option (List ℕ)) → Option (List ℕ) → List ℕ → Type 0
  Gave bytes_of log bytes = (file : F) × Opened (Ok file)
      × IfSome (bytes_of file) (λ all. bytes ≡ front_of log all)

  -- The file gave none, for this. Nothing is there; or what is there can't be opened, or a call of
  -- read on it failed. Or memory was lacking, as many calls were made as are allowed, or more bytes
  -- were wanted than are read.
  abbrev pub GaveNone : (Gives : F → F → Result ℕ Error → List ℕ → Type 0)
      → (F → Option (List ℕ)) → Option (List ℕ) → CommandFault → Type 0
  GaveNone Gives bytes_of log (fault.Store NotAnOffice) =
      (e : Error) × Opened (Err e) × IsMissing e
  GaveNone Gives bytes_of log (fault.Store Disk) =
      ((e : Error) × Opened (Err e) × (error_kind e ≢ kind.NotFound))
      ⊎ ((file : F) × Opened (Ok file) × CallFailed Gives)
  GaveNone Gives bytes_of log (fault.Store (NoMemory _)) = (file : F) × Opened (Ok file)
  GaveNone Gives bytes_of log (fault.File (file.Unread unread.TooManyReads)) =
      (file : F) × Opened (Ok file) × HaveCalled Gives
  GaveNone Gives bytes_of log fault.TooLarge = (file : F) × Opened (Ok file)
      × IfSome (bytes_of file) (λ all. most_bytes < length (front_of log all))
  GaveNone Gives bytes_of log _ = ⊥

  -- the log beside a database gave these bytes; or none is there, and there are none
  abbrev pub GaveLog : (F → Option (List ℕ)) → List ℕ → Type 0
  GaveLog bytes_of bytes = Gave bytes_of None bytes
      ⊎ (((e : Error) × Opened (Err e) × IsMissing e) × (bytes ≡ []))

-- of files of which this is known as they are opened and read, and whose bytes are these
module _ {F : Type 0} (Opens : List ℕ → Result F Error → Type 0) where
  -- the two files of a database that lies there gave these bytes
  pub record HaveGiven (bytes_of : F → Option (List ℕ)) (place : Place) (log database : List ℕ)
      : Type 0 where
    pub from_log : GaveLog (Opens (string_bytes place.log)) bytes_of log
    pub from_database : Gave (Opens (path_buf_bytes place.database)) bytes_of (Some log) database

  -- one of them gave none, for this; that no log is there is no cause
  abbrev pub HaveGivenNone : (Gives : F → F → Result ℕ Error → List ℕ → Type 0)
      → (F → Option (List ℕ)) → Place → CommandFault → Type 0
  HaveGivenNone Gives bytes_of place why =
      ((why ≢ fault.Store NotAnOffice)
      × GaveNone (Opens (string_bytes place.log)) Gives bytes_of None why)
      ⊎ ((log : List ℕ) × GaveLog (Opens (string_bytes place.log)) bytes_of log
      × GaveNone (Opens (path_buf_bytes place.database)) Gives bytes_of (Some log) why)

-- of two files that gave these bytes
module _ (log database : List ℕ) where
  -- the office in a copy of them
  abbrev pub IsCopiedOffice : Held CopyStore → Type 0
  IsCopiedOffice = IsOpenedOffice over_copy (IsCopyOf log database)

  -- no copy is made, for this
  abbrev pub IsUncopied : CommandFault → Type 0
  IsUncopied why = (error : SqliteError) × FailsToCopy log database error
      × (why ≡ fault_of_opening error)

  -- no copy is made; or what is in it is no office of this schema
  abbrev pub IsNoCopiedOffice : CommandFault → Type 0
  IsNoCopiedOffice why =
      IsUncopied why
      ⊎ ((none : OpeningFault) × (why ≡ fault.Opening none) × ((was new : Held CopyStore)
      × IsCopyOf log database was × IsNoOffice over_copy was new none))

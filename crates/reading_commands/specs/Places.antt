-- Where the two files of a database lie.
use Rattle.std.specs.Prelude.{◌≡◌, ◌≢◌, ℕ, List, ◌++◌, codes, Result, Ok, Err, string_bytes}
use Rattle.std.specs.IoError.{error_kind}
use Rattle.std.specs.Path.{path_buf_bytes}
use Rattle.std.specs.declared.alloc.Global.{Global}
use Rattle.std.specs.declared.io.Error.{Error}
use Rattle.std.specs.declared.io.ErrorKind.TheVariants as kind
use Rattle.std.specs.declared.path.buf.PathBuf.{PathBuf}
use Rattle.office_words.specs.declared.fault.Fault.TheVariants.{NoMemory, Disk, NotAnOffice}
use Rattle.command_host.specs.declared.fault.CommandFault.{CommandFault}
use Rattle.command_host.specs.declared.fault.CommandFault.TheVariants as fault
use Rattle.reading_commands.specs.declared.place.Place.{Place}

-- nothing is there
abbrev pub IsMissing : Error → Type 0
IsMissing e = error_kind e ≡ kind.NotFound

-- the log beside a database
abbrev pub log_path : List ℕ → List ℕ
log_path path = path ++ codes "-wal"

-- of what came of asking where a database lies
module _ (Found : Result (PathBuf Global) Error → Type 0) where
  -- the database lies there, and its log beside it
  abbrev pub IsPlace : Place → Type 0
  IsPlace place = Found (Ok place.database)
      × (string_bytes place.log ≡ log_path (path_buf_bytes place.database))

  -- the database lies nowhere, for this: nothing is there, or what is there can't be had; or there was
  -- no memory
  abbrev pub IsNoPlace : CommandFault → Type 0
  IsNoPlace (fault.Store NotAnOffice) = (e : Error) × Found (Err e) × IsMissing e
  IsNoPlace (fault.Store Disk) = (e : Error) × Found (Err e) × (error_kind e ≢ kind.NotFound)
  IsNoPlace (fault.Store (NoMemory _)) = Unit {0}
  IsNoPlace _ = ⊥

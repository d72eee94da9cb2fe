-- What the databases in the files of a host are known by, and what a command leaves in them.
use Rattle.std.specs.Prelude.{ℕ, List, Ok, Option, Result}
use Rattle.std.specs.declared.io.Error.{Error}
use Rattle.sqlite_disk.specs.declared.Disk as disk
use Rattle.sqlite_disk.specs.declared.Files.{Files}
use Rattle.sqlite_wal.specs.Files.{outcomes}
use Rattle.sqlite_wal.specs.Reads.{AreClean}
use Rattle.sqlite_wal.specs.Recovery.{Image}
use Rattle.sqlite.specs.Files.{image_of, over_files}
use Rattle.desk_lines.specs.Outcomes.{history_after_lines}
use Rattle.desk_lines.specs.Stands.{HasHandled}
use Rattle.desk_http.specs.Exchanged.{requests_in, answers_in}
use Rattle.office_founding.specs.Reopening.{HoldsOffice, HoldsOldOffice}
use Rattle.office_policy.specs.History.{History}
use Rattle.office_policy.specs.Lawful.{IsLawfulHistory}
use Rattle.office_policy.specs.Runs.{history_after_all}
use Rattle.office_policy.specs.TablesOf.{tables_of}
use Rattle.review_office.specs.Meant.{meaning_over}
use Rattle.changing_commands.specs.declared.founding.Founding.{Founding}
use Rattle.changing_commands.specs.declared.rebuild.Built.{Built}
use Rattle.changing_commands.specs.Foundings.{WasFounded, history_of}
use Rattle.changing_commands.specs.Migrations.{WasMigrated}
use Rattle.changing_commands.specs.Rebuildings.{WasRebuilt}
use Rattle.command_host.specs.Openings.{IsClosed, WasServed}
use Rattle.changing_commands.specs.Serving.{HasServedUpTo}
use Rattle.command_host.specs.HostFiles.{IsClosedInto, IsFoundIn}

-- two files hold the office of this history, as they read now and after a crash
abbrev pub HoldHistory : {D : Type 0} → disk.Ghosts D → Files D → History → Type 0
HoldHistory g files h = AreClean g files.log files.db → HoldsOffice (image_of g files) (tables_of h)
    × ((left : Image) → outcomes g files.log files.db left → HoldsOffice left (tables_of h))

module _ {D : Type 0} (g : disk.Ghosts D) where
  -- what was founded and closed is left in its files
  abbrev pub FoundingIsLeft : Type 0
  FoundingIsLeft = (image : Image) (founding : Founding)
      (it : WasFounded (over_files {g = g}) (IsFoundIn image) (IsClosed IsClosedInto) (Ok founding))
      → HoldHistory g it.closed.0 (history_of founding)

  -- A desk over files that hold the office of a history leaves files that hold the office of that
  -- history and of what its lines were answered, with whatever mark they are closed.
  abbrev pub DeskIsLeft : Type 0
  DeskIsLeft = (h : History) (image : Image) (mark : Option ℕ) → IsLawfulHistory h
      → HoldsOffice image (tables_of h)
      → (it : WasServed (over_files {g = g}) (IsFoundIn image)
      (HasHandled (meaning_over over_files)) mark (IsClosed IsClosedInto))
      → HoldHistory g it.closed.0 (history_after_lines h it.done.outcomes)

  -- Exchanges over files that hold the office of a history leave files that hold the office of that
  -- history and of what they were answered.
  abbrev pub ExchangesAreLeft : Type 0
  ExchangesAreLeft = (h : History) (image : Image) (most : _) (mark : Option ℕ)
      → IsLawfulHistory h → HoldsOffice image (tables_of h)
      → (it : WasServed (over_files {g = g}) (IsFoundIn image)
      (λ old new. HasServedUpTo (meaning_over over_files) old new most) mark (IsClosed IsClosedInto))
      → HoldHistory g it.closed.0
      (history_after_all h (requests_in it.done.1.came) (answers_in it.done.1.came))

  -- where files hold, under schema 1, the tables of a history, `migrate` leaves files that hold the
  -- office of that history
  abbrev pub MigrationIsLeft : Type 0
  MigrationIsLeft = (h : History) (image : Image) (mark : Option ℕ)
      → HoldsOldOffice image (tables_of h)
      → (it : WasMigrated (over_files {g = g}) (IsFoundIn image) mark (IsClosed IsClosedInto))
      → HoldHistory g it.closed.0 h

  -- what was built anew of a journal, and closed, is left in its files: the office of the history that
  -- the journal is of
  abbrev pub RebuildingIsLeft : {F : Type 0} → (Opens : Result F Error → Type 0)
      → (bytes_of : F → Option (List ℕ)) → Type 0
  RebuildingIsLeft Opens bytes_of = (image : Image) (built : Built)
      (it : WasRebuilt (over_files {g = g}) Opens bytes_of (IsFoundIn image)
      (IsClosed IsClosedInto) built)
      → HoldHistory g it.closed.0 it.rebuilt.rebuilt.history

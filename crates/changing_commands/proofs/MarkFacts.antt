-- What files hold of an office that was closed with a mark.
use Rattle.std.proofs.Common.{◌≡◌, ℕ, Bool, true, false, if◌then◌else◌, IsTrue, Option, Some, None, length, ap, sym, subst, inl, inr, arith}
use Rattle.std.proofs.lemmas.Bool.{cases_Bool}
use Rattle.sqlite_disk.specs.declared.Disk.{Ghosts}
use Rattle.sqlite_disk.specs.declared.Files.{Files}
use Rattle.sqlite_wal.specs.Files.{outcomes}
use Rattle.sqlite_wal.specs.Recovery.{Image}
use Rattle.sqlite_trees.specs.Tree.{Trees}
use Rattle.sqlite_store.specs.declared.store.FileStore.{FileStore}
use Rattle.sqlite.specs.Effect.{Database}
use Rattle.sqlite.specs.Files.{file_state, image_of}
use Rattle.sqlite.specs.Held.{Held}
use Rattle.database_files.specs.Marks.{IsCopiedAs, marked}
use Rattle.database_files.proofs.Marking.{marked_sound}
use Rattle.office_words.specs.Tables.{Tables}
use Rattle.office_store.specs.Schema.{office_schema}
use Rattle.office_store.specs.Shown.{AreOffice, Shows}
use Rattle.office_store.proofs.Committed.{trees_of}
use Rattle.office_founding.specs.Reopening.{HoldsOffice}
use Rattle.sealed_log.specs.Log.{bodies_of}
use Rattle.sealed_log.specs.declared.log.SealedLog.{SealedLog}
use Rattle.journal.specs.Logs.{in_log}
use Rattle.command_host.specs.Marks.{mark_of_lines}
use Rattle.changing_commands.specs.Journals.{mark_beside}
use Rattle.changing_commands.specs.KeptHosts.{IsNoMore}

-- no table of an office stands where the mark does
marked_office : (mark : Option ℕ) (trees : Trees) (t : Tables) → AreOffice trees t → AreOffice (marked mark trees) t
marked_office None trees t office = office
marked_office (Some mark) trees t office = record {
  schema = office.schema;
  sound = marked_sound office_schema trees mark office.sound;
  office = office.office;
  listed = office.listed;
  users = office.users;
  users_are = office.users_are;
  revisions = office.revisions;
  revisions_are = office.revisions_are;
  votes = office.votes;
  votes_are = office.votes_are;
  baselines = office.baselines;
  baselines_are = office.baselines_are;
  holds = office.holds;
  holds_are = office.holds_are;
}

module _ {D : Type 0} {g : Ghosts D} (c : Held (FileStore D g)) (mark : Option ℕ) (files : Files D) (t : Tables) (shows : Shows (file_state c) t) (copied : IsCopiedAs c mark files) where
  closed_office : AreOffice (marked mark (file_state c).committed.trees) t
  closed_office =
      marked_office mark (file_state c).committed.trees t
      (trees_of (file_state c).now (file_state c).committed.trees t shows.office (ap (λ (d : Database). d.trees) (sym shows.settled)))

  pub closed_holds : HoldsOffice (image_of g files) t
  closed_holds = record { trees = marked mark (file_state c).committed.trees; office = closed_office; held = copied.seen.both }

  pub crashed_holds : (left : Image) → outcomes g files.log files.db left → HoldsOffice left t
  crashed_holds left may = record { trees = marked mark (file_state c).committed.trees; office = closed_office; held = (copied.left left may).both }

-- a log has as many lines as it counts
pub no_more : {L : Type 0} {f : Ghosts L} (log : SealedLog L f) → IsTrue (f.is_clean log.disk) → IsNoMore (mark_beside log) (length (bodies_of f log))
no_more {f = f} log clean =
    let lines = length (bodies_of f log) in
    let marks : Bool → Type 0 = λ b. IsNoMore (if b then Some (mark_of_lines log.lines) else None) lines in
    elim (cases_Bool log.is_open) [
      | inl on ↦ subst marks (sym on) (omega (arith, (in_log f).counted log clean on))
      | inr off ↦ subst marks (sym off) tt
    ]

-- What a command leaves of an office with a journal in the files of a host.
use Rattle.std.proofs.Common.{ℕ, [], IsTrue, Result, subst, sym}
use Rattle.sqlite_disk.specs.declared.Disk as disk
use Rattle.sqlite_wal.specs.Reads.{AreClean}
use Rattle.sqlite_wal.specs.Recovery.{Image}
use Rattle.sqlite_store.specs.declared.store.FileStore.{FileStore}
use Rattle.sqlite.specs.Files.{file_state, over_files}
use Rattle.sqlite.specs.Held.{Held}
use Rattle.sqlite.specs.State.{HasCleanDisk}
use Rattle.sealed_log.specs.Log.{bodies_of}
use Rattle.sealed_log.specs.declared.log.SealedLog.{SealedLog}
use Rattle.journal_office.specs.Mending.{TellsOf}
use Rattle.journal_office.specs.Opening.{IsOfNow}
use Rattle.office_founding.specs.Reopening.{HoldsOffice}
use Rattle.office_policy.specs.History.{History}
use Rattle.office_policy.specs.Lawful.{IsLawfulHistory}
use Rattle.office_policy.specs.TablesOf.{tables_of}
use Rattle.journal.specs.Journals.{IsOf}
use Rattle.journal.specs.Logs.{in_log}
use Rattle.journal.specs.declared.journaled.Journaled.{Journaled}
use Rattle.review_office.specs.Meant.{meaning_over}
use Rattle.command_host.specs.declared.no_file.NoFile.{NoFile}
use Rattle.command_host.specs.HostFiles.{IsClosedInto, IsFoundIn}
use Rattle.command_host.specs.Openings.{IsClosed}
use Rattle.changing_commands.specs.Foundings.{founding_event}
use Rattle.changing_commands.specs.Journals.{IsClosedKept, IsKeptOffice, mark_beside}
use Rattle.changing_commands.specs.KeptHosts.{HoldBoth, KeptDeskIsLeft, KeptExchangesAreLeft, KeptFoundingIsLeft, MarkingIsLeft}
use Rattle.changing_commands.proofs.MarkFacts.{no_more}
use Rattle.changing_commands.proofs.LeftFacts.{left, served}

module _ {D L : Type 0} (g : disk.Ghosts D) (f : disk.Ghosts L) where
  -- an office with its journal that was of a history, and was closed, is left so
  ended : (h : History) (x : Journaled (Held (FileStore D g)) (SealedLog L f)) (it : IsClosedKept (over_files {g = g}) f (IsClosed IsClosedInto) x)
      → (HasCleanDisk (file_state x.office) → IsTrue (f.is_clean x.journal.disk) → IsOf (meaning_over over_files) (in_log f) h x)
      → IsTrue (f.is_clean it.last.journal.disk) → AreClean g it.closed.0.log it.closed.0.db → HoldBoth g f it.closed.0 it.last h
  ended h x it of clean_log clean =
      let is_clean = (it.closed.1 clean).was_clean in
      let was = it.settled.survives.clean (is_clean, clean_log) in
      let left_of = it.settled.of h (of was.0 was.1) in
      record {
        office = left g it.last.office (mark_beside it.last.journal) it.closed h (λ clean. left_of.office);
        journal = λ clean goes. left_of.says (is_clean, clean) goes;
        mark = λ clean. no_more it.last.journal clean;
      }

  pub founding_left : (Created : Result L NoFile → Type 0) → KeptFoundingIsLeft g f Created
  founding_left Created image founding it clean_log clean =
      ended _ _ it.ended
      (λ clean_disk clean_file. record {
        office = it.founded.founded.0;
        says = λ clean goes. it.journal.says clean.1;
        ends = λ clean goes unsettled. record { before = []; event = founding_event founding; forms = it.journal.forms; is = it.journal.line.1 clean.1 };
      })
      clean_log clean

  module _ (Found : Result L NoFile → Type 0) where
    kept : (h : History) (image : Image) (mark : ℕ) → IsLawfulHistory h → HoldsOffice image (tables_of h) → (x : Journaled (Held (FileStore D g)) (SealedLog L f))
        → (it : IsKeptOffice (over_files {g = g}) f Found (IsFoundIn image) mark x) → IsTrue (f.is_clean x.journal.disk) → TellsOf h (bodies_of f it.journal.log)
        → HasCleanDisk (file_state x.office) → IsOfNow (over_files {g = g}) f h it.was x
    kept h image mark lawful holds x it clean_log tells clean =
        it.journal.again.journal clean_log h (served g h image lawful holds it.was it.office (it.journal.again.office.survives.clean clean)) tells clean

    pub desk_left : KeptDeskIsLeft g f Found
    desk_left h image mark lawful holds it clean_log tells clean =
        let is_clean = (it.ended.closed.1 clean).was_clean in
        let was = it.done.handled.survives.clean (it.ended.settled.survives.clean (is_clean, clean_log)) in
        let opened = kept h image mark lawful holds it.old it.office was.1 tells was.0 in
        record {
          now = opened.now;
          tables = opened.tables;
          hold = ended _ it.new it.ended (λ clean_disk clean_file. it.done.handled.office opened.now opened.of) clean_log clean;
        }

    pub exchanges_left : KeptExchangesAreLeft g f Found
    exchanges_left h image most mark lawful holds it clean_log tells clean =
        let is_clean = (it.ended.closed.1 clean).was_clean in
        let was = it.done.1.handled.survives.clean (it.ended.settled.survives.clean (is_clean, clean_log)) in
        let opened = kept h image mark lawful holds it.old it.office was.1 tells was.0 in
        record {
          now = opened.now;
          tables = opened.tables;
          hold = ended _ it.new it.ended (λ clean_disk clean_file. it.done.1.handled.office opened.now opened.of) clean_log clean;
        }

    pub marking_left : MarkingIsLeft g f Found
    marking_left h image mark lawful holds it clean_log tells clean =
        let is_clean = (it.ended.closed.1 clean).was_clean in
        let Clean = λ (x : Journaled (Held (FileStore D g)) (SealedLog L f)). HasCleanDisk (file_state x.office) × IsTrue (f.is_clean x.journal.disk) in
        let was = subst Clean it.done (it.ended.settled.survives.clean (is_clean, clean_log)) in
        let opened = kept h image mark lawful holds it.old it.office was.1 tells was.0 in
        let Of = λ (x : Journaled (Held (FileStore D g)) (SealedLog L f)). IsOf (meaning_over over_files) (in_log f) opened.now x in
        record {
          now = opened.now;
          tables = opened.tables;
          hold = ended _ it.new it.ended (λ clean_disk clean_file. subst Of (sym it.done) opened.of) clean_log clean;
        }

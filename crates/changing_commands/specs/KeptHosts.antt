-- What a command leaves of an office with a journal in the files of a host.
use Rattle.std.specs.Prelude.{◌≡◌, ◌≤◌, ℕ, Option, Some, None, length, Result, IsTrue}
use Rattle.sqlite_disk.specs.declared.Disk as disk
use Rattle.sqlite_disk.specs.declared.Files.{Files}
use Rattle.sqlite_wal.specs.Reads.{AreClean}
use Rattle.sqlite_wal.specs.Recovery.{Image}
use Rattle.sqlite_store.specs.declared.store.FileStore.{FileStore}
use Rattle.sqlite.specs.Files.{over_files}
use Rattle.sqlite.specs.Held.{Held}
use Rattle.desk_lines.specs.Outcomes.{history_after_lines}
use Rattle.desk_lines.specs.Stands.{HasHandled}
use Rattle.desk_http.specs.Exchanged.{requests_in, answers_in}
use Rattle.sealed_log.specs.Log.{bodies_of}
use Rattle.sealed_log.specs.declared.log.SealedLog.{SealedLog}
use Rattle.journal.specs.Journal.{Says}
use Rattle.journal_office.specs.Mending.{HasTablesOf, TellsOf}
use Rattle.office_founding.specs.Reopening.{HoldsOffice}
use Rattle.journal.specs.Logs.{in_log}
use Rattle.journal.specs.Journals.{goes_on}
use Rattle.journal.specs.declared.journaled.Journaled.{Journaled}
use Rattle.office_policy.specs.History.{History}
use Rattle.office_policy.specs.Lawful.{IsLawfulHistory}
use Rattle.office_policy.specs.Runs.{history_after_all}
use Rattle.office_policy.specs.TablesOf.{tables_of}
use Rattle.review_office.specs.Meant.{meaning_over}
use Rattle.command_host.specs.declared.no_file.NoFile.{NoFile}
use Rattle.changing_commands.specs.Hosts.{HoldHistory}
use Rattle.command_host.specs.HostFiles.{IsClosedInto, IsFoundIn}
use Rattle.command_host.specs.Openings.{IsClosed}
use Rattle.changing_commands.specs.declared.founding.Founding.{Founding}
use Rattle.changing_commands.specs.Foundings.{history_of}
use Rattle.changing_commands.specs.Journals.{journaled_over, mark_beside, WasFoundedBehind, WasKept}
use Rattle.changing_commands.specs.Serving.{HasServedUpTo}

-- no more lines are marked than a journal has, if any are
abbrev pub IsNoMore : Option ℕ → ℕ → Type 0
IsNoMore None lines = Unit {0}
IsNoMore (Some mark) lines = mark ≤ lines

module _ {D L : Type 0} (g : disk.Ghosts D) (f : disk.Ghosts L) where
  -- the files hold the office of a history, and the journal says just that one, unless a fault has
  -- shut it; and a mark that was set isn't above its lines
  pub record HoldBoth (files : Files D) (x : Journaled (Held (FileStore D g)) (SealedLog L f))
      (h : History) : Type 0 where
    pub office : HoldHistory g files h
    pub journal : IsTrue (f.is_clean x.journal.disk)
        → IsTrue (goes_on (meaning_over over_files) (in_log f) x)
        → Says (bodies_of f x.journal) h
    pub mark : IsTrue (f.is_clean x.journal.disk)
        → IsNoMore (mark_beside x.journal) (length (bodies_of f x.journal))

  -- The office is of a history with the tables of the one before, and what was done after it: the
  -- files hold that.
  pub record AreLeft (files : Files D) (x : Journaled (Held (FileStore D g)) (SealedLog L f))
      (h : History) (after : History → History) : Type 0 where
    pub now : History
    pub tables : HasTablesOf h now
    pub hold : HoldBoth files x (after now)

  module _ (Found : Result L NoFile → Type 0) where
    -- A desk with a journal over files that hold the office of a history, where the file of the
    -- journal told that or it with one event more, leaves both of one history: with what its lines
    -- were answered.
    abbrev pub KeptDeskIsLeft : Type 0
    KeptDeskIsLeft = (h : History) (image : Image) (mark : ℕ)
        → IsLawfulHistory h → HoldsOffice image (tables_of h)
        → (it : WasKept (over_files {g = g}) f Found (IsFoundIn image) mark
        (HasHandled (journaled_over over_files f)) (IsClosed IsClosedInto))
        → IsTrue (f.is_clean it.ended.last.journal.disk)
        → TellsOf h (bodies_of f it.office.journal.log)
        → AreClean g it.ended.closed.0.log it.ended.closed.0.db
        → AreLeft it.ended.closed.0 it.ended.last h
        (λ now. history_after_lines now it.done.outcomes)

    -- Exchanges over an office and its journal, which told its history or one event more, leave
    -- both of one history: with what they were answered.
    abbrev pub KeptExchangesAreLeft : Type 0
    KeptExchangesAreLeft = (h : History) (image : Image) (most mark : ℕ)
        → IsLawfulHistory h → HoldsOffice image (tables_of h)
        → (it : WasKept (over_files {g = g}) f Found (IsFoundIn image) mark
        (λ old new. HasServedUpTo (journaled_over over_files f) old new most) (IsClosed IsClosedInto))
        → IsTrue (f.is_clean it.ended.last.journal.disk)
        → TellsOf h (bodies_of f it.office.journal.log)
        → AreClean g it.ended.closed.0.log it.ended.closed.0.db
        → AreLeft it.ended.closed.0 it.ended.last h (λ now.
        history_after_all now (requests_in it.done.1.came) (answers_in it.done.1.came))

    -- the marking of an office, with which nothing is done, leaves office and journal of one
    -- history
    abbrev pub MarkingIsLeft : Type 0
    MarkingIsLeft = (h : History) (image : Image) (mark : ℕ)
        → IsLawfulHistory h → HoldsOffice image (tables_of h)
        → (it : WasKept (over_files {g = g}) f Found (IsFoundIn image) mark
        (λ old new. new ≡ old) (IsClosed IsClosedInto))
        → IsTrue (f.is_clean it.ended.last.journal.disk)
        → TellsOf h (bodies_of f it.office.journal.log)
        → AreClean g it.ended.closed.0.log it.ended.closed.0.db
        → AreLeft it.ended.closed.0 it.ended.last h (λ now. now)

  -- what was founded with a journal, and closed, is left in its files
  abbrev pub KeptFoundingIsLeft : (Created : Result L NoFile → Type 0) → Type 0
  KeptFoundingIsLeft Created = (image : Image) (founding : Founding)
      (it : WasFoundedBehind (over_files {g = g}) f Created (IsFoundIn image)
      (IsClosed IsClosedInto) founding)
      → IsTrue (f.is_clean it.ended.last.journal.disk)
      → AreClean g it.ended.closed.0.log it.ended.closed.0.db
      → HoldBoth it.ended.closed.0 it.ended.last (history_of founding)

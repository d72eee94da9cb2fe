-- An office that was opened again with the journal that a crash left of it, or wasn't.
use Rattle.std.specs.Prelude.{◌≡◌, ◌≢◌, ◌≤◌, ℕ, [], length, IsTrue}
use Rattle.sqlite.specs.Held.{Held}
use Rattle.sqlite.specs.Store.{Ghosts}
use Rattle.sqlite_disk.specs.declared.Disk.{Ghosts as DiskGhosts}
use Rattle.sealed_log.specs.Disks.{LeavesTail}
use Rattle.sealed_log.specs.Log.{bodies_of}
use Rattle.sealed_log.specs.Sealed.{longest, sealed_text}
use Rattle.sealed_log.specs.Told.{HasMore}
use Rattle.sealed_log.specs.declared.log.SealedLog.{SealedLog}
use Rattle.office_policy.specs.History.{History}
use Rattle.office_policy.specs.Handled.{Stands}
use Rattle.office_policy.specs.Judging.{LeavesAll}
use Rattle.office_policy.specs.Lawful.{IsLawfulHistory}
use Rattle.review_office.specs.Meant.{meaning_over}
use Rattle.journal.specs.declared.journaled.Journaled.{Journaled}
use Rattle.journal.specs.Journals.{IsOf, goes_on, journaled}
use Rattle.journal.specs.Kept.{SaysNone}
use Rattle.journal.specs.Logs.{in_log}
use Rattle.journal_faults.specs.declared.not_reopened.NotReopened.{NotReopened}
use Rattle.journal_faults.specs.declared.not_reopened.NotReopened.TheVariants.{Unsealed, NotALine}
use Rattle.journal_faults.specs.declared.not_reopened.NotReopened.TheVariants.{Changed, OtherJournal}
use Rattle.journal_office.specs.Faults.{HasFileCause, IsRefusal}
use Rattle.journal_office.specs.Mending.{HasOfficeCause, HasTablesOf, IsMended}
use Rattle.journal_office.specs.Mending.{SaysOther, TellsOf}

module _ {S D : Type 0} (s : Ghosts S) (g : DiskGhosts D) where
  -- the office is that of a history with the tables of the one before, which its journal says, and
  -- stands so where it stood without one
  pub record IsOfNow (h : History) (old : Held S) (x : Journaled (Held S) (SealedLog D g))
      : Type 0 where
    pub now : History
    pub tables : HasTablesOf h now
    pub of : IsOf (meaning_over s) (in_log g) now x
    pub stands : Stands (meaning_over s) h old
        → Stands (journaled (meaning_over s) (in_log g)) now x

  -- a crash now leaves what the file told, and no more behind it than before, or than the line that
  -- strikes out
  abbrev pub LeavesTold : (before after : SealedLog D g) → Type 0
  LeavesTold before after =
      LeavesTail g before.disk (sealed_text (bodies_of g before)) longest
      → LeavesTail g after.disk (sealed_text (bodies_of g before)) longest

  -- both were opened again, the office with this mark in its tables
  pub record IsReopened (mark : ℕ) (old : Held S) (before : SealedLog D g)
      (x : Journaled (Held S) (SealedLog D g)) : Type 0 where
    pub office : LeavesAll (meaning_over s) old x.office
    pub goes_on : IsTrue (goes_on (meaning_over s) (in_log g) x)
    pub clean : IsTrue (g.is_clean x.journal.disk) → IsTrue (g.is_clean before.disk)
    pub bodies : IsTrue (g.is_clean x.journal.disk)
        → IsMended (bodies_of g before) (bodies_of g x.journal)
    pub whole : IsTrue (g.is_clean x.journal.disk) → HasMore (g.seen before.disk) → ⊥
    pub journal : IsTrue (g.is_clean x.journal.disk) → (h : History)
        → (meaning_over s).is_of h old → TellsOf h (bodies_of g before)
        → (meaning_over s).is_clean x.office → IsOfNow h old x
    pub ours : IsTrue (g.is_clean x.journal.disk) → (h : History)
        → (meaning_over s).is_of h old → (meaning_over s).is_clean x.office
        → SaysOther mark h (bodies_of g before) → ⊥
    pub marked : IsTrue (g.is_clean x.journal.disk) → mark ≤ length (bodies_of g before)
    pub crash : IsTrue (g.is_clean x.journal.disk) → LeavesTold before x.journal

  -- why not, and both are handed back: the office with nothing of it changed, and the file as it was
  -- where it is no journal of this office
  pub record IsHandedBack (mark : ℕ) (old : Held S) (before : SealedLog D g) (why : NotReopened)
      (office : Held S) (log : SealedLog D g) : Type 0 where
    pub unchanged : LeavesAll (meaning_over s) old office
    pub clean : IsTrue (g.is_clean log.disk) → IsTrue (g.is_clean before.disk)
    pub unsealed : IsTrue (g.is_clean log.disk) → why ≡ Unsealed → bodies_of g before ≡ []
    pub changed : IsTrue (g.is_clean log.disk) → (at : ℕ) → why ≡ Changed at
        → HasMore (g.seen before.disk) × (at ≡ length (sealed_text (bodies_of g before)))
    pub no_line : IsTrue (g.is_clean log.disk) → why ≡ NotALine → SaysNone (bodies_of g before)
    pub line : IsTrue (g.is_clean log.disk) → (h : History) → IsLawfulHistory h
        → TellsOf h (bodies_of g before) → (why ≢ NotALine) × (why ≢ Unsealed)
    pub other : IsTrue (g.is_clean log.disk) → (h : History) → (meaning_over s).is_of h old
        → (meaning_over s).is_clean office → why ≡ OtherJournal
        → SaysOther mark h (bodies_of g before)
    pub own : IsTrue (g.is_clean log.disk) → (h : History) → (meaning_over s).is_of h old
        → (meaning_over s).is_clean office → TellsOf h (bodies_of g before)
        → mark ≤ length (bodies_of g before) → why ≢ OtherJournal
    pub untouched : IsRefusal why → g.seen log.disk ≡ g.seen before.disk
    pub cause : (h : History) → (meaning_over s).is_of h old → (meaning_over s).is_clean office
        → HasOfficeCause (meaning_over s) old office why
    pub word : IsTrue (g.is_clean log.disk) → HasFileCause g before.disk log.disk why
    pub crash : IsTrue (g.is_clean log.disk) → LeavesTold before log

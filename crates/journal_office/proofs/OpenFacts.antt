-- An office that is opened again with its journal.
use Rattle.std.proofs.Common.{◌≡◌, inl, inr, ℕ, Bool, false, not, IsTrue, Ok, Err, refl, sym, subst}
use Rattle.std.proofs.lemmas.Bool.{and_from}
use Rattle.sqlite.specs.Held.{Held, state}
use Rattle.sqlite.specs.State.{State}
use Rattle.sqlite.specs.Store.{Ghosts}
use Rattle.office_store.specs.Shown.{AreOffice, ShowsIfOpen}
use Rattle.office_policy.specs.History.{History}
use Rattle.office_policy.specs.Handled.{Stands}
use Rattle.office_policy.specs.Lawful.{IsLawfulHistory}
use Rattle.review_office.specs.Meant.{meaning_over}
use Rattle.review_office.specs.Offices.{IsOffice}
use Rattle.journal.specs.declared.journaled.Journaled.{Journaled}
use Rattle.journal.specs.Logs.{in_log}
use Rattle.sqlite_disk.specs.declared.Disk.{Ghosts as DiskGhosts}
use Rattle.sealed_log.specs.Log.{bodies_of}
use Rattle.sealed_log.specs.declared.log.SealedLog.{SealedLog}
use Rattle.journal.specs.Journal.{EndsWithEvent}
use Rattle.journal.specs.Journals.{IsOf, goes_on}
use Rattle.journal.proofs.Offices.{stands_with}
use Rattle.journal_faults.specs.declared.not_reopened.NotReopened.{NotReopened}
use Rattle.journal_office.specs.Mending.{HasTablesOf, Mends, SaysNow}
use Rattle.journal_office.specs.Opening.{IsHandedBack, IsOfNow, IsReopened}
use Rattle.journal_office.proofs.MendFacts.{lawful_more, left_ours}

lawful_now : (h now : History) → HasTablesOf h now → IsLawfulHistory h → IsLawfulHistory now
lawful_now h now same lawful = elim same.grown [
  | inl is ↦ subst IsLawfulHistory (sym is) lawful
  | inr more ↦ subst IsLawfulHistory (sym more.1) (lawful_more h more.0 lawful more.2)
]

-- an office is that of each lawful history with its tables
office_now : (h now : History) (s : State) → HasTablesOf h now → IsOffice h s → IsOffice now s
office_now h now s same of = record {
  idle = of.idle;
  lawful = lawful_now h now same of.lawful;
  tables = λ clean. subst (ShowsIfOpen s) (sym same.tables) (of.tables clean);
}

module _ {S D : Type 0} (s : Ghosts S) (g : DiskGhosts D) where
  stands_now : (h now : History) (x : Held S) → HasTablesOf h now → Stands (meaning_over s) h x → Stands (meaning_over s) now x
  stands_now h now x same stands = record {
    is_of = office_now h now (state s x) same stands.is_of;
    is_open = stands.is_open;
    leaves = λ left may. subst (AreOffice left) (sym same.tables) (stands.leaves left may);
  }

  of_now : (h : History) (old : Held S) (x : Journaled (Held S) (SealedLog D g)) → (meaning_over s).is_of h x.office → (meaning_over s).is_clean x.office
      → IsTrue (g.is_clean x.journal.disk) → IsTrue (goes_on (meaning_over s) (in_log g) x) → (Stands (meaning_over s) h old → Stands (meaning_over s) h x.office)
      → (x.is_settled ≡ false → EndsWithEvent (bodies_of g x.journal)) → SaysNow h (bodies_of g x.journal) → IsOfNow s g h old x
  of_now h old x of clean clean_log goes kept ends says =
      let is_of_now : IsOf (meaning_over s) (in_log g) says.now x = record {
        office = office_now h says.now (state s x.office) says.tables of;
        says = λ clean goes. says.says;
        ends = λ clean goes unsettled. ends unsettled;
      } in
      record {
        now = says.now;
        tables = says.tables;
        of = is_of_now;
        stands = λ stands. stands_with (meaning_over s) (in_log g) x says.now (clean, clean_log) goes is_of_now (stands_now h says.now x.office says.tables (kept stands));
      }

  -- what `new` made of the office and of the journal
  pub opened : (mark : ℕ) (old office : Held S) (before log : SealedLog D g) (settled : Bool) (x : Journaled (Held S) (SealedLog D g))
      → x ≡ record { office = office; journal = log; has_stray = false; is_settled = settled }
      → Mends (meaning_over s) g mark old office before log (Ok settled) → IsReopened s g mark old before x
  opened mark old office before log settled x is mends =
      let made : Journaled (Held S) (SealedLog D g) = record { office = office; journal = log; has_stray = false; is_settled = settled } in
      let goes : IsTrue (goes_on (meaning_over s) (in_log g) made) = and_from log.is_open (not false) mends.opened refl in
      subst (IsReopened s g mark old before) (sym is) (record {
        office = mends.leaves;
        goes_on = goes;
        clean = mends.clean;
        bodies = mends.bodies;
        whole = mends.whole;
        journal = λ clean h of tells is_clean.
            of_now h old made (mends.leaves.office h of) is_clean clean goes (λ stands. mends.stands h stands is_clean) (mends.ends clean) (mends.journal clean h of tells is_clean);
        ours = mends.ours;
        marked = mends.marked;
        crash = mends.crash;
      })

  pub handed_back : (mark : ℕ) (old office : Held S) (before log : SealedLog D g) (why : NotReopened) → Mends (meaning_over s) g mark old office before log (Err why)
      → IsHandedBack s g mark old before why office log
  handed_back mark old office before log why mends = record {
    unchanged = mends.leaves;
    clean = mends.clean;
    unsealed = mends.unsealed;
    changed = mends.changed;
    no_line = mends.no_line;
    line = mends.line;
    other = mends.other;
    own = λ clean h of is_clean tells enough same.
        left_ours mark h (bodies_of g before) ((meaning_over s).lawful h old of) tells enough (mends.other clean h of is_clean same);
    untouched = mends.untouched;
    cause = mends.cause;
    word = mends.word;
    crash = mends.crash;
  }

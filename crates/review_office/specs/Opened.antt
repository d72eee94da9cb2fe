-- An office that was opened over a connection or that wasn't, and one that was migrated before.
use Rattle.std.specs.Prelude.{◌≡◌, List, Result, Ok, IfErr}
use Rattle.sqlite.specs.Held.{Held, state}
use Rattle.sqlite.specs.State.{HasCleanDisk}
use Rattle.sqlite.specs.Store.{Ghosts}
use Rattle.review_policy.specs.declared.ask.Request.{Request}
use Rattle.review_policy.specs.declared.answer.Answer.{Answer}
use Rattle.office_rows.specs.Queries.{IsAsItWas}
use Rattle.office_founding.specs.Migration.{IsMigration, ShowsOld}
use Rattle.office_store.specs.Shown.{Shows}
use Rattle.office_founding.specs.declared.fault.MigrationFault.{MigrationFault}
use Rattle.office_policy.specs.Handled.{IsHandled, Stands}
use Rattle.office_policy.specs.History.{History}
use Rattle.office_policy.specs.Lawful.{IsLawfulHistory}
use Rattle.office_policy.specs.Ran.{HaveRun}
use Rattle.office_policy.specs.Runs.{IsAnswer, Took}
use Rattle.office_policy.specs.TablesOf.{tables_of}
use Rattle.review_office.specs.Meant.{meaning_over}

module _ {S : Type 0} (g : Ghosts S) where
  -- an office isn't opened for this, where the disk of the connection that is handed back is clean
  abbrev pub IsRefusedFor : {A E : Type 0} → (E → Type 0) → Result A (E × Held S) → Type 0
  IsRefusedFor Why result =
      IfErr result (λ refusal. HasCleanDisk (state g refusal.1) → Why refusal.0)

  -- a connection that is handed back without an office has what it had
  abbrev pub IsHandedBack : {A E : Type 0} → Held S → Result A (E × Held S) → Type 0
  IsHandedBack conn result =
      (state g conn).now ≡ (state g conn).committed
      → IfErr result (λ refusal. HasCleanDisk (state g refusal.1)
      → IsAsItWas (state g conn) (state g refusal.1))

  -- an office over a connection
  pub record IsOver (conn office : Held S) : Type 0 where
    -- a disk that is clean was clean before
    pub clean : HasCleanDisk (state g office) → HasCleanDisk (state g conn)
    -- where the connection showed the tables of a lawful history the office is of this history, and
    -- stands
    pub stands : (h : History) → IsLawfulHistory h → Shows (state g conn) (tables_of h)
        → HasCleanDisk (state g office)
        → Stands (meaning_over g) h office

  -- a connection that showed, under schema 1, the tables of this lawful history was migrated, and
  -- the office is over what that left
  pub record IsMigrated (h : History) (office : Held S) : Type 0 where
    pub old : Held S
    pub migrated : Held S
    pub lawful : IsLawfulHistory h
    pub showed : ShowsOld (state g old) (tables_of h)
    pub migration : IsMigration {E = MigrationFault} (state g old) (state g migrated) (Ok (tt {0}))
    pub over : IsOver migrated office

  -- the next request is answered as the history has it
  abbrev pub Answers : History → Held S → Type 0
  Answers h office =
      (new : Held S) (request : Request) (answer : Answer)
      → IsHandled (meaning_over g) office new request answer → HasCleanDisk (state g new)
      → IsAnswer h request answer

  -- each of a list of requests is answered as the history has it, with what was carried out
  -- before it
  abbrev pub AnswersAll : History → Held S → Type 0
  AnswersAll h office =
      (new : Held S) (requests : List Request) (answers : List Answer)
      → HaveRun (meaning_over g) office new requests answers
      → HasCleanDisk (state g new) → Took h requests answers

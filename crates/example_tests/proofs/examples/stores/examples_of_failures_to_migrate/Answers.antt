use Rattle.std.proofs.Common.{◌≡◌, ◌∙◌, inl, inr, [], true, false, refl, sym, ap, subst}
use Rattle.sqlite.specs.Effect.{Database}
use Rattle.sqlite.specs.Held.{Held, state}
use Rattle.sqlite.specs.Store.{Ghosts}
use Rattle.sqlite_schema.specs.Names.{same_name}
use Rattle.office_words.specs.declared.fault.Fault.{Fault}
use Rattle.office_words.specs.declared.fault.Fault.TheVariants.{NotAnOffice}
use Rattle.office_words.specs.Tables.{Tables}
use Rattle.office_rows.specs.Statements.{begun}
use Rattle.office_rows.proofs.Queries.{row_left}
use Rattle.office_store.specs.Schema.{no_schema}
use Rattle.office_founding.specs.Form.{has_old_tables, numbered_row, old_form}
use Rattle.office_founding.specs.Migration.{IsOldOffice, MeetsInMigration}
use Rattle.office_founding.proofs.MigrationSteps.{none_migrated}
use Rattle.office_founding.proofs.Queries.{office_row}
use Rattle.example_tests.proofs.Failing.{memory_lacks}
use Rattle.example_tests.proofs.examples.stores.examples_of_failures_to_migrate.Goals as goal

nothing_has_none : has_old_tables no_schema ≡ false
unfolding same_name
nothing_has_none = refl

module _ {S : Type 0} (g : Ghosts S) (old new : Held S) where
  -- the row is found where the tables are
  without_tables : (f : Fault) → (state g old).now.schema ≡ no_schema → MeetsInMigration g old new f → ⊥
  without_tables f is meets = let k : true ≡ false = sym meets.found.tables ∙ ap has_old_tables is ∙ nothing_has_none in cc

  -- reading it changes nothing, and no statement behind it fails for the form of the tables
  never_unformed : (t : Tables) → IsOldOffice (state g old).now t → MeetsInMigration g old new NotAnOffice → ⊥
  never_unformed t office meets =
      let same : (state g meets.mid).now ≡ (state g old).now = (row_left _ office_row [] (state g old) (state g meets.mid) (numbered_row (old_form meets.listed)) meets.found.row).0.now_is in
      let there : IsOldOffice (state g meets.mid).now t = subst (λ (d : Database). IsOldOffice d t) (sym same) office in
      (none_migrated g t (begun meets.mid) new meets.met.cause.error there meets.met.cause.failed).0 (sym meets.met.cause.fault)

pub returns-clause-no_tables : goal.returns-clause-no_tables
returns-clause-no_tables g c = λ old new is. inl (ap has_old_tables is ∙ nothing_has_none, refl)

pub returns-clause-memory : goal.returns-clause-memory
returns-clause-memory g c = λ old mid rest counts found. record {
  mid = mid;
  listed = 5;
  found = found;
  counts = counts;
  met = record { cause = memory_lacks g.S.Store mid rest _ _; met = inl tt };
}

pub returns-clause-other_fault : goal.returns-clause-other_fault
returns-clause-other_fault g c = λ old new is fails. elim fails [
  | inl none ↦ let k = none.1 in cc
  | inr more ↦ elim more [
    | inl read ↦ let k : true ≡ false = sym read.0 ∙ ap has_old_tables is ∙ nothing_has_none in cc
    | inr meets ↦ without_tables g.S.Store old new _ is meets
  ]
]

pub returns-clause-form : goal.returns-clause-form
returns-clause-form g c = λ old new t office. never_unformed g.S.Store old new t office

pub returns-clause-without_tables : goal.returns-clause-without_tables
returns-clause-without_tables g c = λ old new f is. without_tables g.S.Store old new f is

-- Why an office can't be read.
use Rattle.std.proofs.Common.{◌≡◌, ℕ, List, [], Result, Ok, Err, IfErr, IsErrAnd, refl, sym, subst}
use Rattle.sqlite.specs.declared.error.Error.{Error}
use Rattle.sqlite.specs.Listing.{understood}
use Rattle.sqlite.specs.State.{State, FailsToQuery}
use Rattle.sqlite_tied.specs.Compute.{everything}
use Rattle.office_words.specs.declared.fault.Fault.{Fault}
use Rattle.office_rows.specs.Causes.{HasFailed}
use Rattle.office_rows.specs.Faults.{fault_of_error}
use Rattle.office_rows.specs.Queries.{IsQuery}
use Rattle.office_rows.specs.Rows.{IsFaultOf}
use Rattle.office_rows.proofs.Sure.{IsSure, rows_fault, shut_failed, sure_failed}
use Rattle.office_store.specs.Schema.{office_schema}
use Rattle.office_store.specs.Shown.{IsIdle}
use Rattle.office_store.proofs.Calls.{by_open}
use Rattle.journal_faults.specs.declared.table.Table.{Table}
use Rattle.journal_faults.specs.declared.table.Table.TheVariants as table
use Rattle.journal_verification.specs.Texts.{rowids_text, rows_text}
use Rattle.journal_verification.proofs.Queries.{rows_are_asked, rowids_are_asked}

rows_are_sure : (t : Table) → IsSure office_schema (rows_text t) []
unfolding understood everything
rows_are_sure table.Office = record { text = record { whole = refl; given = refl; bare = refl; timeless = refl; query = (refl, refl, refl, refl) }; unlisted = refl }
rows_are_sure table.Users = record { text = record { whole = refl; given = refl; bare = refl; timeless = refl; query = (refl, refl, refl, refl) }; unlisted = refl }
rows_are_sure table.Revisions = record { text = record { whole = refl; given = refl; bare = refl; timeless = refl; query = (refl, refl, refl, refl) }; unlisted = refl }
rows_are_sure table.Votes = record { text = record { whole = refl; given = refl; bare = refl; timeless = refl; query = (refl, refl, refl, refl) }; unlisted = refl }
rows_are_sure table.Baselines = record { text = record { whole = refl; given = refl; bare = refl; timeless = refl; query = (refl, refl, refl, refl) }; unlisted = refl }
rows_are_sure table.Holds = record { text = record { whole = refl; given = refl; bare = refl; timeless = refl; query = (refl, refl, refl, refl) }; unlisted = refl }

rowids_are_sure : (t : Table) → IsSure office_schema (rowids_text t) []
unfolding understood everything
rowids_are_sure table.Office = record { text = record { whole = refl; given = refl; bare = refl; timeless = refl; query = (refl, refl, refl, refl) }; unlisted = refl }
rowids_are_sure table.Users = record { text = record { whole = refl; given = refl; bare = refl; timeless = refl; query = (refl, refl, refl, refl) }; unlisted = refl }
rowids_are_sure table.Revisions = record { text = record { whole = refl; given = refl; bare = refl; timeless = refl; query = (refl, refl, refl, refl) }; unlisted = refl }
rowids_are_sure table.Votes = record { text = record { whole = refl; given = refl; bare = refl; timeless = refl; query = (refl, refl, refl, refl) }; unlisted = refl }
rowids_are_sure table.Baselines = record { text = record { whole = refl; given = refl; bare = refl; timeless = refl; query = (refl, refl, refl, refl) }; unlisted = refl }
rowids_are_sure table.Holds = record { text = record { whole = refl; given = refl; bare = refl; timeless = refl; query = (refl, refl, refl, refl) }; unlisted = refl }

-- a query that the schema takes fails for no memory, for the disk, or over a connection that was shut
failed : (sql : List ℕ) → IsQuery sql → IsSure office_schema sql [] → (old new : State) → IsIdle old → old.now.schema ≡ office_schema → (f : Fault) → IsFaultOf sql [] old new f → HasFailed old new f
failed sql query sure old new idle has f fault =
    let r : Result (Unit {0}) Fault = Err f in
    rows_fault (HasFailed old new) sql [] old new
    (by_open old.is_open ((e : Error) → FailsToQuery sql [] old new e → HasFailed old new (fault_of_error e))
    (λ is_open e. sure_failed office_schema sql [] sure old new e has idle.unlimited)
    (λ shut e. shut_failed sql [] old new e (query old.now.schema) shut)) r fault

pub rows_failed : (t : Table) (sql : List ℕ) → sql ≡ rows_text t → (old new : State) → IsIdle old → old.now.schema ≡ office_schema → (f : Fault) → IsFaultOf sql [] old new f → HasFailed old new f
rows_failed t sql is old new idle has f fault = failed (rows_text t) (rows_are_asked t) (rows_are_sure t) old new idle has f (subst (λ s. IsFaultOf s [] old new f) is fault)

pub rowids_failed : (t : Table) (sql : List ℕ) → sql ≡ rowids_text t → (old new : State) → IsIdle old → old.now.schema ≡ office_schema → (f : Fault) → IsFaultOf sql [] old new f → HasFailed old new f
rowids_failed t sql is old new idle has f fault = failed (rowids_text t) (rowids_are_asked t) (rowids_are_sure t) old new idle has f (subst (λ s. IsFaultOf s [] old new f) is fault)

-- a `?` that leaves with this
pub passed_on : {A : Type 0} (P : Fault → Type 0) (r : Result A Fault) (f : Fault) → IsErrAnd r (λ e. e ≡ f) → P f → IfErr r P
passed_on P (Ok a) f is p = absurd is
passed_on P (Err e) f is p = subst P (sym is) p

-- A query that its schema takes: it fails for no memory, for the disk, or over a connection that was shut.
use Rattle.std.proofs.Common.{inl, inr, arith, ltb, ltb-false, ◌⊎◌, ◌≡◌, ◌≤◌, ℕ, List, [], length, Bool, true, false, Option, None, Some, Ok, Err, Result, IfErr, IsTrue, refl, sym, ap, subst, ◌∙◌, append-nil}
use Rattle.sqlite.specs.Order.{Row}
use Rattle.sqlite.specs.Schema.{Schema}
use Rattle.sqlite.specs.declared.error.Error.{Error}
use Rattle.sqlite.specs.declared.error.Error.TheVariants as error
use Rattle.sqlite_trees.specs.declared.error.StoreError.{StoreError}
use Rattle.sqlite_trees.specs.declared.error.StoreError.TheVariants.{OutOfMemory, Io, Corrupt, Full, Broken, Unstorable}
use Rattle.sqlite.specs.Effect.{Database, RefusesToRead}
use Rattle.sqlite.specs.Command.{Command}
use Rattle.sqlite.specs.Command.TheVariants.{Select}
use Rattle.std.specs.Prelude.{MatchBool}
use Rattle.sqlite.specs.declared.error.ErrorCode.TheVariants.{TooBig}
use Rattle.sqlite.specs.Clock.{timed}
use Rattle.sqlite.specs.State.{State, FailsToQuery, QueriesRow, Fails, HasCause, IsNotRun, IsNoStatement, IsUnchanged, ExecutesIn, ExecutesInside, RunsCommand, shows_rows, store_error}
use Rattle.sqlite.specs.Steps.{FailsToCommit}
use Rattle.sqlite.specs.Listing.{understood, reads_listing, IsSourceOf}
use Rattle.sqlite_sql.specs.Query.{has_no_fold}
use Rattle.sqlite_sql.specs.Program.{ProgramOverflows}
use Rattle.sqlite_sql.proofs.QueryLemmas.{no_fold_overflows}
use Rattle.sqlite_typing.specs.Types.{accepts_program}
use Rattle.sqlite_resolve.specs.declared.compiled.Compiled.{Compiled}
use Rattle.sqlite_resolve.specs.declared.error.CompileError.{CompileError}
use Rattle.office_words.specs.declared.fault.Fault.{Fault}
use Rattle.office_words.specs.declared.fault.Fault.TheVariants as stores
use Rattle.office_rows.specs.Faults.{fault_of_error, FindsRow}
use Rattle.office_rows.specs.Rows.{IsFaultOf}
use Rattle.office_rows.specs.Causes.{HasFailed}

-- a query of one answer, which sums nothing and accepts these parameters
abbrev pub IsSureQuery : Schema → Row → Command → Type 0
IsSureQuery schema params (Select p names) =
    (p.lets ≡ []) × (p.body.group ≡ None) × (has_no_fold p.body.from ≡ true) × (accepts_program schema [] p.body params ≡ true)
IsSureQuery schema params _ = ⊥

pub record IsSureText (schema : Schema) (sql : List ℕ) (params : Row) (c : Compiled) : Type 0 where
  pub whole : ltb c.tail (length sql) ≡ false
  pub given : length params ≡ length c.names
  pub bare : c.returning ≡ None
  pub timeless : c.formats ≡ []
  pub query : IsSureQuery schema params c.command

abbrev IsUnderstood : Schema → List ℕ → Row → Result Compiled CompileError → Type 0
IsUnderstood schema sql params (Ok c) = IsSureText schema sql params c
IsUnderstood schema sql params (Err e) = ⊥

-- the schema takes the text with these parameters. `refl` finds each part, under `unfolding understood everything`
pub record IsSure (schema : Schema) (sql : List ℕ) (params : Row) : Type 0 where
  pub text : IsUnderstood schema sql params (understood schema sql)
  pub unlisted : reads_listing schema sql ≡ false

pub never_both : {P : Type 0} (b : Bool) → IsTrue b → b ≡ false → P
never_both true is_open shut = absurd cc
never_both false is_open shut = absurd cc

-- a failure of the store that isn't for the size of a row
pub failed_so : (old new : State) (e : Error) → Fails old new ⊥ e → HasFailed old new (fault_of_error e)
failed_so old new e (cause, is, has, back, tells) = rw is (by cause has)
  where
    by : (cause : StoreError) → HasCause old new ⊥ cause → HasFailed old new (fault_of_error (store_error cause))
    by OutOfMemory has = tt
    by Io has = inl has
    by Corrupt has = inl has
    by Full has = has
    by Broken has = inr has
    by Unstorable has = absurd has

pub sure_read : (schema : Schema) (db : Database) (params : Row) (e : Error) (command : Command) → db.schema ≡ schema → IsSureQuery schema params command → RefusesToRead None command db params e → ⊥
sure_read schema db params e (Select p names) has sure (inl h) =
    let typed : accepts_program db.schema [] p.body params ≡ true = rw has sure.3 in
    let refused : accepts_program db.schema [] p.body params ≡ false = rw sure.0 at h.1 in
    absurd (let k : true ≡ false = sym typed ∙ refused in cc)
sure_read schema db params e (Select p names) has sure (inr (inl h)) = overflow (rw sure.0 at h.1)
  where
    overflow : ProgramOverflows db.trees params [] [] p.body → ⊥
    overflow (inl sum) = absurd (rw sure.1 at sum)
    overflow (inr fold) = no_fold_overflows _ p.body.from _ sure.2 fold
sure_read schema db params e (Select p names) has sure (inr (inr h)) = absurd (let k : false ≡ true = h.1 in cc)
sure_read schema db params e _ has sure h = absurd sure

module _ (schema : Schema) (sql : List ℕ) (params : Row) (sure : IsSure schema sql params) (old new : State) (e : Error) where
  sure_of : old.now.schema ≡ schema → (c : Compiled) → understood old.now.schema sql ≡ Ok c → IsSureText schema sql params c
  sure_of has c is = subst (IsUnderstood schema sql params) (ap (λ s. understood s sql) (sym has) ∙ is) sure.text

  not_run : old.now.schema ≡ schema → IsNoStatement old sql params e → ⊥
  not_run has (inl h) = subst (IsUnderstood schema sql params) (ap (λ s. understood s sql) (sym has) ∙ h.1) sure.text
  not_run has (inr (c, is, inl h)) = h.0 (ltb-false c.tail (length sql) (sure_of has c is).whole)
  not_run has (inr (c, is, inr (inl h))) = h.0 (sure_of has c is).given
  not_run has (inr (c, is, inr (inr h))) = h.0 (sure_of has c is).timeless

  -- such a query over an open connection
  pub sure_failed : old.now.schema ≡ schema → old.step_limit ≡ None → FailsToQuery sql params old new e → HasFailed old new (fault_of_error e)
  unfolding FailsToQuery IsNotRun sure_of
  sure_failed has unlimited (inl (inl h)) = absurd (not_run has h.0)
  sure_failed has unlimited (inl (inr h)) = failed_so old new e h
  sure_failed has unlimited (inr (c, it, h)) =
      let text = sure_of has c it.is in
      let read = rw (text.bare, text.timeless, append-nil params) at h in
      let db : read.0 ≡ old.now = subst (λ b. IsSourceOf b old.now read.0) (ap (λ s. reads_listing s sql) has ∙ sure.unlisted) read.1 in
      absurd (sure_read schema read.0 params e c.command (ap (λ (d : Database). d.schema) db ∙ has) text.query (rw unlimited at read.2))

-- any query without RETURNING over a connection that was shut
pub shut_failed : (sql : List ℕ) (params : Row) (old new : State) (e : Error) → ((c : Compiled) → understood old.now.schema sql ≡ Ok c → c.returning ≡ None) → old.is_open ≡ false
    → FailsToQuery sql params old new e → HasFailed old new (fault_of_error e)
unfolding FailsToQuery IsNotRun
shut_failed sql params old new e bare shut (inl (inl h)) = never_both old.is_open h.1.0.was_open shut
shut_failed sql params old new e bare shut (inl (inr h)) = failed_so old new e h
shut_failed sql params old new e bare shut (inr (c, it, h)) = let none = bare c it.is in never_both old.is_open (rw none at h).3.0.was_open shut

module _ (P : Fault → Type 0) (sql : List ℕ) (params : Row) (old new : State) (why : (e : Error) → FailsToQuery sql params old new e → P (fault_of_error e)) where
  -- why there is no first row
  pub first_fault : (r : Result (Option Row) Fault) → FindsRow sql params old new r → IfErr r P
  unfolding QueriesRow
  first_fault (Ok (Some row)) h = tt
  first_fault (Ok None) h = tt
  first_fault (Err f) (e, inl h, is, another) = subst P (sym is) (why e h)
  first_fault (Err f) (e, inr h, is, another) = absurd (another h.0)

  -- why there are no rows
  pub rows_fault : {X : Type 0} (r : Result X Fault) → IfErr r (IsFaultOf sql params old new) → IfErr r P
  rows_fault (Ok x) h = tt
  rows_fault (Err f) h = subst P (sym h.fault) (why h.error h.failed)

-- ---- a statement in a transaction

-- a failure of the store, or a row that is too big
failed_or_big : (old new : State) (big : Type 0) (e : Error) → Fails old new big e → HasFailed old new (fault_of_error e) ⊎ (e ≡ error.SqliteFailure TooBig)
failed_or_big old new big e (cause, is, has, back, tells) = rw is (by cause has)
  where
    by : (cause : StoreError) → HasCause old new big cause → HasFailed old new (fault_of_error (store_error cause)) ⊎ (store_error cause ≡ error.SqliteFailure TooBig)
    by OutOfMemory has = inl tt
    by Io has = inl (inl has)
    by Corrupt has = inl (inl has)
    by Full has = inl has
    by Broken has = inl (inr has)
    by Unstorable has = inr refl

pub statement_met : (sql : List ℕ) (params : Row) (old new : State) (e : Error) → ExecutesInside 0 sql params old new (Err e)
    → HasFailed old new (fault_of_error e) ⊎ (IsUnchanged old new ⊎ (e ≡ error.SqliteFailure TooBig))
unfolding ExecutesIn IsNotRun
statement_met sql params old new e (inr h) = inr (inl h.2)
statement_met sql params old new e (inl (inl (inl h), kept)) = inr (inl h.1)
statement_met sql params old new e (inl (inl (inr h), kept)) = inl (failed_so old new e h)
statement_met sql params old new e (inl (inr (c, it, h), kept)) = by (shows_rows false c) (timed params c.formats it.now) h
  where
    by : (b : Bool) (full : Row) → MatchBool b ((◌≡◌ {A = Result ℕ Error} (Err e) (Err error.ExecuteReturnedResults)) × IsUnchanged old new) (RunsCommand old new sql c full (Err e))
        → HasFailed old new (fault_of_error e) ⊎ (IsUnchanged old new ⊎ (e ≡ error.SqliteFailure TooBig))
    by true full h = inr (inl h.1)
    by false full (inl h) = inr (inl h.1)
    by false full (inr h) = elim (failed_or_big old new _ e h) [ inl failed ↦ inl failed | inr big ↦ inr (inr big) ]

-- a commit in a transaction
pub commit_met : (old new : State) (e : Error) → IsTrue old.in_transaction → FailsToCommit old new e → HasFailed old new (fault_of_error e)
commit_met old new e begun (inl failed) = failed_so old new e failed
commit_met old new e begun (inr late) = never_both old.in_transaction begun late.1

pub was_shut : (old now : Bool) → (IsTrue old → IsTrue now) → now ≡ false → old ≡ false
was_shut true now stays shut = never_both now (stays refl) shut
was_shut false now stays shut = refl

-- what was met in between was met
pub met_between : (old now mid new : State) (f : Fault) → old.faults ≤ now.faults → mid.faults ≤ new.faults → (now.is_open ≡ false → old.is_open ≡ false) → HasFailed now mid f → HasFailed old new f
met_between old now mid new (stores.NoMemory _) before after shut h = tt
met_between old now mid new stores.Disk before after shut (inl risen) = inl (omega arith)
met_between old now mid new stores.Disk before after shut (inr closed) = inr (shut closed)
met_between old now mid new stores.Full before after shut h = omega arith
met_between old now mid new stores.NotAnOffice before after shut h = absurd h

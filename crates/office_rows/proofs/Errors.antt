-- Why a query answers no rows: never for the form of the tables.
use Rattle.std.proofs.Common.{inl, inr, ◌≡◌, ℕ, List, Option, None, subst}
use Rattle.sqlite.specs.Order.{Row}
use Rattle.sqlite.specs.declared.error.Error.{Error}
use Rattle.sqlite_trees.specs.declared.error.StoreError.{StoreError}
use Rattle.sqlite_trees.specs.declared.error.StoreError.TheVariants.{OutOfMemory, Io, Corrupt, Full, Broken, Unstorable}
use Rattle.sqlite.specs.Effect.{Database, RefusesQuery, RefusesToRead}
use Rattle.sqlite_schema.specs.declared.program.Program.{Program}
use Rattle.sqlite.specs.Command.{Command}
use Rattle.sqlite.specs.Command.TheVariants.{Select, Rows}
use Rattle.sqlite.specs.State.{State, FailsToQuery, store_error, IsNotRun, IsNoStatement}
use Rattle.sqlite.specs.Listing.{understood}
use Rattle.sqlite.proofs.Callers.{IsPlain}
use Rattle.office_rows.specs.Faults.{IsOfMachine}

pub of_store : (cause : StoreError) → IsOfMachine (store_error cause)
of_store OutOfMemory = (λ h. cc, λ h. cc)
of_store Io = (λ h. cc, λ h. cc)
of_store Corrupt = (λ h. cc, λ h. cc)
of_store Full = (λ h. cc, λ h. cc)
of_store Broken = (λ h. cc, λ h. cc)
of_store Unstorable = (λ h. cc, λ h. cc)

pub no_statement : (s : State) (sql : List ℕ) (params : Row) (e : Error) → IsPlain (understood s.now.schema sql) → IsNoStatement s sql params e → IsOfMachine e
no_statement s sql params e plain (inl h) = absurd (subst IsPlain h.1 plain)
no_statement s sql params e plain (inr (c, is, inl h)) = rw h.1 (λ h. cc, λ h. cc)
no_statement s sql params e plain (inr (c, is, inr (inl h))) = rw h.1 (λ h. cc, λ h. cc)
no_statement s sql params e plain (inr (c, is, inr (inr h))) = rw h.1 (λ h. cc, λ h. cc)

pub refused_query : (limit : Option ℕ) (db : Database) (q : Program) (params : Row) (e : Error) → RefusesQuery limit db q params e → IsOfMachine e
refused_query limit db q params e (inl h) = rw h.0 (λ h. cc, λ h. cc)
refused_query limit db q params e (inr (inl h)) = rw h.0 (λ h. cc, λ h. cc)
refused_query limit db q params e (inr (inr h)) = rw h.0 (λ h. cc, λ h. cc)

pub refused_read : (limit : Option ℕ) (command : Command) (db : Database) (params : Row) (e : Error) → RefusesToRead limit command db params e → IsOfMachine e
refused_read limit (Select q names) db params e h = refused_query limit db q params e h
refused_read limit (Rows values width names) db params e h = rw h.0 (λ h. cc, λ h. cc)
refused_read limit _ db params e h = rw h (λ h. cc, λ h. cc)

pub query_failed : (sql : List ℕ) (params : Row) (old new : State) (e : Error) → IsPlain (understood old.now.schema sql) → FailsToQuery sql params old new e → IsOfMachine e
unfolding FailsToQuery IsNotRun
query_failed sql params old new e plain (inl (inl h)) = no_statement old sql params e plain h.0
query_failed sql params old new e plain (inl (inr h)) = rw h.1 (of_store h.0)
query_failed sql params old new e plain (inr (c, it, h)) =
    let none : c.returning ≡ None = (subst IsPlain it.is plain).0 in
    let read = rw none at h in
    refused_read _ c.command read.0 _ e read.2

-- Why a transaction fails over a connection that was shut: never for the form of the tables.
use Rattle.std.proofs.Common.{inl, inr, ◌≡◌, ◌≢◌, ◌<◌, ℕ, List, [], ◌∷◌, length, Bool, true, false, Result, Err, arith}
use Rattle.std.specs.Prelude.{MatchBool}
use Rattle.sqlite.specs.Order.{Row}
use Rattle.sqlite.specs.Held.{Held, state}
use Rattle.sqlite.specs.Store.{Ghosts}
use Rattle.sqlite.specs.declared.error.Error.{Error}
use Rattle.sqlite.specs.declared.error.Error.TheVariants as error
use Rattle.sqlite.specs.State.{State, ExecutesInside, ExecutesIn, IsNotRun, IsUnchanged, RunsCommand, Fails, shows_rows}
use Rattle.sqlite_resolve.specs.declared.compiled.Compiled.{Compiled}
use Rattle.office_words.specs.declared.fault.Fault.TheVariants.{NotAnOffice}
use Rattle.office_rows.specs.Faults.{fault_of_error}
use Rattle.office_rows.specs.Statements.{Statement, FailedIn}
use Rattle.office_rows.proofs.Errors.{of_store}
use Rattle.office_rows.proofs.Sure.{never_both}

fails_of_store : (old new : State) (big : Type 0) (e : Error) → Fails old new big e → fault_of_error e ≢ NotAnOffice
fails_of_store old new big e h = rw h.1 (of_store h.0).0

command_shut : (old new : State) (sql : List ℕ) (c : Compiled) (params : Row) (e : Error) → old.is_open ≡ false → RunsCommand old new sql c params (Err e) → fault_of_error e ≢ NotAnOffice
command_shut old new sql c params e shut (inl (h, same)) = never_both old.is_open same.0.was_open shut
command_shut old new sql c params e shut (inr h) = fails_of_store old new _ e h

statement_shut : (sql : List ℕ) (params : Row) (old new : State) (e : Error) → old.is_open ≡ false → ExecutesInside 0 sql params old new (Err e) → fault_of_error e ≢ NotAnOffice
unfolding ExecutesIn IsNotRun
statement_shut sql params old new e shut (inr h) = never_both old.is_open h.2.0.was_open shut
statement_shut sql params old new e shut (inl (inl (inl h), kept)) = never_both old.is_open h.1.0.was_open shut
statement_shut sql params old new e shut (inl (inl (inr h), kept)) = fails_of_store old new _ e h
statement_shut sql params old new e shut (inl (inr (c, it, h), kept)) = by (shows_rows false c) _ h
  where
    by : (b : Bool) (full : Row) → MatchBool b ((◌≡◌ {A = Result ℕ Error} (Err e) (Err error.ExecuteReturnedResults)) × IsUnchanged old new) (RunsCommand old new sql c full (Err e)) → fault_of_error e ≢ NotAnOffice
    by true full h = never_both old.is_open h.1.0.was_open shut
    by false full h = command_shut old new sql c full e shut h

pub failed_shut : {S : Type 0} (g : Ghosts S) (ss : List Statement) (h end : Held S) (e : Error) → 0 < length ss → FailedIn g ss h end e → (state g h).is_open ≡ false → fault_of_error e ≢ NotAnOffice
failed_shut g [] h end e some failed shut = absurd (omega arith)
failed_shut g (s ∷ ss) h end e some (inl failed) shut = statement_shut s.sql s.params (state g h) (state g failed.0) e shut failed.1
failed_shut g (s ∷ ss) h end e some (inr later) shut = never_both (state g h).is_open later.2.1.was_open shut

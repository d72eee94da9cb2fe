-- Reading the rows of an answer one at a time.
use Rattle.std.proofs.Common.{inl, inr, ◌≡◌, ◌⊎◌, ℕ, List, [], ◌∷◌, ◌++◌, Bool, true, false, Option, None, Some, Result, Ok, Err, IfErr, IsTrue, refl, sym, subst, ◌∙◌, append-nil, append_assoc, arith}
use Rattle.std.specs.Prelude.{OnErr, OnOk}
use Rattle.sqlite.specs.declared.error.Error.{Error}
use Rattle.sqlite.specs.Given.{Advances, FailsToAdvance, HasBegun, HasGiven, IsRefused, Returns, row_if}
use Rattle.sqlite.specs.Held.{Held, state}
use Rattle.sqlite.specs.Listing.{understood}
use Rattle.sqlite.specs.Order.{Row}
use Rattle.sqlite.specs.State.{State, CommitsShowing, Fails, FailsToQuery, HasCleanDisk, IsRolledBack, IsUnchanged, Survives}
use Rattle.sqlite.specs.Store.{Ghosts}
use Rattle.sqlite.proofs.Callers.{unchanged_then}
use Rattle.sqlite.proofs.StateLemmas.{survives_weaker}
use Rattle.sqlite_resolve.specs.declared.compiled.Compiled.{Compiled}
use Rattle.sqlite_resolve.specs.declared.error.CompileError.{CompileError}
use Rattle.office_words.specs.declared.fault.Fault.{Fault}
use Rattle.office_rows.specs.Causes.{HasFailed}
use Rattle.office_rows.specs.Faults.{fault_of_error}
use Rattle.office_rows.specs.Queries.{IsQuery}
use Rattle.office_rows.proofs.Sure.{met_between, was_shut}
use Rattle.office_store.specs.Schema.{office_schema}
use Rattle.office_store.specs.Shown.{IsIdle}
use Rattle.office_store.proofs.Calls.{never_both}
use Rattle.journal_verification.specs.Looked.{HasLooked}
use Rattle.journal_verification.specs.Reading.{GivesNext, IsAt, IsGiving}
use Rattle.journal_verification.proofs.Faults.{rowids_failed, rows_failed}
use Rattle.journal_verification.proofs.Looks.{has_looked}

pub looked_so : (old new : State) → IsIdle old → (old.in_transaction ≡ false → new.in_transaction ≡ false) → Survives old new (λ _. ⊥) → (HasCleanDisk new → IsUnchanged old new ⊎ IsRolledBack old new) → HasLooked old new
looked_so old new idle mode survives left = record {
  idle = record { autocommit = mode idle.autocommit; unlimited = survives.limit ∙ idle.unlimited };
  clean = λ clean. let before : HasCleanDisk old = omega (arith, survives.clean) in before;
  same = λ settled clean is_open. elim (left clean) [
    | inl same ↦ (same.0.now_is, same.0.committed_is)
    | inr back ↦ ((back.undone is_open).0 ∙ sym settled, (back.undone is_open).1)
  ];
  shut = λ clean shut. elim (left clean) [
    | inl same ↦ never_both old.is_open same.0.was_open shut
    | inr back ↦ was_shut new.is_open old.is_open back.was_open shut
  ];
  survives = survives;
}

-- ---- the next row

pub advance_left : {X : Type 0} (old new : State) (r : Result X Error) → OnOk r (IsUnchanged old new) → IfErr r (λ e. Fails old new ⊥ e ⊎ IsUnchanged old new) → IsUnchanged old new ⊎ IsRolledBack old new
advance_left old new (Ok x) same kept = inl same
advance_left old new (Err e) same (inl fails) = inr fails.3
advance_left old new (Err e) same (inr unchanged) = inl unchanged

module _ {S : Type 0} (g : Ghosts S) (old new : Held S) where
  pub gives_next : (next : Option Row) → IsUnchanged (state g old) (state g new) → Advances g old new next → GivesNext g old new next
  gives_next (Some row) same advances = λ sql given at. advances sql [] given at
  gives_next None same advances = λ sql given at. record { old = old; new = new; now = sym same.0.now_is; shown = advances sql [] given at }

  pub giving_failed : (e : Error) → IsIdle (state g old) → (state g old).now.schema ≡ office_schema → FailsToAdvance g old new e → IsGiving g old → (f : Fault) → f ≡ fault_of_error e → HasFailed (state g old) (state g new) f
  giving_failed e idle has fails (sql, (table, inl is), given, at) f is_fault =
      rows_failed table sql is (state g old) (state g new) idle has f (record { error = e; failed = fails sql [] given at; fault = is_fault })
  giving_failed e idle has fails (sql, (table, inr is), given, at) f is_fault =
      rowids_failed table sql is (state g old) (state g new) idle has f (record { error = e; failed = fails sql [] given at; fault = is_fault })

  -- it goes on giving, where there was a row
  pub still_giving : (found : Bool) → IsTrue found → GivesNext g old new (row_if found new) → IsGiving g old → IsGiving g new
  still_giving true is next (sql, of, given, at) = (sql, of, given ++ new.reading.row ∷ [], next sql given at)
  still_giving false is next giving = absurd cc

pub failed_since : (old mid new : State) → HasLooked old mid → IsUnchanged old mid → (f : Fault) → HasFailed mid new f → HasFailed old new f
failed_since old mid new looked same f h = met_between old mid new new f looked.survives.counts (omega arith) (λ shut. never_both mid.is_open same.0.is_open shut) h

-- what is so of a call is so since before what changed nothing
module _ (old mid new : State) (looked : HasLooked old mid) (same : IsUnchanged old mid) where
  pub unchanged_since : {X E : Type 0} (r : Result X E) → OnOk r (IsUnchanged mid new) → OnOk r (IsUnchanged old new)
  unchanged_since (Ok x) more = unchanged_then old mid new same more
  unchanged_since (Err e) more = tt

  pub failure_since : {X : Type 0} (r : Result X Fault) → IfErr r (HasFailed mid new) → IfErr r (HasFailed old new)
  failure_since (Ok x) h = tt
  failure_since (Err f) h = failed_since old mid new looked same f h

pub unchanged_itself : (s : State) → IsTrue s.is_open → IsUnchanged s s
unchanged_itself s is_open = (record { was_open = is_open; is_open = is_open; now_is = refl; committed_is = refl; mode = refl }, record { changes = refl; last_rowid = refl }, refl)

-- a connection that gives rows is open
pub at_open : {S : Type 0} (g : Ghosts S) (sql : List ℕ) (held : Held S) (given : List Row) → IsAt g sql held given → IsTrue (state g held).is_open
unfolding HasGiven
at_open g sql held given at = at.0.is_open

pub giving_open : {S : Type 0} (g : Ghosts S) (held : Held S) → IsGiving g held → IsTrue (state g held).is_open
giving_open g held (sql, of, given, at) = at_open g sql held given at

pub found_row : {S : Type 0} (found : Bool) (held : Held S) (row : Row) → Some row ≡ row_if found held → IsTrue found
found_row true held row is = refl
found_row false held row is = absurd cc

-- ---- all further rows

abbrev pub HaveCome : {S : Type 0} → Ghosts S → Held S → Held S → Type 0
HaveCome g old now = (sql : List ℕ) (given : List Row) → IsAt g sql old given → (more : List Row) × IsAt g sql now (given ++ more)

module _ {S : Type 0} (g : Ghosts S) where
  pub none_came : (held : Held S) → HaveCome g held held
  none_came held = λ sql given at. ([], subst (IsAt g sql held) (sym (append-nil given)) at)

  pub one_came : (old mid new : Held S) (row : Row) → HaveCome g old mid → GivesNext g mid new (Some row) → HaveCome g old new
  one_came old mid new row come next = λ sql given at.
      let it = come sql given at in
      (it.0 ++ row ∷ [], subst (IsAt g sql new) (append_assoc given it.0 (row ∷ [])) (next sql (given ++ it.0) it.1))

  -- the same where there was a row
  pub one_more_came : (old mid new : Held S) (row : Row) (next : Option Row) → Some row ≡ next → HaveCome g old mid → GivesNext g mid new next → HaveCome g old new
  one_more_came old mid new row next is come gives = one_came old mid new row come (subst (GivesNext g mid new) (sym is) gives)

  pub giving_since : (old mid : Held S) → HaveCome g old mid → IsGiving g old → IsGiving g mid
  giving_since old mid come (sql, of, given, at) = let it = come sql given at in (sql, of, given ++ it.0, it.1)

-- ---- the start of a reading

never_returns : (r : Result Compiled CompileError) → ((c : Compiled) → r ≡ Ok c → c.returning ≡ None) → Returns r → ⊥
never_returns (Ok c) none some = absurd (let k = rw (none c refl) at some in cc)
never_returns (Err e) none some = some

commits_nothing : (sql : List ℕ) → IsQuery sql → (old new : State) → Survives old new (CommitsShowing sql [] old) → Survives old new (λ _. ⊥)
unfolding CommitsShowing
commits_nothing sql query old new survives = survives_weaker old new _ _ (λ clean db h. let none = query old.now.schema h.0 h.1.is in let some = rw none at h.2 in cc) survives

pub refused_so : {S X : Type 0} (g : Ghosts S) (sql : List ℕ) (old new : Held S) (r : Result X Error) (e : Error) → r ≡ Err e → OnErr r (IsRefused g {X = X} sql [] old r new) → HasCleanDisk (state g new) → FailsToQuery sql [] (state g old) (state g new) e
refused_so g sql old new (Ok x) e is refused clean = absurd cc
refused_so g sql old new (Err d) e is refused clean = subst (λ x. IfErr x (FailsToQuery sql [] (state g old) (state g new))) is (refused.err clean)

module _ {S : Type 0} (g : Ghosts S) (sql : List ℕ) (query : IsQuery sql) (old new : Held S) where
  pub begun : HasBegun g sql [] old new → IsAt g sql new [] × IsUnchanged (state g old) (state g new)
  begun (inl h) = h
  begun (inr h) = absurd (never_returns (understood old.schema sql) (query old.schema) h.0)

  pub begun_looked : IsIdle (state g old) → (old.in_transaction ≡ false → new.in_transaction ≡ false) → (HasCleanDisk (state g new) → HasBegun g sql [] old new) → Survives (state g old) (state g new) (CommitsShowing sql [] (state g old))
      → HasLooked (state g old) (state g new)
  begun_looked idle mode has survives = looked_so (state g old) (state g new) idle mode (commits_nothing sql query (state g old) (state g new) survives) (λ clean. inl (begun (has clean)).1)

  pub refused_looked : {X : Type 0} (r : Result X Error) (e : Error) → r ≡ Err e → IsIdle (state g old) → OnErr r (IsRefused g {X = X} sql [] old r new) → HasLooked (state g old) (state g new)
  refused_looked (Ok x) e is idle refused = absurd cc
  refused_looked (Err d) e is idle refused =
      has_looked sql query [] (state g old) (state g new) {X = List Row} (λ l. l) (Err (fault_of_error d)) idle refused.mode (λ clean. tt) (λ clean. record { error = d; failed = refused.err clean; fault = refl }) refused.survives

-- From a query to a read, from a read to what is told of it, and from statements to a write.
use Rattle.std.proofs.Common.{inl, inr, ◌≡◌, ◌≢◌, ℕ, Option, IfErr, Bool, true, false, Result, Ok, Err, IfOk, OnOk, IsTrue, List, ◌<◌, length, refl, sym, ap, subst, ◌∙◌, arith}
use Rattle.sqlite.specs.Effect.{Database}
use Rattle.sqlite.specs.Held.{Held, state}
use Rattle.sqlite.specs.Store.{Ghosts}
use Rattle.sqlite.specs.declared.error.Error.{Error}
use Rattle.sqlite.specs.Order.{Row}
use Rattle.sqlite.specs.State.{State, HasCleanDisk, Survives, CommitsShowing, FailsToQuery, Shown, Shows as Sees}
use Rattle.sqlite.specs.Tree.{Trees}
use Rattle.sqlite.proofs.StateLemmas.{survives_weaker}
use Rattle.office_words.specs.Tables.{Tables}
use Rattle.office_words.specs.declared.fault.Fault.{Fault}
use Rattle.office_words.specs.declared.fault.Fault.TheVariants.{NoMemory, NotAnOffice}
use Rattle.office_rows.specs.Causes.{HasFailed}
use Rattle.office_rows.specs.Faults.{fault_of_error, FindsRow}
use Rattle.office_rows.specs.Rows.{IsFaultOf}
use Rattle.office_rows.specs.Queries.{IsQuery, IsAsItWas, IsAsked}
use Rattle.office_rows.proofs.Queries.{first_asked, rows_asked}
use Rattle.office_rows.specs.Statements.{Statement, begun, RanAll, FailedIn}
use Rattle.office_rows.specs.Told.{IsTold}
use Rattle.office_rows.proofs.Transactions.{ran_open}
use Rattle.office_rows.proofs.Shut.{failed_shut}
use Rattle.office_rows.proofs.Sure.{IsSure, sure_failed, shut_failed, first_fault, rows_fault}
pub use Rattle.office_rows.proofs.Sure.{never_both}
use Rattle.office_store.specs.Schema.{office_schema}
use Rattle.office_store.specs.Shown.{IsIdle, IsOffice, Shows, ShowsIfOpen, AreOffice, LeavesOnly, LeavesNoMore, MayLeave}
use Rattle.office_store.specs.Steps.{AreSteps}
use Rattle.office_store.specs.Calls.{Leaves, IsRead, IsWrite, Into}
use Rattle.office_store.proofs.Committed.{trees_of, all_made, none_made, survives_same}
use Rattle.no_memory.specs.Witness.{witness}

-- a connection that is open was open
pub opened : (old new : Bool) → IsTrue new → (old ≡ false → new ≡ false) → IsTrue old
opened true new is_open shut = refl
opened false new is_open shut = never_both new is_open (shut refl)

pub by_open : (b : Bool) (P : Type 0) → (IsTrue b → P) → (b ≡ false → P) → P
by_open true P f g = f refl
by_open false P f g = g refl

pub if_open : {A : Type 0} (P Q : Type 0) (r : Result A Fault) (R : A → Type 0) → OnOk r (P × Q) → (P → IfOk r R) → IfOk r R
if_open P Q (Ok a) R both f = f both.0
if_open P Q (Err f) R both g = tt

-- the connection shows the tables again, where it has what it had
shows_again : (old new : State) (t : Tables) → Shows old t → IsAsItWas old new → ShowsIfOpen new t
shows_again old new t shows same is_open =
    let kept = same is_open in
    record { is_open = is_open; settled = kept.0 ∙ shows.settled ∙ sym kept.1; office = rw kept.0 shows.office }

abbrev pub Settles : State → Type 0
Settles new = (trees : Trees) → IsTrue new.is_open → new.may_leave trees → trees ≡ new.committed.trees

pub leaves_only : (new : State) → Settles new → (t : Tables) → Shows new t → LeavesOnly new t
leaves_only new law t shows trees may = trees_of new.now trees t shows.office (law trees shows.is_open may ∙ ap (λ (d : Database). d.trees) (sym shows.settled))

-- what fails so never faults the form of the tables
pub never_unformed : {A : Type 0} (old new : State) (r : Result A Fault) → IfErr r (HasFailed old new) → r ≢ Err NotAnOffice
never_unformed {A} old new r cause same = subst (λ (s : Result A Fault). IfErr s (HasFailed old new)) same cause

-- ---- a query

pub read_of : {X : Type 0} (old new : State) (r : Result X Fault) (Found : Tables → X → Type 0) → IsIdle old → new.in_transaction ≡ false → IsAsked old new r → Settles new
    → ((t : Tables) → ShowsIfOpen old t → HasCleanDisk new → IfErr r (HasFailed old new)) → ((t : Tables) → Shows old t → HasCleanDisk new → IfOk r (Found t)) → IsRead old new r Found
read_of old new r Found idle mode asked law fails finds = record {
  leaves = record {
    idle = record { autocommit = mode; unlimited = asked.crash.limit ∙ idle.unlimited };
    clean = λ clean. let before : HasCleanDisk old = omega (arith, asked.crash.clean) in before;
    survives = survives_weaker old new _ _ (λ _ trees none. absurd none) asked.crash;
    answered = asked.answered;
    shut = asked.shut;
    settled = leaves_only new law;
  };
  found = λ t shows clean. if_open _ _ r (Found t) (asked.answered clean) (λ is_open. finds t (shows is_open) clean);
  cause = fails;
  shown = λ t shows clean is_open.
      let was = opened old.is_open new.is_open is_open (λ shut. (asked.shut clean shut).0) in
      shows_again old new t (shows was) (asked.same (shows was).settled clean) is_open;
  same = asked.same;
  crash = λ clean trees may. elim (asked.crash.crash clean trees may) [ inl before ↦ before | inr none ↦ absurd none ];
}

-- why a query that the schema takes fails
abbrev Fails : List ℕ → Row → State → State → Type 0
Fails sql given old new = (e : Error) → FailsToQuery sql given old new e → HasFailed old new (fault_of_error e)

fails_of : (sql : List ℕ) → IsQuery sql → (given params : Row) (old new : State) → IsIdle old → given ≡ params → IsSure office_schema sql params → (t : Tables) → ShowsIfOpen old t → Fails sql given old new
fails_of sql query given params old new idle are sure t shows =
    by_open old.is_open (Fails sql given old new)
    (λ is_open e. sure_failed office_schema sql given (subst (IsSure office_schema sql) (sym are) sure) old new e (shows is_open).office.schema idle.unlimited)
    (λ shut e. shut_failed sql given old new e (query old.now.schema) shut)

-- a query of the first row, by these parameters
pub first_read : (sql : List ℕ) → IsQuery sql → (given params : Row) (old new : State) (r : Result (Option Row) Fault) (Found : Tables → Option Row → Type 0) → IsIdle old
    → (old.in_transaction ≡ false → new.in_transaction ≡ false) → Settles new → Survives old new (CommitsShowing sql given old) → (HasCleanDisk new → FindsRow sql given old new r) → given ≡ params
    → IsSure office_schema sql params → ((t : Tables) → Shows old t → FindsRow sql params old new r → IfOk r (Found t)) → IsRead old new r Found
first_read sql query given params old new r Found idle mode law survives row are sure finds =
    read_of old new r Found idle (mode idle.autocommit) (first_asked sql query given old new r row survives) law
    (λ t shows clean. first_fault (HasFailed old new) sql given old new (fails_of sql query given params old new idle are sure t shows) r (row clean))
    (λ t shows clean. finds t shows (subst (λ (p : Row). FindsRow sql p old new r) are (row clean)))

-- the text is a query, whatever the schema, and the schema of an office takes it with these parameters
pub record Asks (sql : List ℕ) (params : Row) : Type 0 where
  pub query : IsQuery sql
  pub sure : IsSure office_schema sql params

-- a query of all its rows
pub rows_read : {X : Type 0} (items : X → List Row) (sql : List ℕ) (given params : Row) → Asks sql params → (old new : State) (r : Result X Fault) (Found : Tables → X → Type 0) → IsIdle old
    → (old.in_transaction ≡ false → new.in_transaction ≡ false) → Settles new → Survives old new (CommitsShowing sql given old)
    → (HasCleanDisk new → IfOk r (λ x. Shown sql given old new (items x))) → (HasCleanDisk new → IfErr r (IsFaultOf sql given old new)) → given ≡ params
    → ((t : Tables) → Shows old t → IfOk r (λ x. Shown sql params old new (items x)) → IfOk r (Found t)) → IsRead old new r Found
rows_read items sql given params asks old new r Found idle mode law survives rows fault are finds =
    read_of old new r Found idle (mode idle.autocommit) (rows_asked sql asks.query given old new items r rows fault survives) law
    (λ t shows clean. rows_fault (HasFailed old new) sql given old new (fails_of sql asks.query given params old new idle are asks.sure t shows) r (fault clean))
    (λ t shows clean. finds t shows (subst (λ (p : Row). IfOk r (λ x. Shown sql p old new (items x))) are (rows clean)))

-- nothing is read where there is no memory
pub fails_unread : {X : Type 0} (s : State) (f : Fault) (Found : Tables → X → Type 0) → IsIdle s → f ≡ NoMemory witness → Settles s → IsRead {A = X} s s (Err f) Found
fails_unread s f Found idle memory law = record {
  leaves = record {
    idle = idle;
    clean = λ clean. clean;
    survives = survives_same s _;
    answered = λ clean. tt;
    shut = λ clean shut. (shut, λ same. cc);
    settled = leaves_only s law;
  };
  found = λ t shows clean. tt;
  cause = λ t shows clean. subst (HasFailed s s) (sym memory) tt;
  shown = λ t shows clean. shows;
  same = λ settled clean is_open. (refl, refl);
  crash = λ clean trees may. may;
}

-- ---- what is told of what was read

module _ {X A : Type 0} (Tells : X → Result A Fault → Type 0) where
  pub told_ok : (P : Type 0) (row : Result X Fault) (r : Result A Fault) → IsTold Tells row r → OnOk row P → OnOk r P
  told_ok P (Ok x) (Ok a) told p = p
  told_ok P (Ok x) (Err f) told p = tt
  told_ok P (Err e) (Ok a) told p = absurd cc
  told_ok P (Err e) (Err f) told p = tt

  pub told_found : (FoundRow : X → Type 0) (Found : A → Type 0) (row : Result X Fault) (r : Result A Fault) → IsTold Tells row r → IfOk row FoundRow
      → ((x : X) → FoundRow x → (a : A) → Tells x (Ok a) → Found a) → IfOk r Found
  told_found FoundRow Found (Ok x) (Ok a) told row f = f x row a told
  told_found FoundRow Found (Ok x) (Err e) told row f = tt
  told_found FoundRow Found (Err e) (Ok a) told row f = absurd cc
  told_found FoundRow Found (Err e) (Err d) told row f = tt

  passed_on : (e : Fault) (r : Result A Fault) → r ≡ Err e → ◌≢◌ {A = Result X Fault} (Err e) (Err NotAnOffice) → r ≢ Err NotAnOffice
  passed_on e r told other same = other (let k : e ≡ NotAnOffice = cc in ap Err k)

  pub told_formed : (FoundRow : X → Type 0) (row : Result X Fault) (r : Result A Fault) → IsTold Tells row r → row ≢ Err NotAnOffice → IfOk row FoundRow
      → ((x : X) → FoundRow x → Tells x (Err NotAnOffice) → ⊥) → r ≢ Err NotAnOffice
  told_formed FoundRow (Ok x) r told other row none same = none x row (subst (Tells x) same told)
  told_formed FoundRow (Err e) r told other row none same = passed_on e r told other same

  -- where it reports no other fault of what was found than that there is no memory
  told_cause : (FoundRow : X → Type 0) (P : Fault → Type 0) (row : Result X Fault) (r : Result A Fault) → IsTold Tells row r → P (NoMemory witness) → IfErr row P → IfOk row FoundRow
      → ((x : X) → FoundRow x → (f : Fault) → Tells x (Err f) → f ≡ NoMemory witness) → IfErr r P
  told_cause FoundRow P (Ok x) (Ok a) told memory fails found none = tt
  told_cause FoundRow P (Ok x) (Err f) told memory fails found none = subst P (sym (none x found f told)) memory
  told_cause FoundRow P (Err e) (Ok a) told memory fails found none = absurd cc
  told_cause FoundRow P (Err e) (Err f) told memory fails found none = let k : f ≡ e = cc in subst P (sym k) fails

  none_shut : (Q : Type 0) (b : Bool) (row : Result X Fault) → OnOk row (IsTrue b × Q) → b ≡ false → IfOk row (λ _. ⊥)
  none_shut Q b (Ok x) both shut = never_both b both.0 shut
  none_shut Q b (Err e) both shut = tt

  pub told_shut : (Q : Type 0) (b : Bool) (row : Result X Fault) (r : Result A Fault) → IsTold Tells row r → OnOk row (IsTrue b × Q) → b ≡ false → row ≢ Err NotAnOffice → r ≢ Err NotAnOffice
  told_shut Q b (Ok x) r told both shut other = never_both b both.0 shut
  told_shut Q b (Err e) r told both shut other = passed_on e r told other

  pub read_told : (old new : State) (FoundRow : Tables → X → Type 0) (Found : Tables → A → Type 0) (row : Result X Fault) (r : Result A Fault) → IsRead old new row FoundRow → IsTold Tells row r
      → ((t : Tables) → Shows old t → (x : X) → FoundRow t x → (a : A) → Tells x (Ok a) → Found t a)
      → ((t : Tables) → Shows old t → (x : X) → FoundRow t x → (f : Fault) → Tells x (Err f) → f ≡ NoMemory witness)
      → IsRead old new r Found
  read_told old new FoundRow Found row r read told some none = record {
    leaves = record {
      idle = read.leaves.idle;
      clean = read.leaves.clean;
      survives = read.leaves.survives;
      answered = λ clean. told_ok _ row r told (read.leaves.answered clean);
      shut = λ clean shut. ((read.leaves.shut clean shut).0, told_shut _ old.is_open row r told (read.leaves.answered clean) shut (read.leaves.shut clean shut).1);
      settled = read.leaves.settled;
    };
    found = λ t shows clean.
        if_open _ _ r (Found t) (told_ok _ row r told (read.leaves.answered clean)) (λ is_open. told_found (FoundRow t) (Found t) row r told (read.found t shows clean) (some t (shows is_open)));
    cause = λ t shows clean.
        let fails = read.cause t shows clean in
        by_open old.is_open (IfErr r (HasFailed old new)) (λ is_open. told_cause (FoundRow t) (HasFailed old new) row r told tt fails (read.found t shows clean) (none t (shows is_open)))
        (λ shut. told_cause (λ _. ⊥) (HasFailed old new) row r told tt fails (none_shut _ old.is_open row (read.leaves.answered clean) shut) (λ x none f tells. absurd none));
    shown = read.shown;
    same = read.same;
    crash = read.crash;
  }

-- ---- a write

-- a read that failed, and whose fault is passed on, or what is made of its answer
module _ {X A : Type 0} (old new : State) (FoundRow : Tables → X → Type 0) (Found : Tables → A → Type 0) (row : Result X Fault) (read : IsRead old new row FoundRow) (r : Result A Fault) where
  abbrev Makes : X → Result A Fault → Type 0
  Makes x s = (t : Tables) → Shows old t → FoundRow t x → IfOk s (Found t) × IfErr s (λ f. f ≡ NoMemory witness)

  made : IsTold Makes row r → IsRead old new r Found
  made told = read_told Makes old new FoundRow Found row r read told (λ t shows x found a makes. (makes t shows found).0) (λ t shows x found f makes. (makes t shows found).1)

  pub read_failed : (f : Fault) → row ≡ Err f → r ≡ Err f → IsRead old new r Found
  read_failed f is same = made (subst (λ (s : Result X Fault). IsTold Makes s r) (sym is) same)

  pub read_made : (x : X) → row ≡ Ok x → ((t : Tables) → Shows old t → FoundRow t x → IfOk r (Found t) × IfErr r (λ f. f ≡ NoMemory witness)) → IsRead old new r Found
  read_made x is makes = made (subst (λ (s : Result X Fault). IsTold Makes s r) (sym is) makes)

-- a write of these statements is one of whatever makes the same tables
pub write_as : {A : Type 0} (old new : State) (r : Result A Fault) (First Second : Tables → Tables → Type 0) → ((t u : Tables) → Second t u → First t u) → IsWrite old new r First → IsWrite old new r Second
write_as old new r First Second given write = record {
  leaves = write.leaves;
  done = λ t u shows makes. write.done t u shows (given t u makes);
  undone = write.undone;
  same = write.same;
  formed = λ t u shows makes. write.formed t u shows (given t u makes);
  crash = λ t u shows makes. write.crash t u shows (given t u makes);
  lost = write.lost;
}

-- a write of statements that make this change
pub write_into : {S A : Type 0} (g : Ghosts S) (ss : List Statement) (old new : State) (r : Result A Fault) (change : Tables → Tables) → ((t : Tables) → AreSteps g ss t (change t)) → IsWrite old new r (AreSteps g ss)
    → IsWrite old new r (Into change)
write_into g ss old new r change steps = write_as old new r (AreSteps g ss) (Into change) (λ t u is. subst (λ v. AreSteps g ss t v) (sym is) (steps t))

-- ---- statements in one transaction

module _ {S : Type 0} (g : Ghosts S) (ss : List Statement) (some : 0 < length ss) (old new : Held S) (idle : IsIdle (state g old)) (mode : new.in_transaction ≡ false) (law : Settles (state g new))
    (was_open : HasCleanDisk (state g new) → IsTrue (state g new).is_open → IsTrue (state g old).is_open)
    (survives : Survives (state g old) (state g new) (λ trees. (db : Database) × RanAll g ss (begun old) db × (trees ≡ db.trees))) where
  leaves_of : {A : Type 0} (r : Result A Fault) → (HasCleanDisk (state g new) → OnOk r (IsTrue (state g old).is_open × IsTrue (state g new).is_open))
      → (HasCleanDisk (state g new) → (state g old).is_open ≡ false → r ≢ Err NotAnOffice) → Leaves (state g old) (state g new) r
  leaves_of r answered other = record {
    idle = record { autocommit = mode; unlimited = survives.limit ∙ idle.unlimited };
    clean = λ clean. let before : HasCleanDisk (state g old) = omega (arith, survives.clean) in before;
    survives = survives_weaker (state g old) (state g new) _ _ (λ _ trees left. tt) survives;
    answered = answered;
    shut = λ clean shut. (by_open (state g new).is_open ((state g new).is_open ≡ false) (λ is_open. never_both (state g old).is_open (was_open clean is_open) shut) (λ closed. closed), other clean shut);
    settled = leaves_only (state g new) law;
  }

  crash_of : (t u : Tables) → ShowsIfOpen (state g old) t → AreSteps g ss t u → MayLeave (state g old) (state g new) (λ trees. AreOffice trees u)
  crash_of t u shows steps clean trees may = elim (survives.crash clean trees may) [
    | inl before ↦ inl before
    | inr left ↦ inr (trees_of left.0 trees u (all_made g ss (begun old) left.0 t u (shows (ran_open g ss (begun old) left.0 some left.1)).office steps left.1) left.2)
  ]

  lost_of : (state g old).is_open ≡ false → LeavesNoMore (state g old) (state g new)
  lost_of shut clean trees may = elim (survives.crash clean trees may) [
    | inl before ↦ before
    | inr left ↦ never_both (state g old).is_open (ran_open g ss (begun old) left.0 some left.1) shut
  ]

  pub write_done : {A : Type 0} (a : A) → (HasCleanDisk (state g new) → RanAll g ss (begun old) (state g new).now × Sees (state g old) (state g new) (state g new).now (state g new).now false)
      → IsWrite (state g old) (state g new) (Ok a) (AreSteps g ss)
  write_done a all = record {
    leaves = leaves_of (Ok a) (λ clean. ((all clean).1.was_open, (all clean).1.is_open)) (λ clean shut same. cc);
    done = λ t u shows steps clean.
        let it = all clean in
        record { is_open = it.1.is_open; settled = sym it.1.committed_is; office = all_made g ss (begun old) _ t u (shows it.1.was_open).office steps it.0 };
    undone = λ t shows clean. tt;
    same = λ settled clean. tt;
    formed = λ t u shows steps clean same. cc;
    crash = crash_of;
    lost = lost_of;
  }

  pub write_refused : (A : Type 0) (e : Error) (f : Fault) → f ≡ fault_of_error e
      → (HasCleanDisk (state g new) → IsTrue (state g new).is_open → ((state g new).now ≡ (state g old).committed) × ((state g new).committed ≡ (state g old).committed))
      → (HasCleanDisk (state g new) → FailedIn g ss (begun old) new e) → IsWrite {A = A} (state g old) (state g new) (Err f) (AreSteps g ss)
  write_refused A e f is none cause = record {
    leaves = leaves_of {A = A} (Err f) (λ clean. tt) other;
    done = λ t u shows steps clean. tt;
    undone = λ t shows clean is_open.
        let was = shows (was_open clean is_open) in
        let back = none clean is_open in
        record { is_open = is_open; settled = back.0 ∙ sym back.1; office = subst (λ (d : Database). IsOffice d t) (was.settled ∙ sym back.0) was.office };
    same = λ settled clean is_open. let back = none clean is_open in (back.0 ∙ sym settled, back.1);
    formed = λ t u shows steps clean same.
        by_open (state g old).is_open ⊥ (λ is_open. (none_made g ss (begun old) new e t u (shows is_open).office steps (cause clean)).0 (sym is ∙ (let k : f ≡ NotAnOffice = cc in k)))
        (λ shut. other clean shut same);
    crash = crash_of;
    lost = lost_of;
  }
    where
      other : HasCleanDisk (state g new) → (state g old).is_open ≡ false → ◌≢◌ {A = Result A Fault} (Err f) (Err NotAnOffice)
      other clean shut same = failed_shut g ss (begun old) new e some (cause clean) shut (sym is ∙ (let k : f ≡ NotAnOffice = cc in k))

-- From the statements of a migration to what it leaves.
use Rattle.std.proofs.Common.{inl, inr, ◌≡◌, ◌≢◌, ℕ, Bool, false, Result, Ok, Err, OnOk, OnErr, IsTrue, [], sym, ap, subst, ◌∙◌, arith}
use Rattle.sqlite.specs.declared.error.Error.{Error}
use Rattle.sqlite.specs.Effect.{Database}
use Rattle.sqlite.specs.Held.{Held, state}
use Rattle.sqlite.specs.Store.{Ghosts}
use Rattle.sqlite.specs.State.{State, HasCleanDisk, Survives, Shows as Sees}
use Rattle.sqlite.specs.Tree.{Trees}
use Rattle.sqlite.proofs.StateLemmas.{survives_weaker, survives_then}
use Rattle.office_words.specs.Tables.{Tables}
use Rattle.office_words.specs.declared.fault.Fault.{Fault}
use Rattle.office_words.specs.declared.fault.Fault.TheVariants.{NotAnOffice}
use Rattle.office_rows.specs.Faults.{fault_of_error}
use Rattle.office_rows.specs.Queries.{IsAsItWas}
use Rattle.office_rows.specs.Statements.{begun, RanAll, FailedIn}
use Rattle.office_rows.proofs.Transactions.{ran_open}
use Rattle.office_rows.proofs.Shut.{failed_shut}
use Rattle.office_founding.specs.declared.form.Form.{Form}
use Rattle.office_store.specs.Calls.{IsRead}
use Rattle.office_store.specs.Shown.{IsIdle, Shows, AreOffice, LeavesOnly, MayLeave}
use Rattle.office_founding.specs.Migration.{IsOldOffice, ShowsOld, ShowsOldIfOpen, AreOldOffice, IsMigration, migration}
use Rattle.office_store.proofs.Calls.{never_both, opened, by_open, Settles, leaves_only}
use Rattle.office_store.proofs.Committed.{trees_of}
use Rattle.office_founding.proofs.MigrationSteps.{all_migrated, none_migrated}

-- a form has one number
pub one_number : {P : Type 0} (form : Form) (listed : ℕ) (known other : Bool) → form ≡ record { is_old = known; listed = listed } → form.is_old ≡ other → (known ≡ other → ⊥) → P
one_number form listed known other is number apart = absurd (apart (sym (ap (λ (f : Form). f.is_old) is) ∙ number))

-- ---- an office of schema 1

-- the trees of an office of schema 1 are those of its tables
old_trees_of : (db : Database) (trees : Trees) (t : Tables) → IsOldOffice db t → trees ≡ db.trees → AreOldOffice trees t
old_trees_of db trees t office is = subst (λ (d : Database). IsOldOffice d t) (λ i. record { schema = office.schema i; trees = sym is i }) office

-- the connection shows the tables again, where it has what it had
pub old_again : (old new : State) (t : Tables) → ShowsOld old t → IsAsItWas old new → ShowsOldIfOpen new t
old_again old new t shows same is_open =
    let kept = same is_open in
    record { is_open = is_open; settled = kept.0 ∙ shows.settled ∙ sym kept.1; office = subst (λ (d : Database). IsOldOffice d t) (sym kept.0) shows.office }

-- before a migration a crash leaves what the connection shows
left_before : (s : State) → Settles s → (t : Tables) → ShowsOld s t → (trees : Trees) → s.may_leave trees → AreOldOffice trees t
left_before s law t shows trees may = old_trees_of s.now trees t shows.office (law trees shows.is_open may ∙ ap (λ (d : Database). d.trees) (sym shows.settled))

-- ---- nothing was done, or a read

pub only_asked : (A : Type 0) {X E : Type 0} {Found : Tables → X → Type 0} (old new : State) (row : Result X Fault) (e : E) → IsRead old new row Found → Settles old → IsMigration {A = A} old new (Err e)
only_asked A old new row e read law = record {
  idle = read.leaves.idle;
  clean = read.leaves.clean;
  survives = read.leaves.survives;
  answered = λ clean. tt;
  shut = λ clean shut. (read.leaves.shut clean shut).0;
  done = λ t shows clean. tt;
  undone = λ t shows clean is_open.
      let was = shows (opened old.is_open new.is_open is_open (λ shut. (read.leaves.shut clean shut).0)) in
      old_again old new t was (read.same was.settled clean) is_open;
  same = λ settled clean. read.same settled clean;
  crash = λ t shows clean trees may. inl (left_before old law t shows trees (read.crash clean trees may));
  adds = λ t shows clean trees may. inl (read.crash clean trees may);
  lost = λ shut. read.crash;
}

-- ---- the statements

module _ {S : Type 0} (g : Ghosts S) (old new : Held S) (idle : IsIdle (state g old)) (mode : new.in_transaction ≡ false) (before : Settles (state g old)) (law : Settles (state g new))
    (was_open : HasCleanDisk (state g new) → IsTrue (state g new).is_open → IsTrue (state g old).is_open)
    (survives : Survives (state g old) (state g new) (λ trees. (db : Database) × RanAll g (migration []) (begun old) db × (trees ≡ db.trees))) where
  new_left : (t : Tables) → ShowsOldIfOpen (state g old) t → MayLeave (state g old) (state g new) (λ trees. AreOffice trees t)
  new_left t shows clean trees may = elim (survives.crash clean trees may) [
    | inl earlier ↦ inl earlier
    | inr left ↦ inr (trees_of left.0 trees t (all_migrated g t (begun old) left.0 (shows (ran_open g (migration []) (begun old) left.0 (omega arith) left.1)).office left.1) left.2)
  ]

  by_statements : {A E : Type 0} (r : Result A E) → (HasCleanDisk (state g new) → OnOk r (IsTrue (state g old).is_open × IsTrue (state g new).is_open))
      → ((t : Tables) → ShowsOldIfOpen (state g old) t → HasCleanDisk (state g new) → OnOk r (Shows (state g new) t × LeavesOnly (state g new) t))
      → ((t : Tables) → ShowsOldIfOpen (state g old) t → HasCleanDisk (state g new) → OnErr r (ShowsOldIfOpen (state g new) t))
      → ((state g old).now ≡ (state g old).committed → HasCleanDisk (state g new) → OnErr r (IsAsItWas (state g old) (state g new))) → IsMigration (state g old) (state g new) r
  by_statements r answered done undone same = record {
    idle = record { autocommit = mode; unlimited = survives.limit ∙ idle.unlimited };
    clean = λ clean. let was : HasCleanDisk (state g old) = omega (arith, survives.clean) in was;
    survives = survives_weaker (state g old) (state g new) _ _ (λ _ trees left. tt) survives;
    answered = answered;
    shut = λ clean shut. by_open (state g new).is_open ((state g new).is_open ≡ false) (λ is_open. never_both (state g old).is_open (was_open clean is_open) shut) (λ closed. closed);
    done = done;
    undone = undone;
    same = same;
    crash = λ t shows clean trees may. elim (new_left t (λ _. shows) clean trees may) [ inl earlier ↦ inl (left_before (state g old) before t shows trees earlier) | inr left ↦ inr left ];
    adds = new_left;
    lost = λ shut clean trees may. elim (survives.crash clean trees may) [
      | inl earlier ↦ earlier
      | inr left ↦ never_both (state g old).is_open (ran_open g (migration []) (begun old) left.0 (omega arith) left.1) shut
    ];
  }

  pub all_ran : {A E : Type 0} (a : A)
      → (HasCleanDisk (state g new) → RanAll g (migration []) (begun old) (state g new).now × Sees (state g old) (state g new) (state g new).now (state g new).now false)
      → IsMigration {E = E} (state g old) (state g new) (Ok a)
  all_ran {E = E} a all =
      by_statements {E = E} (Ok a) (λ clean. ((all clean).1.was_open, (all clean).1.is_open))
      (λ t shows clean.
      let it = all clean in
      let now : Shows (state g new) t = record { is_open = it.1.is_open; settled = sym it.1.committed_is; office = all_migrated g t (begun old) (state g new).now (shows it.1.was_open).office it.0 } in
      (now, leaves_only (state g new) law t now))
      (λ t shows clean. tt) (λ settled clean. tt)

  module _ (none : HasCleanDisk (state g new) → IsTrue (state g new).is_open → ((state g new).now ≡ (state g old).committed) × ((state g new).committed ≡ (state g old).committed)) where
    pub none_ran : (A : Type 0) {E : Type 0} (e : E) → IsMigration {A = A} (state g old) (state g new) (Err e)
    none_ran A e =
        let same : (state g old).now ≡ (state g old).committed → HasCleanDisk (state g new) → IsAsItWas (state g old) (state g new) =
        λ settled clean is_open. let back = none clean is_open in (back.0 ∙ sym settled, back.1) in
        by_statements {A = A} (Err e) (λ clean. tt) (λ t shows clean. tt)
        (λ t shows clean is_open. let was = shows (was_open clean is_open) in old_again (state g old) (state g new) t was (same was.settled clean) is_open) same

-- the statements never fail for the form of an office of schema 1
pub never_unformed : {S : Type 0} (g : Ghosts S) (h end : Held S) (e : Error) (f : Fault) (t : Tables) → ShowsOldIfOpen (state g h) t → FailedIn g (migration []) (begun h) end e → f ≡ fault_of_error e → f ≢ NotAnOffice
never_unformed g h end e f t shows failed is same =
    by_open (state g h).is_open ⊥ (λ is_open. (none_migrated g t (begun h) end e (shows is_open).office failed).0 (sym is ∙ same))
    (λ shut. failed_shut g (migration []) (begun h) end e (omega arith) failed shut (sym is ∙ same))

-- ---- the row and then the statements

module _ {X A B E F : Type 0} {Found : Tables → X → Type 0} (old mid new : State) (row : Result X Fault) (x : X) (is : row ≡ Ok x) (read : IsRead old mid row Found) (law : Settles old) (s : Result B F) (r : Result A E)
    (alike_ok : (P : Type 0) → OnOk s P → OnOk r P) (alike_err : (P : Type 0) → OnErr s P → OnErr r P) (move : IsMigration mid new s) where
  both_open : HasCleanDisk new → IsTrue old.is_open × IsTrue mid.is_open
  both_open clean = subst (λ (o : Result X Fault). OnOk o (IsTrue old.is_open × IsTrue mid.is_open)) is (read.leaves.answered (move.clean clean))

  mid_shows : (t : Tables) → ShowsOldIfOpen old t → HasCleanDisk new → ShowsOldIfOpen mid t
  mid_shows t shows clean = let was = shows (both_open clean).0 in old_again old mid t was (read.same was.settled (move.clean clean))

  pub asked_then : IsMigration old new r
  asked_then = record {
    idle = move.idle;
    clean = λ clean. read.leaves.clean (move.clean clean);
    survives = survives_then old mid new _ _ (λ _. Unit {0}) (λ _ trees left. tt) (λ _ trees left. tt) read.leaves.survives move.survives;
    answered = λ clean. alike_ok _ (was_open s (move.answered clean) (both_open clean).0);
    shut = λ clean shut. never_both old.is_open (both_open clean).0 shut;
    done = λ t shows clean. alike_ok _ (move.done t (mid_shows t shows clean) clean);
    undone = λ t shows clean. alike_err _ (move.undone t (mid_shows t shows clean) clean);
    same = λ settled clean.
        let kept = read.same settled (move.clean clean) (both_open clean).1 in
        let mid_settled : mid.now ≡ mid.committed = kept.0 ∙ settled ∙ sym kept.1 in
        alike_err _ (since s (move.same mid_settled clean) kept);
    crash = λ t shows clean trees may. move.crash t (mid_shows t (λ _. shows) clean (both_open clean).1) clean trees may;
    adds = λ t shows clean trees may. elim (move.adds t (mid_shows t shows clean) clean trees may) [ inl earlier ↦ inl (read.crash (move.clean clean) trees earlier) | inr left ↦ inr left ];
    lost = λ shut clean. never_both old.is_open (both_open clean).0 shut;
  }
    where
      was_open : (s : Result B F) → OnOk s (IsTrue mid.is_open × IsTrue new.is_open) → IsTrue old.is_open → OnOk s (IsTrue old.is_open × IsTrue new.is_open)
      was_open (Ok b) both is_open = (is_open, both.1)
      was_open (Err f) both is_open = tt

      since : (s : Result B F) → OnErr s (IsAsItWas mid new) → (mid.now ≡ old.now) × (mid.committed ≡ old.committed) → OnErr s (IsAsItWas old new)
      since (Ok b) same kept = tt
      since (Err f) same kept = λ is_open. ((same is_open).0 ∙ kept.0, (same is_open).1 ∙ kept.1)

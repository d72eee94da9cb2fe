-- Statements for which a store has no memory, and writes that it refuses for nothing else.
use Rattle.std.proofs.Common.{◌≡◌, ◌∙◌, ◌∷◌, inl, inr, ℕ, List, [], Bool, true, false, if◌then◌else◌, Err, refl, sym, ap, arith}
use Rattle.sqlite.specs.declared.error.Error.{Error}
use Rattle.sqlite.specs.declared.error.Error.TheVariants.{SqliteFailure}
use Rattle.sqlite.specs.declared.error.ErrorCode.TheVariants as code
use Rattle.sqlite.specs.Effect.{Database}
use Rattle.sqlite.specs.Held.{Held, state}
use Rattle.sqlite.specs.Order.{Row}
use Rattle.sqlite.specs.State.{ExecutesIn, ExecutesInside, IsNotRun, IsRolledBack}
use Rattle.sqlite.specs.Store.{Ghosts}
use Rattle.sqlite_trees.specs.declared.error.StoreError.TheVariants as stored
use Rattle.office_words.specs.declared.name.ProfileName.{ProfileName}
use Rattle.office_words.specs.declared.fault.Fault.{Fault}
use Rattle.office_words.specs.declared.fault.Fault.TheVariants.{NoMemory, Disk, Full, NotAnOffice}
use Rattle.office_words.specs.Tables.{Tables, is_profile}
use Rattle.office_rows.specs.Faults.{fault_of_error}
use Rattle.office_rows.specs.Statements.{Statement, FailedIn, IsCause, IsUndone, begun}
use Rattle.office_store.specs.Refusing.{LacksPlace, LacksPlaceFor, Makes, RefusedForPlace, Write}
use Rattle.office_store.specs.Refusing.{puts_user, adds_revision, issues, withdraws, puts_vote, puts_baseline, puts_hold, deletes_hold}
use Rattle.office_store.specs.Writes.{releasing}
use Rattle.example_tests.specs.Examples.{IsAtRest}
use Rattle.no_memory.specs.Witness.{witness}

-- ---- no memory

module _ {S : Type 0} (g : Ghosts S) (conn : Held S) (rest : IsAtRest g conn) where
  -- a transaction that was just begun is undone
  undone : IsRolledBack (state g (begun conn)) (state g conn)
  undone = record {
    was_open = λ is_open. is_open;
    undone = λ is_open. (rest.settled, refl);
    autocommit = rest.idle.autocommit;
    unmarked = rest.unmarked;
    counts = record { changes = refl; last_rowid = refl };
  }

  no_memory : (sql : List ℕ) (params : Row) → ExecutesInside 0 sql params (state g (begun conn)) (state g conn) (Err (SqliteFailure code.OutOfMemory))
  unfolding ExecutesIn IsNotRun
  no_memory sql params = inl (inl (inr (stored.OutOfMemory, refl, tt, undone, λ kind is fault. absurd (let k : false ≡ true = fault in cc))), inr undone)

  -- and stays as it is
  still : IsUndone g conn conn
  still = record {
    undone = record {
      was_open = λ is_open. is_open;
      undone = λ is_open. (rest.settled, refl);
      autocommit = rest.idle.autocommit;
      unmarked = rest.unmarked;
      counts = record { changes = refl; last_rowid = refl };
    };
    counts = omega arith;
  }

  -- there is none for the first statement of a transaction
  pub memory_lacks : (s : Statement) (ss : List Statement) → IsCause g (s ∷ ss) conn conn (NoMemory witness)
  memory_lacks s ss = record { error = SqliteFailure code.OutOfMemory; failed = inl (conn, no_memory s.sql s.params, still); fault = refl }

-- a transaction that failed is over
pub over_when_failed : {S : Type 0} (g : Ghosts S) (ss : List Statement) (h end : Held S) (e : Error) → FailedIn g ss h end e → (state g end).in_transaction ≡ false
over_when_failed g [] h end e (inl failed) = failed.3.autocommit
over_when_failed g [] h end e (inr late) = late.2.0.mode ∙ late.1
over_when_failed g (s ∷ ss) h end e (inl failed) = failed.2.undone.autocommit
over_when_failed g (s ∷ ss) h end e (inr later) = over_when_failed g ss later.0 end e later.3

-- ---- a row is taken out

-- a row that is taken out needs no place
never_lacks : (p : ProfileName) (db : Database) (f : Fault) → LacksPlace (deletes_hold p) db f → ⊥
never_lacks p db (NoMemory _) lacks = lacks
never_lacks p db Disk lacks = lacks
never_lacks p db Full lacks = lacks.1
never_lacks p db NotAnOffice lacks = lacks

abbrev IsRelease : Write → Type 0
IsRelease (deletes_hold p) = Unit {0}
IsRelease _ = ⊥

module _ {S : Type 0} (g : Ghosts S) where
  never_refused : (p : ProfileName) (ss : List Statement) (h : Held S) (e : Error) → RefusedForPlace g (deletes_hold p) ss h e → ⊥
  never_refused p [] h e refused = refused
  never_refused p (s ∷ ss) h e (inl here) = never_lacks p (state g h).now (fault_of_error e) here.1
  never_refused p (s ∷ ss) h e (inr later) = never_refused p ss later.0 e later.3

  pub takes_no_place : (w : Write) → IsRelease w → (h : Held S) (f : Fault) → LacksPlaceFor g w h f → ⊥
  takes_no_place (puts_user u) is h f lacks = is
  takes_no_place (adds_revision p r) is h f lacks = is
  takes_no_place (issues p n) is h f lacks = is
  takes_no_place (withdraws p n) is h f lacks = is
  takes_no_place (puts_vote v) is h f lacks = is
  takes_no_place (puts_baseline p n) is h f lacks = is
  takes_no_place (puts_hold p) is h f lacks = is
  takes_no_place (deletes_hold p) is h f lacks = never_refused p (releasing p) (begun h) lacks.error lacks.refused

false_is_true : {A : Type 0} → false ≡ true → A
false_is_true e = absurd (let k : false ≡ true = e in cc)

still_held : (b held : Bool) → held ≡ true → (if b then true else held) ≡ true
still_held true held is = refl
still_held false held is = is

-- only a release makes tables in which a profile isn't held that was
pub is_release : (p : ProfileName) (w : Write) (t u : Tables) → Makes w t u → t.holds p ≡ true → u.holds p ≡ false → IsRelease w
is_release p (puts_user v) t u makes was is = false_is_true (sym is ∙ ap (λ (k : Tables). k.holds p) makes ∙ was)
is_release p (adds_revision q r) t u makes was is = false_is_true (sym is ∙ ap (λ (k : Tables). k.holds p) makes.1 ∙ was)
is_release p (issues q n) t u makes was is = false_is_true (sym is ∙ ap (λ (k : Tables). k.holds p) makes ∙ was)
is_release p (withdraws q n) t u makes was is = false_is_true (sym is ∙ ap (λ (k : Tables). k.holds p) makes ∙ was)
is_release p (puts_vote v) t u makes was is = false_is_true (sym is ∙ ap (λ (k : Tables). k.holds p) makes ∙ was)
is_release p (puts_baseline q n) t u makes was is = false_is_true (sym is ∙ ap (λ (k : Tables). k.holds p) makes ∙ was)
is_release p (puts_hold q) t u makes was is = false_is_true (sym is ∙ ap (λ (k : Tables). k.holds p) makes ∙ still_held (is_profile p q) (t.holds p) was)
is_release p (deletes_hold q) t u makes was is = tt

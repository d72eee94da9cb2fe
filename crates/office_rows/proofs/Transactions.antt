-- A transaction between its statements.
use Rattle.std.proofs.Common.{inr, ◌≡◌, ℕ, ◌<◌, ◌≤◌, ◌+◌, List, [], ◌∷◌, map, length, drop, get_or, Ok, IsTrue, refl, ◌∙◌, arith}
use Rattle.std.proofs.lemmas.List.{at_drop_more, at_drop_all}
use Rattle.sqlite.specs.Store.{Ghosts}
use Rattle.sqlite.specs.declared.error.Error.{Error}
use Rattle.sqlite.specs.Effect.{Database}
use Rattle.sqlite.specs.Tree.{Trees}
use Rattle.sqlite.specs.State.{HasCleanDisk, Survives, ExecutesInside}
use Rattle.sqlite.specs.Held.{Held, state}
use Rattle.sqlite.proofs.StateLemmas.{survives_then}
use Rattle.sqlite.proofs.Callers.{survives_begin}
use Rattle.office_rows.specs.declared.transaction.Statement.{Statement as Lent}
use Rattle.office_rows.specs.Statements.{Statement, statement_of, begun, RanAll, FailedIn, RefusedIn}

-- some of the statements have run, and the others are left
pub record IsUnderWay {S : Type 0} (g : Ghosts S) (all left : List Statement) (old now : Held S) : Type 0 where
  pub survives : Survives (state g (begun old)) (state g now) (λ _. ⊥)
  pub mode : HasCleanDisk (state g now) → IsTrue (state g now).in_transaction
  pub was_open : HasCleanDisk (state g now) → IsTrue (state g now).is_open → IsTrue (state g old).is_open
  pub committed : HasCleanDisk (state g now) → IsTrue (state g now).is_open → (state g now).committed ≡ (state g old).committed
  pub ran : HasCleanDisk (state g now) → (db : Database) → RanAll g left now db → RanAll g all (begun old) db
  pub failed : HasCleanDisk (state g now) → (end : Held S) (e : Error) → FailedIn g left now end e → FailedIn g all (begun old) end e
  pub refused : HasCleanDisk (state g now) → (e : Error) → RefusedIn g left now e → RefusedIn g all (begun old) e
  pub stays : HasCleanDisk (state g now) → IsTrue (state g old).is_open → IsTrue (state g now).is_open

pub one_more : {S : Type 0} (g : Ghosts S) (all left : List Statement) (s : Statement) (old now next : Held S) (count : ℕ) → IsUnderWay g all (s ∷ left) old now
    → Survives (state g now) (state g next) (λ _. ⊥)
    → (HasCleanDisk (state g next) → IsTrue (state g now).in_transaction → ExecutesInside 0 s.sql s.params (state g now) (state g next) (Ok count))
    → IsUnderWay g all left old next
one_more g all left s old now next count it step runs =
    let before = λ (clean : HasCleanDisk (state g next)). let k : HasCleanDisk (state g now) = omega (arith, step.clean) in k in
    let done = λ (clean : HasCleanDisk (state g next)). runs clean (it.mode (before clean)) in
    record {
      survives = survives_then (state g (begun old)) (state g now) (state g next) _ _ (λ _. ⊥) (λ _ db none. none) (λ _ db none. none) it.survives step;
      mode = λ clean. (done clean).1.mode;
      was_open = λ clean is_open. it.was_open (before clean) (done clean).1.was_open;
      committed = λ clean is_open. (done clean).1.committed_is ∙ it.committed (before clean) (done clean).1.was_open;
      ran = λ clean db rest. it.ran (before clean) db (next, count, done clean, rest);
      failed = λ clean end e rest. it.failed (before clean) end e (inr (next, count, done clean, rest));
      refused = λ clean e rest. it.refused (before clean) e (inr (next, count, done clean, step.limit, rest));
      stays = λ clean was. (done clean).1.is_open;
    }

abbrev pub nothing_lent : Lent
nothing_lent = record { sql = record { ref_ptr = (0, 0); now = [] }; params = record { ref_ptr = (0, 0); now = [] } }

pub first_left : (ss : List Lent) (i : ℕ) → i < length ss → map statement_of (drop i ss) ≡ statement_of (get_or ss i nothing_lent) ∷ map statement_of (drop (i + 1) ss)
first_left ss i below = at_drop_more (map statement_of) ss i nothing_lent below

pub none_left : (ss : List Lent) (i : ℕ) → length ss ≤ i → map statement_of (drop i ss) ≡ []
none_left ss i all = at_drop_all (map statement_of) ss i all

-- a crash in the commit leaves what was there before or what all statements made
pub committed_all : {S : Type 0} (g : Ghosts S) (all : List Statement) (old last new : Held S) → IsUnderWay g all [] old last
    → Survives (state g last) (state g new) (λ trees. trees ≡ (state g last).now.trees)
    → Survives (state g old) (state g new) (λ trees. (db : Database) × RanAll g all (begun old) db × (trees ≡ db.trees))
committed_all g all old last new it commit =
    let P = λ (trees : Trees). (db : Database) × RanAll g all (begun old) db × (trees ≡ db.trees) in
    survives_then (state g old) (state g last) (state g new) _ _ P (λ _ db none. absurd none)
    (λ clean trees is. let before : HasCleanDisk (state g last) = omega (arith, commit.clean) in ((state g last).now, it.ran before (state g last).now refl, is))
    (survives_begin g old (state g last) _ it.survives) commit

-- a statement that has run did so over an open connection
pub ran_open : {S : Type 0} (g : Ghosts S) (ss : List Statement) (h : Held S) (db : Database) → 0 < length ss → RanAll g ss h db → IsTrue (state g h).is_open
ran_open g [] h db some ran = absurd (omega arith)
ran_open g (s ∷ ss) h db some ran = ran.2.1.was_open

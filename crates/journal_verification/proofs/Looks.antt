-- What looking at a connection leaves of it.
use Rattle.std.proofs.Common.{◌≡◌, ℕ, ◌+◌, ◌<◌, List, [], ◌∷◌, ◌++◌, take, drop, get_or, length, false, Result, Some, IfOk, IfErr, refl, sym, ap, subst, ◌∙◌, arith}
use Rattle.std.specs.List.{AllByRecursion}
use Rattle.std.proofs.lemmas.List.{drop_more, take-append-drop, take_more}
use Rattle.std.proofs.lemmas.List.Elements.{All-from_recursion, All-nil}
use Rattle.sqlite.specs.Effect.{Database}
use Rattle.sqlite.proofs.StateLemmas.{survives_then}
use Rattle.sqlite_trees.proofs.ListLemmas.{all-append}
use Rattle.sqlite.specs.Order.{Row}
use Rattle.sqlite.specs.State.{State, HasCleanDisk, Survives, CommitsShowing, Shown}
use Rattle.sqlite.specs.Store.{Ghosts}
use Rattle.office_words.specs.declared.fault.Fault.{Fault}
use Rattle.office_rows.specs.Queries.{IsQuery}
use Rattle.office_rows.specs.Rows.{IsFaultOf}
use Rattle.office_rows.proofs.Queries.{rows_asked}
use Rattle.office_store.specs.Shown.{IsIdle}
use Rattle.office_store.proofs.Calls.{opened}
use Rattle.office_store.proofs.Committed.{survives_same}
use Rattle.journal_faults.specs.declared.difference.Difference.{Difference}
use Rattle.journal_faults.specs.declared.table.Table.{Table}
use Rattle.journal_faults.specs.declared.table.Table.TheVariants as table
use Rattle.journal_verification.specs.declared.table.TheConstants.{FURTHER}
use Rattle.journal_verification.specs.Looked.{HasLooked}
use Rattle.journal_verification.specs.Same.{DiffersFirst, HaveSame, HaveSameTables, TellsTable}

pub has_looked : (sql : List ℕ) → IsQuery sql → (params : Row) (old new : State) {X : Type 0} (items : X → List Row) (r : Result X Fault) → IsIdle old → (old.in_transaction ≡ false → new.in_transaction ≡ false)
    → (HasCleanDisk new → IfOk r (λ x. Shown sql params old new (items x))) → (HasCleanDisk new → IfErr r (IsFaultOf sql params old new)) → Survives old new (CommitsShowing sql params old) → HasLooked old new
has_looked sql query params old new items r idle mode rows fault survives =
    let asked = rows_asked sql query params old new items r rows fault survives in
    record {
      idle = record { autocommit = mode idle.autocommit; unlimited = asked.crash.limit ∙ idle.unlimited };
      clean = λ clean. let before : HasCleanDisk old = omega (arith, asked.crash.clean) in before;
      same = asked.same;
      shut = λ clean shut. (asked.shut clean shut).0;
      survives = asked.crash;
    }

-- ---- one look after another

pub looked_itself : (s : State) → IsIdle s → HasLooked s s
looked_itself s idle = record {
  idle = idle;
  clean = λ clean. clean;
  same = λ settled clean is_open. (refl, refl);
  shut = λ clean shut. shut;
  survives = survives_same s _;
}

pub looked_on : (old mid new : State) → HasLooked old mid → HasLooked mid new → HasLooked old new
looked_on old mid new first next = record {
  idle = next.idle;
  clean = λ clean. first.clean (next.clean clean);
  same = λ settled clean is_open.
      let kept = first.same settled (next.clean clean) (opened mid.is_open new.is_open is_open (next.shut clean)) in
      let between : mid.now ≡ mid.committed = kept.0 ∙ settled ∙ sym kept.1 in
      let last = next.same between clean is_open in
      (last.0 ∙ kept.0, last.1 ∙ kept.1);
  shut = λ clean shut. next.shut clean (first.shut (next.clean clean) shut);
  survives = survives_then old mid new (λ _. ⊥) (λ _. ⊥) (λ _. ⊥) (λ _ db none. none) (λ _ db none. none) first.survives next.survives;
}

module _ {S T : Type 0} (g : Ghosts S) (f : Ghosts T) where
  -- what is so of two databases as they are is so of them as they were
  pub told_since : (a b c d : Database) → a ≡ c → b ≡ d → (P : Database → Database → Type 0) → P a b → P c d
  told_since a b c d first second P h = subst (P c) second (subst (λ x. P x b) first h)

  pub one_more : (xs : List Table) (i : ℕ) (d : Table) (P : Table → Type 0) → i < length xs → AllByRecursion P (take i xs) → P (get_or xs i d) → AllByRecursion P (take (i + 1) xs)
  one_more xs i d P within all new = subst (AllByRecursion P) (sym (take_more xs i d within)) (all-append P (take i xs) (get_or xs i d ∷ []) all (new, tt))

  pub all_six : (a b : Database) → HaveSame g f table.Office a b → AllByRecursion (λ t. HaveSame g f t a b) FURTHER → HaveSameTables g f a b
  all_six a b office further table.Office = office
  all_six a b office further table.Users = further.0
  all_six a b office further table.Revisions = further.1.0
  all_six a b office further table.Votes = further.1.1.0
  all_six a b office further table.Baselines = further.1.1.1.0
  all_six a b office further table.Holds = further.1.1.1.1.0

  -- the table of the office is the first of all
  pub first_of_all : (a b : Database) (d : Difference) → TellsTable g f table.Office a b (Some d) → DiffersFirst g f a b d
  first_of_all a b d differs = record {
    before = [];
    table = table.Office;
    rest = FURTHER;
    parts = refl;
    same = All-nil (λ t. HaveSame g f t a b);
    differs = differs;
  }

  pub first_further : (a b : Database) (i : ℕ) (x : Table) (d : Difference) → i < length FURTHER → HaveSame g f table.Office a b → AllByRecursion (λ t. HaveSame g f t a b) (take i FURTHER)
      → TellsTable g f (get_or FURTHER i x) a b (Some d) → DiffersFirst g f a b d
  first_further a b i x d within office further differs = record {
    before = table.Office ∷ take i FURTHER;
    table = get_or FURTHER i x;
    rest = drop (i + 1) FURTHER;
    parts = ap (λ l. table.Office ∷ l) (sym (take-append-drop i FURTHER) ∙ ap (λ l. take i FURTHER ++ l) (drop_more FURTHER i x within));
    same = All-from_recursion (λ t. HaveSame g f t a b) (table.Office ∷ take i FURTHER) (office, further);
    differs = differs;
  }

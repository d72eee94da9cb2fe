-- Looking at two offices side by side.
use Rattle.std.proofs.Common.{inl, inr, ◌≡◌, ℕ, List, [], false, IsTrue, Option, None, Some, Result, Ok, Err, IfOk, IfErr, IsErrAnd, take, refl, sym, subst}
use Rattle.std.specs.List.{AllByRecursion}
use Rattle.std.specs.Prelude.{OnOk}
use Rattle.sqlite.specs.Effect.{Database}
use Rattle.sqlite.specs.Given.{HasBegun}
use Rattle.sqlite.specs.Held.{Held, state}
use Rattle.sqlite.specs.State.{State, CommitsShowing, HasCleanDisk, IsUnchanged, Survives}
use Rattle.sqlite.specs.Store.{Ghosts}
use Rattle.sqlite.proofs.Callers.{unchanged_then}
use Rattle.office_words.specs.declared.fault.Fault.{Fault}
use Rattle.office_words.specs.declared.fault.Fault.TheVariants.{NoMemory}
use Rattle.office_rows.specs.Causes.{HasFailed}
use Rattle.office_rows.specs.Queries.{IsQuery}
use Rattle.office_store.specs.Schema.{office_schema}
use Rattle.office_store.specs.Shown.{IsIdle}
use Rattle.office_store.proofs.Calls.{opened}
use Rattle.no_memory.specs.Witness.{witness}
use Rattle.journal_faults.specs.declared.difference.Difference.{Difference}
use Rattle.journal_faults.specs.declared.table.Table.{Table}
use Rattle.journal_faults.specs.declared.table.Table.TheVariants.{Office}
use Rattle.journal_verification.specs.declared.table.TheConstants.{FURTHER}
use Rattle.journal_verification.specs.Looked.{HasLooked}
use Rattle.journal_verification.specs.Reading.{IsAt, IsGiving}
use Rattle.journal_verification.specs.Same.{FaultsRowids, HaveSame, TellsRows, TellsTable}
use Rattle.journal_verification.specs.SideBySide.{ComparesBoth, LooksAtBoth}
use Rattle.journal_verification.specs.Texts.{rows_text}
use Rattle.journal_verification.proofs.Looks.{looked_on, told_since}
use Rattle.journal_verification.proofs.Queries.{rows_are_asked}
use Rattle.journal_verification.proofs.Readings.{begun, begun_looked, failed_since, failure_since, unchanged_since}

-- ---- what a result comes to

pub if_ok : {A E : Type 0} (P Q : Type 0) (r : Result A E) → OnOk r P → OnOk r Q → IfOk r (λ _. P × Q)
if_ok P Q (Ok a) p q = (p, q)
if_ok P Q (Err e) p q = tt

pub if_open : {A E C : Type 0} (P Q : Type 0) (r : Result A E) → (C → OnOk r P) → OnOk r Q → IfOk r (λ _. (C → P) × Q)
if_open P Q (Ok a) p q = (p, q)
if_open P Q (Err e) p q = tt

pub if_told : {A E C : Type 0} (P : Type 0) (Q : A → Type 0) (r : Result A E) → OnOk r P → (C → IfOk r Q) → IfOk r (λ a. P × (C → Q a))
if_told P Q (Ok a) p q = (p, q)
if_told P Q (Err e) p q = tt

pub if_known : {A E P : Type 0} (r : Result A E) → P → IfOk r (λ _. P)
if_known (Ok a) p = p
if_known (Err e) p = tt

pub on_ok : {A E : Type 0} (P : Type 0) (Q : A → Type 0) (r : Result A E) → IfOk r (λ a. P × Q a) → OnOk r P
on_ok P Q (Ok a) h = h.0
on_ok P Q (Err e) h = tt

pub told_then : {A E C : Type 0} (P : Type 0) (Q : A → Type 0) (r : Result A E) → IfOk r (λ a. P × (C → Q a)) → C → IfOk r Q
told_then P Q (Ok a) h c = h.1 c
told_then P Q (Err e) h c = tt

pub if_so : {A E : Type 0} (P Q : A → Type 0) → ((a : A) → P a → Q a) → (r : Result A E) → IfOk r P → IfOk r Q
if_so P Q more (Ok a) h = more a h
if_so P Q more (Err e) h = tt

pub wants_memory : (old new : State) (fault : Fault) → fault ≡ NoMemory witness → HasFailed old new fault
wants_memory old new fault is = subst (HasFailed old new) (sym is) tt

-- what leaves an open connection as it was does so where it is found open behind it
pub unchanged_on : (old mid new : State) → HasLooked old mid → HasLooked mid new → (HasCleanDisk mid → IsTrue old.is_open → IsUnchanged old mid) → (HasCleanDisk new → IsUnchanged mid new) → HasCleanDisk new → IsUnchanged old new
unchanged_on old mid new first next kept more clean =
    let before = next.clean clean in
    let on = more clean in
    unchanged_then old mid new (kept before (opened old.is_open mid.is_open on.0.was_open (first.shut before))) on

-- what is so of a table and of the rowids of its second is so of both
pub table_told : {S T : Type 0} (g : Ghosts S) (f : Ghosts T) (table : Table) (a b : Database) (r : Result (Option Difference) Fault) → TellsRows g f table a b None → IfOk r (FaultsRowids f table b) → IfOk r (TellsTable g f table a b)
table_told g f table a b (Ok None) rows rowids = record { rows = rows.0; in_first = rows.1; in_second = rows.2; rowids = rowids }
table_told g f table a b (Ok (Some d)) rows rowids = inr (rows, rowids)
table_told g f table a b (Err fault) rows rowids = tt

module _ {S T : Type 0} (g : Ghosts S) (f : Ghosts T) (old_built new_built : Held S) (old_office new_office : Held T) where
  -- something is found
  pub finds : {A : Type 0} {Giving : Type 0} {Built Office : A → Type 0} (a : A) → HasLooked (state g old_built) (state g new_built) → HasLooked (state f old_office) (state f new_office)
      → (HasCleanDisk (state g new_built) → Built a) → (HasCleanDisk (state f new_office) → Office a) → LooksAtBoth g f old_built new_built old_office new_office (Ok a) Giving Built Office
  finds a built office of_built of_office = record { built = built; office = office; of_built = of_built; of_office = of_office; cause = λ clean has giving. tt }

  -- it leaves with this fault
  pub fails : {A : Type 0} {Giving : Type 0} {Built Office : A → Type 0} (r : Result A Fault) (fault : Fault) → IsErrAnd r (λ e. e ≡ fault) → HasLooked (state g old_built) (state g new_built) → HasLooked (state f old_office) (state f new_office)
      → (HasCleanDisk (state f new_office) → (state f old_office).now.schema ≡ office_schema → Giving → HasFailed (state f old_office) (state f new_office) fault) → LooksAtBoth g f old_built new_built old_office new_office r Giving Built Office
  fails (Ok a) fault is built office cause = absurd is
  fails (Err e) fault is built office cause = record {
    built = built;
    office = office;
    of_built = λ clean. tt;
    of_office = λ clean. tt;
    cause = λ clean has giving. subst (HasFailed (state f old_office) (state f new_office)) (sym is) (cause clean has giving);
  }

-- so does a second look, behind one that changed nothing
module _ {S T : Type 0} (g : Ghosts S) (f : Ghosts T) {A : Type 0} {Given : Type 0} {Built Office : A → Type 0} (old_built mid_built new_built : Held S) (old_office mid_office new_office : Held T) (a : A)
    (first : LooksAtBoth g f old_built mid_built old_office mid_office (Ok a) Given Built Office) {B : Type 0} {Behind : Type 0} {More Again : B → Type 0} where
  pub then_finds : {C : Type 0} {Giving : Type 0} {Also Last : C → Type 0} (b : B) (x : C) → LooksAtBoth g f mid_built new_built mid_office new_office (Ok b) Behind More Again
      → (HasCleanDisk (state g new_built) → Also x) → (HasCleanDisk (state f new_office) → Last x) → LooksAtBoth g f old_built new_built old_office new_office (Ok x) Giving Also Last
  then_finds b x next =
      finds g f old_built new_built old_office new_office x (looked_on _ (state g mid_built) _ first.built next.built) (looked_on _ (state f mid_office) _ first.office next.office)

  pub then_fails : {C : Type 0} {Giving : Type 0} {Also Last : C → Type 0} (r : Result C Fault) (fault : Fault) → IsErrAnd r (λ e. e ≡ fault)
      → (HasCleanDisk (state f mid_office) → Giving → IsUnchanged (state f old_office) (state f mid_office) × Behind)
      → LooksAtBoth g f mid_built new_built mid_office new_office (Err fault) Behind More Again → LooksAtBoth g f old_built new_built old_office new_office r Giving Also Last
  then_fails r fault is goes next =
      fails g f old_built new_built old_office new_office r fault is (looked_on _ (state g mid_built) _ first.built next.built) (looked_on _ (state f mid_office) _ first.office next.office)
      (λ clean has giving.
      let still = goes (next.office.clean clean) giving in
      failed_since (state f old_office) (state f mid_office) (state f new_office) first.office still.0 fault
      (next.cause clean (subst (λ (d : Database). d.schema ≡ office_schema) (sym still.0.0.now_is) has) still.1))

-- ---- what is told of both

-- the first table is the same, and so many of those behind it
abbrev pub HaveSameUpTo : {S T : Type 0} → Ghosts S → Ghosts T → ℕ → Database → Database → Unit {0} → Type 0
HaveSameUpTo g f i a b _ = HaveSame g f Office a b × AllByRecursion (λ t. HaveSame g f t a b) (take i FURTHER)

module _ {S T : Type 0} (g : Ghosts S) (f : Ghosts T) {A C : Type 0} (P : Database → Database → A → Type 0) (R : Database → Database → C → Type 0) where
  -- what was told says as much in other words
  pub compares_as : (old_built new_built : Held S) (old_office new_office : Held T) (a : A) (x : C) → ComparesBoth g f old_built new_built old_office new_office (Ok a) P
      → (P (state g old_built).now (state f old_office).now a → R (state g old_built).now (state f old_office).now x) → ComparesBoth g f old_built new_built old_office new_office (Ok x) R
  compares_as old_built new_built old_office new_office a x looks more =
      finds g f old_built new_built old_office new_office x looks.built looks.office looks.of_built (λ clean. ((looks.of_office clean).0, λ early. more ((looks.of_office clean).1 early)))

  -- with what is told of both behind it
  pub compares_on : {B : Type 0} (Q : Database → Database → B → Type 0) (old_built mid_built new_built : Held S) (old_office mid_office new_office : Held T) (a : A) (b : B) (x : C)
      → ComparesBoth g f old_built mid_built old_office mid_office (Ok a) P → ComparesBoth g f mid_built new_built mid_office new_office (Ok b) Q
      → (P (state g old_built).now (state f old_office).now a → Q (state g old_built).now (state f old_office).now b → R (state g old_built).now (state f old_office).now x)
      → ComparesBoth g f old_built new_built old_office new_office (Ok x) R
  compares_on Q old_built mid_built new_built old_office mid_office new_office a b x first next more =
      then_finds g f old_built mid_built new_built old_office mid_office new_office a first b x next
      (λ clean. unchanged_then _ (state g mid_built) _ (first.of_built (next.built.clean clean)) (next.of_built clean))
      (λ clean.
      let was = first.of_office (next.office.clean clean) in (
        unchanged_then _ (state f mid_office) _ was.0 (next.of_office clean).0,
        λ early.
            let before = next.built.clean early in
            more (was.1 before)
            (told_since g f (state g mid_built).now (state f mid_office).now (state g old_built).now (state f old_office).now (first.of_built before).0.now_is was.0.0.now_is (λ d e. Q d e b) ((next.of_office clean).1 early)),
      ))

-- ---- what begins with a query

-- the rows of a table are asked for
pub rows_begun : {S : Type 0} (g : Ghosts S) (x : Table) (sql : List ℕ) → sql ≡ rows_text x → (old new : Held S) → IsIdle (state g old) → (old.in_transaction ≡ false → new.in_transaction ≡ false) → (HasCleanDisk (state g new) → HasBegun g sql [] old new)
    → Survives (state g old) (state g new) (CommitsShowing sql [] (state g old)) → HasLooked (state g old) (state g new) × (HasCleanDisk (state g new) → IsAt g (rows_text x) new [] × IsUnchanged (state g old) (state g new))
rows_begun g x sql is old new idle mode has survives =
    let query = subst IsQuery (sym is) (rows_are_asked x) in (
      begun_looked g sql query old new idle mode has survives,
      λ clean. let start = begun g sql query old new (has clean) in (subst (λ s. IsAt g s new []) is start.0, start.1),
    )

module _ {S T : Type 0} (g : Ghosts S) (f : Ghosts T) (x : Table) (r : Result (Option Difference) Fault) where
  pub begun_office : (built left : Held S) (old mid new : Held T) → HasLooked (state f old) (state f mid) → (HasCleanDisk (state f mid) → IsAt f (rows_text x) mid [] × IsUnchanged (state f old) (state f mid))
      → LooksAtBoth g f built left mid new r (IsGiving f mid) (λ _. IsUnchanged (state g built) (state g left)) (λ d. IsUnchanged (state f mid) (state f new)
      × (HasCleanDisk (state g left) → IsAt g (rows_text x) built [] → IsAt f (rows_text x) mid [] → TellsRows g f x (state g built).now (state f mid).now d))
      → ComparesBoth g f built left old new r (λ a b d. IsAt g (rows_text x) built [] → TellsRows g f x a b d)
  begun_office built left old mid new first begins next = record {
    built = next.built;
    office = looked_on _ (state f mid) _ first next.office;
    of_built = next.of_built;
    of_office = λ clean.
        let start = begins (next.office.clean clean) in
        if_so _ _ (λ d told. (unchanged_then _ (state f mid) _ start.1 told.0, λ early at. subst (λ (b : Database). TellsRows g f x (state g built).now b d) start.1.0.now_is (told.1 early at start.0))) r (next.of_office clean);
    cause = λ clean has giving.
        let start = begins (next.office.clean clean) in
        failure_since (state f old) (state f mid) (state f new) first start.1 r (next.cause clean (subst (λ (d : Database). d.schema ≡ office_schema) (sym start.1.0.now_is) has) (rows_text x, (x, inl refl), [], start.0));
  }

  pub begun_built : (old mid new : Held S) (office left : Held T) → HasLooked (state g old) (state g mid) → (HasCleanDisk (state g mid) → IsAt g (rows_text x) mid [] × IsUnchanged (state g old) (state g mid))
      → ComparesBoth g f mid new office left r (λ a b d. IsAt g (rows_text x) mid [] → TellsRows g f x a b d) → ComparesBoth g f old new office left r (TellsRows g f x)
  begun_built old mid new office left first begins next = record {
    built = looked_on _ (state g mid) _ first next.built;
    office = next.office;
    of_built = λ clean. if_so _ _ (λ d same. unchanged_then _ (state g mid) _ (begins (next.built.clean clean)).1 same) r (next.of_built clean);
    of_office = λ clean.
        if_so _ _ (λ d told. (told.0, λ early. let start = begins (next.built.clean early) in subst (λ (a : Database). TellsRows g f x a (state f office).now d) start.1.0.now_is (told.1 early start.0))) r (next.of_office clean);
    cause = next.cause;
  }

  -- the rowids of an office whose rows are the same
  pub rowids_behind : (built left : Held S) (old mid new : Held T) (d : Option Difference) → d ≡ None → ComparesBoth g f built left old mid (Ok d) (TellsRows g f x) → HasLooked (state f mid) (state f new) → (HasCleanDisk (state f new) → IfOk r (FaultsRowids f x (state f mid).now))
      → (HasCleanDisk (state f new) → OnOk r (IsUnchanged (state f mid) (state f new))) → (HasCleanDisk (state f new) → (state f mid).now.schema ≡ office_schema → IfErr r (HasFailed (state f mid) (state f new)))
      → ComparesBoth g f built left old new r (TellsTable g f x)
  rowids_behind built left old mid new d none first looked rowids unchanged cause = record {
    built = first.built;
    office = looked_on _ (state f mid) _ first.office looked;
    of_built = λ clean. if_known r (first.of_built clean);
    of_office = λ clean.
        let was = first.of_office (looked.clean clean) in
        if_told _ _ r (unchanged_since (state f old) (state f mid) (state f new) first.office was.0 r (unchanged clean))
        (λ early. table_told g f x (state g built).now (state f old).now r (subst (TellsRows g f x (state g built).now (state f old).now) none (was.1 early)) (subst (λ (d : Database). IfOk r (FaultsRowids f x d)) was.0.0.now_is (rowids clean)));
    cause = λ clean has giving.
        let was = (first.of_office (looked.clean clean)).0 in
        failure_since (state f old) (state f mid) (state f new) first.office was r (cause clean (subst (λ (d : Database). d.schema ≡ office_schema) (sym was.0.now_is) has));
  }

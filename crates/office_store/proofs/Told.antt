-- What is read of the rows that a query found, and why a row isn't read.
use Rattle.std.proofs.Common.{inl, inr, ◌≡◌, ◌≢◌, ℕ, List, [], ◌∷◌, Option, None, Some, Result, Ok, Err, IfOk, IfErr, Bool, false, sym, ap, ◌∙◌, subst}
use Rattle.std.specs.Prelude.{is_some, map}
use Rattle.sqlite.specs.Order.{Row}
use Rattle.sqlite.specs.State.{State, HasCleanDisk, Survives, CommitsShowing, Shown}
use Rattle.sqlite.proofs.StateLemmas.{survives_weaker}
use Rattle.office_words.specs.declared.fault.Fault.{Fault}
use Rattle.office_words.specs.declared.fault.Fault.TheVariants.{NoMemory, NotAnOffice}
use Rattle.office_words.specs.Tables.{Tables}
use Rattle.office_rows.specs.Faults.{FindsRow}
use Rattle.office_rows.specs.Rows.{IsFaultOf}
use Rattle.office_rows.specs.Told.{IsOfRow, IsTold, TellsOne, TellsOnly, TellsWhether, TellsAll, TellsRow, TellsRows, FindsRows, map_ok}
use Rattle.office_store.specs.Shown.{IsIdle, Shows}
use Rattle.office_store.specs.Calls.{IsRead}
use Rattle.office_store.proofs.RowsOf.{IsRowOf, AreRowsOf}
use Rattle.office_store.proofs.Calls.{Settles, Asks, leaves_only, read_told, first_read, rows_read}
use Rattle.no_memory.specs.Witness.{witness}

-- a reading of a row of the form fails only for no memory
pub only_memory : {A : Type 0} (r : Result A Fault) → r ≢ Err NotAnOffice → IfErr r IsOfRow → IfErr r (λ f. f ≡ NoMemory witness)
only_memory (Ok a) other cause = tt
only_memory (Err f) other (inl memory) = memory
only_memory (Err f) other (inr named) = absurd (other (ap Err named))

-- rows that tell their values tell the lists apart
same_list : {X : Type 0} (f : X → Row) → ((x y : X) → f x ≡ f y → x ≡ y) → (xs ys : List X) → map f xs ≡ map f ys → xs ≡ ys
same_list f one [] [] same = λ _. []
same_list f one [] (y ∷ ys) same = absurd cc
same_list f one (x ∷ xs) [] same = absurd cc
same_list f one (x ∷ xs) (y ∷ ys) same =
    let head : f x ≡ f y = cc in
    let tail : map f xs ≡ map f ys = cc in
    λ i. one x y head i ∷ same_list f one xs ys tail i

-- ---- what is told of what was found

-- whether a row was found
whether_told : (old new : State) (Found : Tables → Bool → Type 0) (row : Result (Option Row) Fault) (r : Result Bool Fault) → IsRead old new row (λ t o. Found t (is_some o)) → IsTold TellsWhether row r
    → IsRead old new r Found
whether_told old new Found row r read told =
    read_told TellsWhether old new (λ t o. Found t (is_some o)) Found row r read told (λ t shows o found a tells. subst (Found t) (let same : is_some o ≡ a = cc in same) found) (λ t shows o found f tells. absurd cc)

module _ {X : Type 0} (encode : X → Row) (IsFormed : X → Type 0) where
  -- the first row was told as the value that it stands for
  value_told : ((x y : X) → encode x ≡ encode y → x ≡ y) → (old new : State) (Found : Tables → Option X → Type 0) (row : Result (Option Row) Fault) (r : Result (Option X) Fault)
      → IsRead old new row (λ t. IsRowOf encode IsFormed (Found t)) → IsTold (TellsOne encode IsFormed) row r → IsRead old new r Found
  value_told one old new Found row r read told = read_told (TellsOne encode IsFormed) old new (λ t. IsRowOf encode IsFormed (Found t)) Found row r read told each never
    where
      each : (t : Tables) → Shows old t → (o : Option Row) → IsRowOf encode IsFormed (Found t) o → (a : Option X) → TellsOne encode IsFormed o (Ok a) → Found t a
      each t shows None found a tells = let same : a ≡ None = cc in subst (Found t) (sym same) found
      each t shows (Some row) it (Some y) tells = subst (λ (x : X). Found t (Some x)) (one it.0 y (sym it.2 ∙ tells)) it.3
      each t shows (Some row) it None tells = absurd tells

      never : (t : Tables) → Shows old t → (o : Option Row) → IsRowOf encode IsFormed (Found t) o → (f : Fault) → TellsOne encode IsFormed o (Err f) → f ≡ NoMemory witness
      never t shows None found f tells = absurd cc
      never t shows (Some row) it f (inl memory) = memory
      never t shows (Some row) it f (inr unread) = absurd (unread.1 it.0 it.1 it.2)

  -- all rows were told as the values that they stand for
  values_told : {W : Type 0} (items_of : W → List X) → ((x y : X) → encode x ≡ encode y → x ≡ y) → (old new : State) (Found : Tables → List X → Type 0) (rows : Result (List Row) Fault) (r : Result W Fault)
      → IsRead old new rows (λ t. AreRowsOf encode IsFormed (Found t)) → IsTold (TellsAll encode IsFormed) rows (map_ok r items_of) → IsRead old new r (λ t w. Found t (items_of w))
  values_told {W} items_of one old new Found rows r read told =
      read_told Tells old new (λ t. AreRowsOf encode IsFormed (Found t)) (λ t w. Found t (items_of w)) rows r read (each rows r told)
      (λ t shows v it w tells. subst (Found t) (same_list encode one it.values (items_of w) (sym it.rows_are ∙ tells)) it.these)
      never
    where
      Tells : List Row → Result W Fault → Type 0
      Tells v s = TellsAll encode IsFormed v (map_ok s items_of)

      each : (rows : Result (List Row) Fault) (r : Result W Fault) → IsTold (TellsAll encode IsFormed) rows (map_ok r items_of) → IsTold Tells rows r
      each (Ok v) r told = told
      each (Err e) (Ok w) told = absurd cc
      each (Err e) (Err f) told = let same : f ≡ e = cc in ap Err same

      never : (t : Tables) → Shows old t → (v : List Row) → AreRowsOf encode IsFormed (Found t) v → (f : Fault) → Tells v (Err f) → f ≡ NoMemory witness
      never t shows v it f (inl memory) = memory
      never t shows v it f (inr unread) = absurd (unread.1 it.values it.formed it.rows_are)

  -- the same of a row that is always there
  pub only_read : (old new : State) (FoundRow : Tables → Option Row → Type 0) (Found : Tables → X → Type 0) (row : Result (Option Row) Fault) (r : Result X Fault) → IsRead old new row FoundRow
      → IsTold (TellsOnly encode IsFormed) row r
      → ((t : Tables) → Shows old t → FoundRow t None → ⊥)
      → ((t : Tables) → Shows old t → (w : Row) → FoundRow t (Some w) → (x : X) × IsFormed x × (w ≡ encode x) × ((y : X) → w ≡ encode y → Found t y))
      → IsRead old new r Found
  only_read old new FoundRow Found row r read told none some = read_told (TellsOnly encode IsFormed) old new FoundRow Found row r read told each never
    where
      each : (t : Tables) → Shows old t → (o : Option Row) → FoundRow t o → (a : X) → TellsOnly encode IsFormed o (Ok a) → Found t a
      each t shows None found a tells = absurd (none t shows found)
      each t shows (Some w) found a tells = (some t shows w found).3 a tells

      never : (t : Tables) → Shows old t → (o : Option Row) → FoundRow t o → (f : Fault) → TellsOnly encode IsFormed o (Err f) → f ≡ NoMemory witness
      never t shows None found f tells = absurd (none t shows found)
      never t shows (Some w) found f (inl memory) = memory
      never t shows (Some w) found f (inr unread) = let it = some t shows w found in absurd (unread.1 it.0 it.1 it.2)

-- ---- a query and what is told of it

-- what a read promises where the disk is clean it promises
clean_read : {A : Type 0} (old new : State) (r : Result A Fault) (Found : Tables → A → Type 0) → IsIdle old → new.in_transaction ≡ false → Settles new → (sql : List ℕ) (params : Row)
    → Survives old new (CommitsShowing sql params old) → (HasCleanDisk new → IsRead old new r Found) → IsRead old new r Found
clean_read old new r Found idle mode law sql params survives read = record {
  leaves = record {
    idle = record { autocommit = mode; unlimited = survives.limit ∙ idle.unlimited };
    clean = λ clean. (read clean).leaves.clean clean;
    survives = survives_weaker old new _ _ (λ _ trees left. tt) survives;
    answered = λ clean. (read clean).leaves.answered clean;
    shut = λ clean. (read clean).leaves.shut clean;
    settled = leaves_only new law;
  };
  found = λ t shows clean. (read clean).found t shows clean;
  cause = λ t shows clean. (read clean).cause t shows clean;
  shown = λ t shows clean. (read clean).shown t shows clean;
  same = λ settled clean. (read clean).same settled clean;
  crash = λ clean. (read clean).crash clean;
}

rows_shown : (sql : List ℕ) (params : Row) (old new : State) (rows : Result (List Row) Fault) → FindsRows sql params old new rows → IfOk rows (λ x. Shown sql params old new x)
rows_shown sql params old new (Ok rows) shown = shown
rows_shown sql params old new (Err f) fault = tt

rows_failed : (sql : List ℕ) (params : Row) (old new : State) (rows : Result (List Row) Fault) → FindsRows sql params old new rows → IfErr rows (IsFaultOf sql params old new)
rows_failed sql params old new (Ok rows) shown = tt
rows_failed sql params old new (Err f) fault = fault

module _ (sql : List ℕ) (given params : Row) (asks : Asks sql params) (old new : State) (idle : IsIdle old) (mode : old.in_transaction ≡ false → new.in_transaction ≡ false) (law : Settles new)
    (survives : Survives old new (CommitsShowing sql given old)) (are : given ≡ params) where
  pub any_read : (Found : Tables → Bool → Type 0) (r : Result Bool Fault) → (HasCleanDisk new → TellsRow sql given old new TellsWhether r)
      → ((t : Tables) → Shows old t → (row : Result (Option Row) Fault) → FindsRow sql params old new row → IfOk row (λ o. Found t (is_some o))) → IsRead old new r Found
  any_read Found r told finds = clean_read old new r Found idle (mode idle.autocommit) law sql given survives (λ clean.
      let it = told clean in
      whether_told old new Found it.row r (first_read sql asks.query given params old new it.row (λ t o. Found t (is_some o)) idle mode law survives (λ _. it.found) are asks.sure (λ t shows. finds t shows it.row)) it.told)

  module _ {X : Type 0} (encode : X → Row) (IsFormed : X → Type 0) (one : (x y : X) → encode x ≡ encode y → x ≡ y) where
    pub value_read : (Found : Tables → Option X → Type 0) (r : Result (Option X) Fault) → (HasCleanDisk new → TellsRow sql given old new (TellsOne encode IsFormed) r)
        → ((t : Tables) → Shows old t → (row : Result (Option Row) Fault) → FindsRow sql params old new row → IfOk row (IsRowOf encode IsFormed (Found t))) → IsRead old new r Found
    value_read Found r told finds = clean_read old new r Found idle (mode idle.autocommit) law sql given survives (λ clean.
        let it = told clean in
        value_told encode IsFormed one old new Found it.row r
        (first_read sql asks.query given params old new it.row (λ t. IsRowOf encode IsFormed (Found t)) idle mode law survives (λ _. it.found) are asks.sure (λ t shows. finds t shows it.row)) it.told)

    pub values_read : {W : Type 0} (items_of : W → List X) (Found : Tables → List X → Type 0) (r : Result W Fault) → (HasCleanDisk new → TellsRows sql given old new (TellsAll encode IsFormed) (map_ok r items_of))
        → ((t : Tables) → Shows old t → (rows : Result (List Row) Fault) → IfOk rows (λ x. Shown sql params old new x) → IfOk rows (AreRowsOf encode IsFormed (Found t))) → IsRead old new r (λ t w. Found t (items_of w))
    values_read items_of Found r told finds = clean_read old new r (λ t w. Found t (items_of w)) idle (mode idle.autocommit) law sql given survives (λ clean.
        let it = told clean in
        values_told encode IsFormed items_of one old new Found it.rows r
        (rows_read (λ x. x) sql given params asks old new it.rows (λ t. AreRowsOf encode IsFormed (Found t)) idle mode law survives (λ _. rows_shown sql given old new it.rows it.found)
        (λ _. rows_failed sql given old new it.rows it.found) are (λ t shows. finds t shows it.rows)) it.told)

-- Rowids that rise, row after row.
use Rattle.std.proofs.Common.{◌≡◌, ◌↔◌, ℤ, Bool, true, false, List, [], ◌∷◌, ◌++◌, IsTrue, Less, refl, sym, subst}
use Rattle.std.specs.List.{AllByRecursion}
use Rattle.sqlite.specs.declared.types.Value.TheVariants.{Int}
use Rattle.sqlite.specs.Effect.{Database}
use Rattle.sqlite.specs.Order.{Row}
use Rattle.sqlite.specs.Store.{Ghosts}
use Rattle.sqlite_value.specs.Order.{value_cmp}
use Rattle.sqlite_value.proofs.OrderLemmas.{value_cmp_total}
use Rattle.sqlite_trees.specs.Tree.{IsAscending, rowid}
use Rattle.sqlite_trees.specs.View.{is_int, IsShaped}
use Rattle.sqlite_trees.specs.declared.store.Shape.TheVariants.{Table}
use Rattle.sqlite_trees.proofs.ListLemmas.{all-append, ascending-append}
use Rattle.journal_verification.specs.declared.rows.Rising.TheVariants as rising
use Rattle.journal_faults.specs.declared.table.Table.{Table as TableOf}
use Rattle.journal_verification.specs.Rising.{EndsWith, IsTold}
use Rattle.journal_verification.specs.Same.{IsAnsweredBy, TellsRowids}
use Rattle.journal_verification.specs.Texts.{rowids_text}

abbrev Below : Row → Row → Type 0
Below a b = value_cmp (rowid a) (rowid b) ≡ Less

abbrev HasRowid : Row → Type 0
HasRowid row = IsTrue (is_int (rowid row))

-- ---- a list with one more element

all_parts : {X : Type 0} (P : X → Type 0) (xs : List X) (y : X) → AllByRecursion P (xs ++ y ∷ []) → AllByRecursion P xs × P y
all_parts P [] y all = (tt, all.0)
all_parts P (x ∷ xs) y all = let more = all_parts P xs y all.1 in ((all.0, more.0), more.1)

-- the others ascend, and each is before it
ascending_parts : {X : Type 0} (R : X → X → Type 0) (xs : List X) (y : X) → IsAscending R (xs ++ y ∷ []) → IsAscending R xs × AllByRecursion (λ x. R x y) xs
ascending_parts R [] y up = (tt, tt)
ascending_parts R (x ∷ xs) y up =
    let first = all_parts (R x) xs y up.0 in
    let more = ascending_parts R xs y up.1 in
    ((first.0, more.0), (first.1, more.1))

alone_before : (rows : List Row) (row : Row) → AllByRecursion (λ x. Below x row) rows → AllByRecursion (λ x. AllByRecursion (Below x) (row ∷ [])) rows
alone_before [] row all = tt
alone_before (x ∷ rows) row all = ((all.0, tt), alone_before rows row all.1)

further : (rows : List Row) (last row : Row) → Below last row → AllByRecursion (λ x. Below x last) rows → AllByRecursion (λ x. Below x row) rows
further [] last row above all = tt
further (x ∷ rows) last row above all = (value_cmp_total.trans _ _ _ all.0 above, further rows last row above all.1)

-- ---- rows with one more

int_is : (row : Row) (id : ℤ) → rowid row ≡ Int id → HasRowid row
int_is row id is = subst (λ v. IsTrue (is_int v)) (sym is) refl

shaped_front : (rows : List Row) (row : Row) → IsShaped Table (rows ++ row ∷ []) → IsShaped Table rows
shaped_front rows row shaped = ((ascending_parts Below rows row shaped.0).0, (all_parts HasRowid rows row shaped.1).0)

pub no_rowid : (rows : List Row) (row : Row) → is_int (rowid row) ≡ false → IsShaped Table (rows ++ row ∷ []) → ⊥
no_rowid rows row none shaped = let has = (all_parts HasRowid rows row shaped.1).1 in absurd (let k = rw none at has in cc)

pub first_rowid : (rows : List Row) (row : Row) (id : ℤ) → rows ≡ [] → rowid row ≡ Int id → IsTold (rows ++ row ∷ []) (rising.UpTo id)
first_rowid rows row id none is = subst (λ (l : List Row). IsTold (l ++ row ∷ []) (rising.UpTo id)) (sym none) (((tt, tt), (int_is row id is, tt)), record { before = []; last = row; parts = refl; has = is })

last_below : (rows : List Row) (before : ℤ) (row : Row) (ends : EndsWith rows before) → IsShaped Table (rows ++ row ∷ []) → value_cmp (Int before) (rowid row) ≡ Less
last_below rows before row ends shaped =
    let up : IsAscending Below ((ends.before ++ ends.last ∷ []) ++ row ∷ []) = subst (λ (l : List Row). IsAscending Below (l ++ row ∷ [])) ends.parts shaped.0 in
    let all = (ascending_parts Below (ends.before ++ ends.last ∷ []) row up).1 in
    let below = (all_parts (λ x. Below x row) ends.before ends.last all).1 in
    subst (λ v. value_cmp v (rowid row) ≡ Less) ends.has below

pub next_rowid : (rows : List Row) (before id : ℤ) (row : Row) → IsShaped Table rows → EndsWith rows before → value_cmp (Int before) (rowid row) ≡ Less → rowid row ≡ Int id
    → IsTold (rows ++ row ∷ []) (rising.UpTo id)
next_rowid rows before id row shaped ends above is =
    let last : Below ends.last row = subst (λ v. value_cmp v (rowid row) ≡ Less) (sym ends.has) above in
    let up : IsAscending Below (ends.before ++ ends.last ∷ []) = subst (IsAscending Below) ends.parts shaped.0 in
    let front = further ends.before ends.last row last (ascending_parts Below ends.before ends.last up).1 in
    let all : AllByRecursion (λ x. Below x row) rows = subst (AllByRecursion (λ x. Below x row)) (sym ends.parts) (all-append (λ x. Below x row) ends.before (ends.last ∷ []) front (last, tt)) in (
      (
        ascending-append Below rows (row ∷ []) shaped.0 (tt, tt) (alone_before rows row all),
        all-append HasRowid rows (row ∷ []) shaped.1 (int_is row id is, tt),
      ),
      record { before = rows; last = row; parts = refl; has = is },
    )

pub not_above : (rows : List Row) (before : ℤ) (row : Row) → EndsWith rows before → (value_cmp (Int before) (rowid row) ≡ Less → ⊥) → IsShaped Table (rows ++ row ∷ []) → ⊥
not_above rows before row ends low shaped = low (last_below rows before row ends shaped)

pub still_fallen : (rows : List Row) (row : Row) → (IsShaped Table rows → ⊥) → IsShaped Table (rows ++ row ∷ []) → ⊥
still_fallen rows row fall shaped = fall (shaped_front rows row shaped)

-- ---- of all rows

pub tells_rowids : {S : Type 0} (g : Ghosts S) (table : TableOf) (db : Database) (rows : List Row) (b : Bool) → IsAnsweredBy g (rowids_text table) db rows → (IsTrue b ↔ IsShaped Table rows) → TellsRowids g table db b
tells_rowids g table db rows true answered rise = record { rowids = rows; answered = answered; rising = rise.0 refl }
tells_rowids g table db rows false answered rise = record { rowids = rows; answered = answered; fall = λ shaped. let k = rise.1 shaped in absurd cc }

-- The trees of a database list one schema, so that what was an office is one when its trees are found again.
use Rattle.std.proofs.Common.{inl, inr, ◌≡◌, ◌⊎◌, ◌+◌, ℕ, pos, IsTrue, List, [], ◌∷◌, false, refl, sym, ap, subst, ◌∙◌, arith, slice_get, codes}
use Rattle.std.specs.Prelude.{filter}
use Rattle.std.specs.List.{AllZip}
use Rattle.std.specs.Fmt.{decimal}
use Rattle.std.proofs.lemmas.Fmt.{decimal_injective}
use Rattle.std.proofs.lemmas.List.{append_cancel_left}
use Rattle.sqlite_value.specs.declared.value.Value.{Value}
use Rattle.sqlite_value.specs.declared.value.Value.TheVariants.{Null, Int, Real, Text, Blob}
use Rattle.sqlite_value.specs.Order.{Row, column}
use Rattle.sqlite_schema.specs.declared.schema.Table.{Table}
use Rattle.sqlite_schema.specs.declared.schema.Index.{Index}
use Rattle.sqlite_schema.specs.declared.schema.Schema.{Schema}
use Rattle.sqlite_schema.specs.Names.{same_name}
use Rattle.sqlite_rules.specs.Lists.{Has}
use Rattle.sqlite_rules.proofs.ListLemmas.{all_has}
use Rattle.sqlite_trees.specs.Tree.{Trees, IsAscending, rowid}
use Rattle.sqlite_trees.specs.Objects.{catalog_tree}
use Rattle.sqlite_catalog.specs.Listing.{IsTableRow, IsIndexRow, IsViewRow, IsDefined, automatic, IsSound, is_index_row}
use Rattle.sqlite_resolve.specs.Compile.{table_defined_by}
use Rattle.sqlite_catalog.proofs.StepLemmas.{same_itself}
use Rattle.sqlite.specs.Effect.{Database, IsDatabase}
use Rattle.sqlite.specs.Closing.{IsCopied}
use Rattle.sqlite.specs.Files.{file_state, image_of, IsOpened, HoldsDatabase}
use Rattle.sqlite.specs.Held.{Held}
use Rattle.sqlite.specs.Start.{FindsIn}
use Rattle.sqlite.specs.State.{State, Opens, IsLive}
use Rattle.sqlite.proofs.Theorems.{opens_again}
use Rattle.sqlite_disk.specs.declared.Disk.{Ghosts}
use Rattle.sqlite_disk.specs.declared.Files.{Files}
use Rattle.sqlite_store.specs.declared.store.FileStore.{FileStore}
use Rattle.sqlite_store.specs.FileStore as files
use Rattle.sqlite_store.specs.Laws.{settled_at}
use Rattle.sqlite_trees.specs.Props.{Trees-set}
use Rattle.sqlite_wal.specs.Files.{outcomes}
use Rattle.sqlite_wal.specs.Recovery.{Image}
use Rattle.sqlite_wal.proofs.LogLemmas.{SeenMayStay}
use Rattle.std.proofs.Math.Logic.{∥∥₁_elim, ∥∥₁_map}
use Rattle.office_words.specs.Tables.{Tables}
use Rattle.office_store.specs.Schema.{office_schema, old_schema}
use Rattle.office_store.specs.Shown.{IsOffice, AreOffice, Shows}
use Rattle.office_founding.specs.Migration.{IsOldOffice, AreOldOffice, ShowsOld}
use Rattle.office_founding.specs.Reopening.{HoldsOffice, HoldsOldOffice}
use Rattle.office_store.proofs.Committed.{trees_of}

zipped_one : {A B : Type 0} (R : A → B → Type 0) → ((a : A) (x y : B) → R a x → R a y → x ≡ y) → (rows : List A) (xs ys : List B) → AllZip R rows xs → AllZip R rows ys → xs ≡ ys
zipped_one R one [] [] [] p q = refl
zipped_one R one [] [] (y ∷ ys) p q = absurd q
zipped_one R one [] (x ∷ xs) ys p q = absurd p
zipped_one R one (a ∷ rows) [] ys p q = absurd p
zipped_one R one (a ∷ rows) (x ∷ xs) [] p q = absurd q
zipped_one R one (a ∷ rows) (x ∷ xs) (y ∷ ys) p q = λ i. one a x y p.0 q.0 i ∷ zipped_one R one rows xs ys p.1 q.1 i

none_zipped : {A B : Type 0} (R : A → B → Type 0) (rows : List A) (xs ys : List B) → xs ≡ [] → AllZip R rows xs → AllZip R rows ys → xs ≡ ys
none_zipped R [] xs [] is p q = is
none_zipped R [] xs (y ∷ ys) is p q = absurd q
none_zipped R (a ∷ rows) xs ys is p q = absurd (rw is at p)

same_tree : (row : Row) (m n : ℕ) → rowid row ≡ Int (pos (m + 1)) → rowid row ≡ Int (pos (n + 1)) → m ≡ n
same_tree row m n p q =
    let k : Int (pos (m + 1)) ≡ Int (pos (n + 1)) = sym p ∙ q in
    let e : m + 1 ≡ n + 1 = cc in
    omega (arith, e)

same_text : (v : Value) (a b : List ℕ) → v ≡ Text a → v ≡ Text b → a ≡ b
same_text v a b p q = let k : Text a ≡ Text b = sym p ∙ q in let e : a ≡ b = cc in e

one_table : (row : Row) (a b : Table) → IsTableRow row a → IsTableRow row b → a ≡ b
one_table row a b p q =
    let tree = same_tree row a.tree b.tree p.described.id q.described.id in
    let sql = same_text (column row 4) p.sql q.sql p.sql_is q.sql_is in
    let made = sym p.defined.1 ∙ ap table_defined_by sql ∙ q.defined.1 in
    let same : p.defined.0 ≡ q.defined.0 = cc in
    p.defined.2 ∙ (λ i. record (same i) { tree = tree i }) ∙ sym q.defined.2

named_once : (tables : List Table) (s t : Table) → IsAscending (λ (a b : Table). same_name a.name b.name ≡ false) tables → Has tables s → Has tables t → s.name ≡ t.name → s ≡ t
named_once [] s t apart h k same = absurd h
named_once (u ∷ tables) s t apart (inl h) (inl k) same = h ∙ sym k
named_once (u ∷ tables) s t apart (inl h) (inr k) same =
    let no = all_has (λ (x : Table). same_name u.name x.name ≡ false) tables t apart.0 k in
    let is : u.name ≡ t.name = ap (λ (x : Table). x.name) (sym h) ∙ same in
    absurd (let e = sym (same_itself t.name) ∙ subst (λ n. same_name n t.name ≡ false) is no in cc)
named_once (u ∷ tables) s t apart (inr h) (inl k) same =
    let no = all_has (λ (x : Table). same_name u.name x.name ≡ false) tables s apart.0 h in
    let is : u.name ≡ s.name = ap (λ (x : Table). x.name) (sym k) ∙ sym same in
    absurd (let e = sym (same_itself s.name) ∙ subst (λ n. same_name n s.name ≡ false) is no in cc)
named_once (u ∷ tables) s t apart (inr h) (inr k) same = named_once tables s t apart.1 h k same

defined_once : (t : Table) (i j : Index) (v : Value) → IsDefined t i v → IsDefined t j v → i.name ≡ j.name → i.tree ≡ j.tree → i ≡ j
defined_once t i j Null (at, key, got, is, low) (at2, key2, got2, is2, low2) name tree =
    let names = ap (λ (x : Index). x.name) (sym is) ∙ name ∙ ap (λ (x : Index). x.name) is2 in
    let third = append_cancel_left (codes "_") (decimal (at + 1)) (decimal (at2 + 1)) (append_cancel_left t.name _ _ (append_cancel_left (codes "sqlite_autoindex_") _ _ names)) in
    let next = decimal_injective (at + 1) (at2 + 1) (omega (arith, low)) (omega (arith, low2)) third in
    let place : at ≡ at2 = omega (arith, next) in
    let keys = sym got ∙ ap (slice_get t.uniques) place ∙ got2 in
    let same : key ≡ key2 = cc in
    is ∙ (λ k. automatic t (place k) (same k) (tree k)) ∙ sym is2
defined_once t i j (Int n) p q name tree = absurd p
defined_once t i j (Real x) p q name tree = absurd p
defined_once t i j (Text sql) (made, d, is) (made2, d2, is2) name tree =
    let k = sym d ∙ d2 in
    let same : made ≡ made2 = cc in
    is ∙ (λ k. record (same k) { tree = tree k; table = t.tree }) ∙ sym is2
defined_once t i j (Blob b) p q name tree = absurd p

one_index : (tables : List Table) → IsAscending (λ (a b : Table). same_name a.name b.name ≡ false) tables → (row : Row) (i j : Index) → IsIndexRow tables row i → IsIndexRow tables row j → i ≡ j
one_index tables named row i j p q =
    let tree = same_tree row i.tree j.tree p.described.id q.described.id in
    let owner = same_text (column row 3) p.table.name q.table.name p.described.owner_is q.described.owner_is in
    let table = named_once tables p.table q.table named p.listed q.listed owner in
    let name = same_text (column row 2) i.name j.name p.described.name_is q.described.name_is in
    defined_once p.table i j (column row 4) p.defined (subst (λ t. IsDefined t j (column row 4)) (sym table) q.defined) name tree

one_schema : (db : Trees) (s t : Schema) → s.views ≡ [] → IsSound s db → IsSound t db → s ≡ t
one_schema db s t none a b =
    let p = a.lists.listed in
    let q = b.lists.listed in
    let tables = zipped_one IsTableRow one_table _ s.tables t.tables p.tables q.tables in
    let indexes = zipped_one (IsIndexRow s.tables) (one_index s.tables p.named) (filter is_index_row (db catalog_tree)) s.indexes t.indexes p.indexes
    (subst (λ ts. AllZip (IsIndexRow ts) (filter is_index_row (db catalog_tree)) t.indexes) (sym tables) q.indexes) in
    let views = none_zipped IsViewRow _ s.views t.views none p.views q.views in
    λ i. record { tables = tables i; indexes = indexes i; views = views i }

-- what is so of trees under a schema is so of a database that has them
reopened : (schema : Schema) → schema.views ≡ [] → (Is : Database → Type 0) → ((db : Database) → Is db → IsDatabase db) → (db : Database) (trees : Trees) → Is (record { schema = schema; trees = trees }) → IsDatabase db
    → db.trees ≡ trees → Is db
reopened schema none Is sound db trees office found is =
    let same = one_schema trees schema db.schema none (sound _ office) (subst (IsSound db.schema) is found) in
    subst Is (λ i. record { schema = same i; trees = sym is i }) office

pub opened_shows : (s : State) (t : Tables) → AreOffice s.committed.trees t → Opens s → IsLive s → Shows s t
opened_shows s t office opens live = record {
  is_open = opens.is_open;
  settled = opens.clean;
  office = reopened office_schema refl (λ db. IsOffice db t) (λ db o. o.sound) s.now s.committed.trees office (live opens.is_open).0 (ap (λ (d : Database). d.trees) opens.clean);
}

pub opened_shows_old : (s : State) (t : Tables) → AreOldOffice s.committed.trees t → Opens s → IsLive s → ShowsOld s t
opened_shows_old s t office opens live = record {
  is_open = opens.is_open;
  settled = opens.clean;
  office = reopened old_schema refl (λ db. IsOldOffice db t) (λ db o. o.sound) s.now s.committed.trees office (live opens.is_open).0 (ap (λ (d : Database). d.trees) opens.clean);
}

module _ {D : Type 0} {g : Ghosts D} where
  pub found_shows : (opened : Held (FileStore D g)) (image : Image) (t : Tables) → HoldsOffice image t → FindsIn image (file_state opened) → IsOpened opened → Shows (file_state opened) t
  found_shows opened image t holds found opens =
      let same : (file_state opened).committed.trees ≡ holds.trees = ∥∥₁_elim holds.held (Trees-set _ _) (found.holds holds.trees) in
      opened_shows (file_state opened) t (subst (λ trees. AreOffice trees t) (sym same) holds.office) opens.0 opens.1

  pub found_shows_old : (opened : Held (FileStore D g)) (image : Image) (t : Tables) → HoldsOldOffice image t → FindsIn image (file_state opened) → IsOpened opened → ShowsOld (file_state opened) t
  found_shows_old opened image t holds found opens =
      let same : (file_state opened).committed.trees ≡ holds.trees = ∥∥₁_elim holds.held (Trees-set _ _) (found.holds holds.trees) in
      opened_shows_old (file_state opened) t (subst (λ trees. AreOldOffice trees t) (sym same) holds.office) opens.0 opens.1

  committed_office : (c : Held (FileStore D g)) (t : Tables) → Shows (file_state c) t → AreOffice (file_state c).committed.trees t
  committed_office c t shows = trees_of (file_state c).now (file_state c).committed.trees t shows.office (ap (λ (d : Database). d.trees) (sym shows.settled))

  pub closed_holds : (c : Held (FileStore D g)) (files : Files D) (t : Tables) → Shows (file_state c) t → IsCopied c files → HoldsOffice (image_of g files) t
  closed_holds c files t shows copied = record { trees = (file_state c).committed.trees; office = committed_office c t shows; held = copied.seen.both }

  pub crashed_holds : (c : Held (FileStore D g)) (files : Files D) (t : Tables) → Shows (file_state c) t → IsCopied c files → (left : Image) → outcomes g files.log files.db left → HoldsOffice left t
  crashed_holds c files t shows copied left may = record { trees = (file_state c).committed.trees; office = committed_office c t shows; held = (copied.left left may).both }

  module _ (c : Held (FileStore D g)) (numbered : IsTrue (files.view c.store).is_numbered) where
    pub shown_holds : SeenMayStay g → (t : Tables) → Shows (file_state c) t → (left : Image) → (files.state c.store).may_leave left → HoldsOffice left t
    shown_holds stays t shows left may =
        let office = committed_office c t shows in
        let same : (trees : Trees) → files.recovers c.store trees → trees ≡ (file_state c).committed.trees = λ trees may. settled_at c.store stays trees shows.is_open may in
        record {
          trees = (file_state c).committed.trees;
          office = office;
          held = ∥∥₁_map (opens_again c.store numbered (λ trees may. (office_schema, subst (IsSound office_schema) (sym (same trees may)) office.sound)) left may) (λ it. subst (HoldsDatabase left) (same it.0 it.1) it.2);
        }

    pub written_holds : (t u : Tables) → ((trees : Trees) → (file_state c).may_leave trees → AreOffice trees t ⊎ AreOffice trees u) → (left : Image) → (files.state c.store).may_leave left
        → ∥ (HoldsOffice left t ⊎ HoldsOffice left u) ∥₁
    written_holds t u each left may = ∥∥₁_map (opens_again c.store numbered (λ trees may. (office_schema, sound (each trees may))) left may) (λ it. holds it.0 it.2 (each it.0 it.1))
      where
        sound : {trees : Trees} → AreOffice trees t ⊎ AreOffice trees u → IsSound office_schema trees
        sound (inl office) = office.sound
        sound (inr office) = office.sound

        holds : (trees : Trees) → HoldsDatabase left trees → AreOffice trees t ⊎ AreOffice trees u → HoldsOffice left t ⊎ HoldsOffice left u
        holds trees held (inl office) = inl (record { trees = trees; office = office; held = ∣ held ∣₁ })
        holds trees held (inr office) = inr (record { trees = trees; office = office; held = ∣ held ∣₁ })

    pub migrated_holds : (t : Tables) → ((trees : Trees) → (file_state c).may_leave trees → AreOldOffice trees t ⊎ AreOffice trees t) → (left : Image) → (files.state c.store).may_leave left
        → ∥ (HoldsOldOffice left t ⊎ HoldsOffice left t) ∥₁
    migrated_holds t each left may = ∥∥₁_map (opens_again c.store numbered (λ trees may. sound (each trees may)) left may) (λ it. holds it.0 it.2 (each it.0 it.1))
      where
        sound : {trees : Trees} → AreOldOffice trees t ⊎ AreOffice trees t → (schema : Schema) × IsSound schema trees
        sound (inl office) = (old_schema, office.sound)
        sound (inr office) = (office_schema, office.sound)

        holds : (trees : Trees) → HoldsDatabase left trees → AreOldOffice trees t ⊎ AreOffice trees t → HoldsOldOffice left t ⊎ HoldsOffice left t
        holds trees held (inl office) = inl (record { trees = trees; office = office; held = ∣ held ∣₁ })
        holds trees held (inr office) = inr (record { trees = trees; office = office; held = ∣ held ∣₁ })

-- A database without a table.
use Rattle.std.proofs.Common.{◌≡◌, ◌∙◌, List, [], ◌∷◌, refl, subst, inl, inr}
use Rattle.std.specs.List.{AllZip}
use Rattle.sqlite_catalog.specs.Listing.{IsIndexRow, IsSound, IsTableRow, IsViewRow, Lists}
use Rattle.sqlite_rules.specs.Calls.{Excuses}
use Rattle.sqlite_schema.specs.declared.schema.Index.{Index}
use Rattle.sqlite_schema.specs.declared.schema.Schema.{Schema}
use Rattle.sqlite_schema.specs.declared.schema.Table.{Table}
use Rattle.sqlite_schema.specs.declared.schema.View.{View}
use Rattle.sqlite_trees.specs.Objects.{catalog_tree}
use Rattle.sqlite_trees.specs.Tree.{Trees}
use Rattle.sqlite_trees.specs.declared.error.StoreError.{StoreError}
use Rattle.sqlite_trees.specs.declared.error.StoreError.TheVariants as stored
use Rattle.std.specs.Prelude.{Some}
use Rattle.sqlite.specs.State.{Relays, store_error}
use Rattle.sqlite.specs.Steps.{FailsToOpen}
use Rattle.sqlite.specs.declared.error.Error.{Error}
use Rattle.sqlite.specs.declared.error.Error.TheVariants.{SqliteFailure}
use Rattle.sqlite.specs.declared.error.ErrorCode.TheVariants as code
use Rattle.sqlite.proofs.ListingLemmas.{empty_is_sound}

none_beside : {A B : Type 0} (R : A → B → Type 0) (ys : List B) → AllZip R [] ys → ys ≡ []
none_beside R [] all = refl
none_beside R (y ∷ ys) all = absurd all

of_none : (tables : List Table) (indexes : List Index) (views : List View) → tables ≡ [] → indexes ≡ [] → views ≡ []
    → ◌≡◌ {A = Schema} (record { tables = tables; indexes = indexes; views = views }) (record { tables = []; indexes = []; views = [] })
of_none tables indexes views no_table no_index no_view = cc

-- trees that list nothing list the empty schema
pub schema_of_none : (schema : Schema) (trees : Trees) → trees catalog_tree ≡ [] → IsSound schema trees → schema ≡ record { tables = []; indexes = []; views = [] }
schema_of_none schema trees none sound =
    let listed = (subst (λ rows. Lists rows schema) none sound.lists).listed in
    of_none _ _ _ (none_beside IsTableRow schema.tables listed.tables) (none_beside (IsIndexRow schema.tables) schema.indexes listed.indexes)
    (none_beside IsViewRow schema.views listed.views)

excused : (fault : Type 0) (cause : StoreError) → Excuses fault ⊥ cause → Relays (Some stored.OutOfMemory) (store_error cause) → store_error cause ≡ SqliteFailure code.OutOfMemory
excused fault stored.OutOfMemory why told = refl
excused fault stored.Io why told = told stored.OutOfMemory refl refl
excused fault stored.Corrupt why told = told stored.OutOfMemory refl refl
excused fault stored.Full why told = told stored.OutOfMemory refl refl
excused fault stored.Broken why told = absurd why
excused fault stored.Unstorable why told = absurd why

-- over such trees in memory, an open fails for want of memory alone
pub fails_for_memory : (trees : Trees) (fault : Type 0) (error : Error) → trees catalog_tree ≡ [] → Relays (Some stored.OutOfMemory) error → FailsToOpen trees fault error
    → error ≡ SqliteFailure code.OutOfMemory
fails_for_memory trees fault error none told (inl refused) = absurd (refused.1 _ (empty_is_sound trees none))
fails_for_memory trees fault error none told (inr failed) =
    failed.1 ∙ excused fault failed.0 failed.2 (subst (Relays (Some stored.OutOfMemory)) failed.1 told)

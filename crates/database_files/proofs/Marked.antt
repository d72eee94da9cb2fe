-- A store in which a mark was set, and which was then committed.
use Rattle.std.proofs.Common.{◌≡◌, ◌∙◌, ℕ, IsTrue, inl, inr, sym, ap, subst}
use Rattle.sqlite_disk.specs.declared.Disk.{Ghosts}
use Rattle.sqlite_wal.proofs.LogLemmas.{SeenMayStay}
use Rattle.sqlite_trees.specs.Tree.{Trees}
use Rattle.sqlite_trees.specs.Objects.{version_rows, version_tree, with_version}
use Rattle.sqlite_trees.specs.View.{IsClean, IsRolledBack, SetsTree, View}
use Rattle.sqlite_schema.specs.declared.schema.Schema.{Schema}
use Rattle.sqlite_catalog.specs.Listing.{IsSound}
use Rattle.sqlite_store.specs.declared.store.FileStore.{FileStore}
use Rattle.sqlite_store.specs.FileStore.{recovers, view}
use Rattle.sqlite_store.specs.Laws.{shut_is_broken, stays_at}
use Rattle.std.proofs.lemmas.Bool.{both_ways, cases_Bool}
use Rattle.sqlite.specs.Held.{AreDatabases}
use Rattle.database_files.proofs.Marking.{marked_sound}

module _ {D : Type 0} {g : Ghosts D} (was back set : FileStore D g) (mark : ℕ) (undone : IsRolledBack (view was) (view back)) (clean : IsClean (view back))
    (sets : SetsTree (view back) (view set) version_tree (λ _. version_rows mark)) where
  -- only an open store takes a mark
  pub back_open : IsTrue (view back).is_open
  back_open = elim (cases_Bool (view back).is_open) [
    | inl is ↦ is
    | inr shut ↦ absurd (both_ways _ sets.sound (shut_is_broken back shut))
  ]

  -- it then sees the last commit with the mark
  pub set_trees : (view set).trees ≡ with_version (view was).committed mark
  set_trees = ap (λ (v : View). v.trees) sets.is ∙ ap (λ (db : Trees). with_version db mark) (undone.undone back_open).0

  pub back_committed : (view back).committed ≡ (view was).committed
  back_committed = (undone.kept clean).committed back_open

  -- which is a database as that was
  pub set_sound : (stays : SeenMayStay g) → AreDatabases (recovers back) → (schema : Schema) × IsSound schema (with_version (view was).committed mark)
  set_sound stays found =
      let it = found _ (stays_at back stays back_open) in
      (it.0, marked_sound it.0 _ mark (subst (IsSound it.0) back_committed it.1))

-- trees that are those of a database are one
pub same_sound : (db trees : Trees) → db ≡ trees → (schema : Schema) × IsSound schema trees → (schema : Schema) × IsSound schema db
same_sound db trees is it = (it.0, subst (IsSound it.0) (sym is) it.1)

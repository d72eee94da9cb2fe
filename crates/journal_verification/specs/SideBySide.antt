-- What looking at two offices side by side leaves of them, and what comes of it.
use Rattle.std.specs.Borrow.{MutBor}
use Rattle.std.specs.Prelude.{◌≡◌, Result, IfOk, IfErr}
use Rattle.sqlite.specs.Effect.{Database}
use Rattle.sqlite.specs.Held.{Held, state}
use Rattle.sqlite.specs.State.{HasCleanDisk, IsUnchanged}
use Rattle.sqlite.specs.Store.{Ghosts}
use Rattle.office_words.specs.declared.fault.Fault.{Fault}
use Rattle.office_rows.specs.Causes.{HasFailed}
use Rattle.office_store.specs.Schema.{office_schema}
use Rattle.office_store.specs.Shown.{IsIdle}
use Rattle.journal_verification.specs.Looked.{HasLooked}

-- of two connections: one to what was built of a journal, and one to an office
module _ {S T : Type 0} (g : Ghosts S) (f : Ghosts T) where
  -- neither has a transaction open
  pub record AreIdle (first : Held S) (second : Held T) : Type 0 where
    pub built : IsIdle (state g first)
    pub office : IsIdle (state f second)

  -- both are looked at, and each is found so where its disk is clean; or there is a fault
  pub record LooksAtBoth {A : Type 0} (old_built new_built : Held S) (old_office new_office : Held T)
      (result : Result A Fault) (Giving : Type 0) (Built Office : A → Type 0) : Type 0 where
    -- nothing of either was changed
    pub built : HasLooked (state g old_built) (state g new_built)
    pub office : HasLooked (state f old_office) (state f new_office)
    pub of_built : HasCleanDisk (state g new_built) → IfOk result Built
    pub of_office : HasCleanDisk (state f new_office) → IfOk result Office
    -- while the office was giving such rows, memory is wanting or a call over it met the fault
    pub cause : HasCleanDisk (state f new_office)
        → (state f old_office).now.schema ≡ office_schema → Giving
        → IfErr result (HasFailed (state f old_office) (state f new_office))

  -- two readings are looked at, and hold the references that they held
  pub record ReadsBoth {A : Type 0} (old_built new_built : MutBor (Held S))
      (old_office new_office : MutBor (Held T)) (result : Result A Fault) (Giving : Type 0)
      (Built Office : A → Type 0) : Type 0 where
    pub built_reference : new_built.ghost_name ≡ old_built.ghost_name
    pub office_reference : new_office.ghost_name ≡ old_office.ghost_name
    pub looks : LooksAtBoth old_built.now new_built.now old_office.now new_office.now
        result Giving Built Office

  -- without a fault both are open and as they were, and this is told of what they have
  abbrev pub ComparesBoth : {A : Type 0} → (old_built new_built : Held S)
      → (old_office new_office : Held T) → Result A Fault → (Database → Database → A → Type 0)
      → Type 0
  ComparesBoth old_built new_built old_office new_office result Tells =
      LooksAtBoth old_built new_built old_office new_office result (Unit {0})
      (λ _. IsUnchanged (state g old_built) (state g new_built))
      (λ a. IsUnchanged (state f old_office) (state f new_office)
      × (HasCleanDisk (state g new_built)
      → Tells (state g old_built).now (state f old_office).now a))

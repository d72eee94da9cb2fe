-- What the statements of a write leave of an office.
use Rattle.std.proofs.Common.{arith, inl, inr, ◌≡◌, List, [], ◌∷◌, refl, sym, subst}
use Rattle.sqlite.specs.declared.error.Error.{Error}
use Rattle.sqlite.specs.Store.{Ghosts}
use Rattle.sqlite.specs.Effect.{Database}
use Rattle.sqlite.specs.State.{State, Survives}
use Rattle.sqlite.specs.Tree.{Trees}
use Rattle.sqlite.specs.Held.{Held, state}
use Rattle.office_words.specs.Tables.{Tables}
use Rattle.office_rows.specs.Faults.{IsOfMachine}
use Rattle.office_rows.specs.Statements.{Statement, RanAll, FailedIn}
use Rattle.office_rows.proofs.Errors.{of_store}
use Rattle.office_store.specs.Shown.{IsOffice, AreOffice}
use Rattle.office_store.specs.Steps.{AreSteps}

module _ {S : Type 0} (g : Ghosts S) where
  pub all_made : (ss : List Statement) (h : Held S) (db : Database) (t u : Tables) → IsOffice (state g h).now t → AreSteps g ss t u → RanAll g ss h db → IsOffice db u
  all_made [] h db t u office same ran = subst (λ v. IsOffice db v) same (subst (λ d. IsOffice d t) (sym ran) office)
  all_made (s ∷ ss) h db t u office steps ran = all_made ss ran.0 db steps.0 u (steps.1.ok h ran.0 ran.1 office ran.2.0) steps.2 ran.3

  pub none_made : (ss : List Statement) (h end : Held S) (e : Error) (t u : Tables) → IsOffice (state g h).now t → AreSteps g ss t u → FailedIn g ss h end e → IsOfMachine e
  none_made [] h end e t u office same (inl failed) = rw failed.1 (of_store failed.0)
  none_made [] h end e t u office same (inr late) = rw late.0 (λ h. cc, λ h. cc)
  none_made (s ∷ ss) h end e t u office steps (inl failed) = steps.1.err h failed.0 e office failed.1
  none_made (s ∷ ss) h end e t u office steps (inr later) = none_made ss later.0 end e steps.0 u (steps.1.ok h later.0 later.1 office later.2.0) steps.2 later.3

-- the trees of an office are those of its tables
pub trees_of : (db : Database) (trees : Trees) (t : Tables) → IsOffice db t → trees ≡ db.trees → AreOffice trees t
trees_of db trees t office is = subst (λ (d : Database). IsOffice d t) (λ i. record { schema = office.schema i; trees = sym is i }) office

-- nothing was done to the store
pub survives_same : (s : State) (P : Trees → Type 0) → Survives s s P
survives_same s P = record { clean = omega arith; shield = λ h. h; counts = omega arith; limit = refl; closes = λ clean is_open. inl is_open; crash = λ clean db may. inl may }

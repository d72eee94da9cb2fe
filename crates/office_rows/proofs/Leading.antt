-- What the statements of a transaction make of a database, one after the other.
use Rattle.std.proofs.Common.{inl, inr, ℕ, List, [], ◌∷◌, Ok, Err, sym, subst}
use Rattle.sqlite.specs.declared.error.Error.{Error}
use Rattle.sqlite.specs.Store.{Ghosts}
use Rattle.sqlite.specs.Effect.{Database}
use Rattle.sqlite.specs.State.{Executes, ExecutesInside}
use Rattle.sqlite.specs.Held.{Held, state}
use Rattle.office_rows.specs.Faults.{IsOfMachine}
use Rattle.office_rows.specs.Statements.{Statement, RanAll, FailedIn}
use Rattle.office_rows.proofs.Errors.{of_store}

module _ {S : Type 0} (g : Ghosts S) where
  -- the statement makes a database of the second kind of one of the first, and where it fails it isn't for the form of the tables
  pub record Makes (s : Statement) (First Second : Database → Type 0) : Type 0 where
    pub ok : (old new : Held S) (count : ℕ) → First (state g old).now → Executes s.sql s.params (state g old) (state g new) (Ok count) → Second (state g new).now
    pub err : (old new : Held S) (e : Error) → First (state g old).now → ExecutesInside 0 s.sql s.params (state g old) (state g new) (Err e) → IsOfMachine e

  -- the same of several statements
  pub data Leads : List Statement → (Database → Type 0) → (Database → Type 0) → Type 1 where
    ends : {First : Database → Type 0} → Leads [] First First
    goes : {s : Statement} {ss : List Statement} {First Next Last : Database → Type 0} → Makes s First Next → Leads ss Next Last → Leads (s ∷ ss) First Last

  pub all_led : {ss : List Statement} {First Last : Database → Type 0} → Leads ss First Last → (h : Held S) (db : Database) → First (state g h).now → RanAll g ss h db → Last db
  all_led (ends {First = First}) h db first ran = subst First (sym ran) first
  all_led (goes makes leads) h db first ran = all_led leads ran.0 db (makes.ok h ran.0 ran.1 first ran.2.0) ran.3

  pub none_led : {ss : List Statement} {First Last : Database → Type 0} → Leads ss First Last → (h end : Held S) (e : Error) → First (state g h).now → FailedIn g ss h end e → IsOfMachine e
  none_led ends h end e first (inl failed) = rw failed.1 (of_store failed.0)
  none_led ends h end e first (inr late) = rw late.0 (λ h. cc, λ h. cc)
  none_led (goes makes leads) h end e first (inl failed) = makes.err h failed.0 e first failed.1
  none_led (goes makes leads) h end e first (inr later) = none_led leads later.0 end e (makes.ok h later.0 later.1 first later.2.0) later.3

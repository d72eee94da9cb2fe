-- An office at a path: what is known of it as it is opened.
use Rattle.std.proofs.Common.{◌≡◌, ℕ, List, Bool, true, false, not, Result, Ok, Err, inr, refl, subst, sym}
use Rattle.std.specs.Prelude.{IfErr, IfOk}
use Rattle.sqlite.specs.Held.{Held, state}
use Rattle.sqlite.specs.State.{HasCleanDisk}
use Rattle.sqlite.specs.Store.{Ghosts}
use Rattle.office_store.specs.Shown.{Shows}
use Rattle.office_policy.specs.TablesOf.{tables_of}
use Rattle.review_office.specs.Opened.{IsOver}
use Rattle.command_host.specs.Openings.{IsNotOver, IsOfOpening, IsOpenedOffice, IsUnlimited}
use Rattle.command_host.specs.declared.databases.Databases as databases
use Rattle.command_host.specs.declared.fault.CommandFault.{CommandFault}

-- a connection that isn't outside of a transaction is in one
pub not_idle : (outside inside : Bool) → outside ≡ not inside → outside ≡ false → inside ≡ true
not_idle outside true same told = refl
not_idle outside false same told = cc

module _ {S : Type 0} (g : Ghosts S) (Opened : Held S → Type 0) where
  pub opened_office : (conn office : Held S) → IsUnlimited Opened conn → IsOver g conn office → IsOpenedOffice g Opened office
  opened_office conn office unlimited over = record {
    was = unlimited.0;
    opened = unlimited.1;
    over = record {
      clean = λ clean. subst (λ (x : Held S). HasCleanDisk (state g x)) unlimited.2 (over.clean clean);
      stands = λ h lawful shows clean.
          over.stands h lawful (subst (λ (x : Held S). Shows (state g x) (tables_of h)) (sym unlimited.2)
          (record { is_open = shows.is_open; settled = shows.settled; office = shows.office })) clean;
    };
  }

  pub opened_over : {E : Type 0} (conn : Held S) → IsUnlimited Opened conn → (r : Result (Held S) E) → IfOk r (IsOver g conn) → IfOk r (IsOpenedOffice g Opened)
  opened_over conn unlimited (Ok office) over = opened_office conn office unlimited over
  opened_over conn unlimited (Err why) over = tt

-- what isn't over a connection that was opened at a path is why no office is there
pub fault_over : {S D C A : Type 0} (g : Ghosts S) (d : databases.Ghosts D (Held S) C) (path : List ℕ) (conn : Held S) → IsUnlimited (d.opened path) conn → (r : Result A CommandFault)
    → IfErr r (IsNotOver d g conn) → IfErr r (IsOfOpening d path g)
fault_over g d path conn unlimited (Ok office) none = tt
fault_over g d path conn unlimited (Err why) none = inr (conn, unlimited, none)

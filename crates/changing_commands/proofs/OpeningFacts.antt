-- An office at a path: what is known of it as it is opened, served and closed.
use Rattle.std.proofs.Common.{◌≡◌, ℕ, List, inl, inr, Option, None, Result, Ok, Err, refl, subst, sym}
use Rattle.std.specs.Prelude.{IfErr, OnOk}
use Rattle.sqlite.specs.Held.{Held, state}
use Rattle.sqlite.specs.State.{HasCleanDisk}
use Rattle.sqlite.specs.Store.{Ghosts}
use Rattle.command_host.specs.declared.fault.CommandFault.{CommandFault}
use Rattle.command_host.specs.declared.fault.CommandFault.TheVariants as fault
use Rattle.changing_commands.specs.declared.founding.Founding.{Founding}
use Rattle.command_host.specs.declared.founding_fault.FoundingWordsFault.{FoundingWordsFault}
use Rattle.office_founding.specs.Founding.{first_user, FailsToFound}
use Rattle.office_store.specs.Shown.{AreOffice, MayLeave}
use Rattle.office_founding.specs.declared.fault.FoundingFault.{FoundingFault}
use Rattle.office_policy.specs.TablesOf.{tables_of}
use Rattle.review_office.specs.Opened.{IsHandedBack}
use Rattle.changing_commands.specs.Foundings.{history_of, IsFoundedIn, IsNotFounded, IsUnfounded, WasFounded}
use Rattle.command_host.specs.declared.databases.Databases as databases
use Rattle.command_host.specs.Openings.{IsClosed, IsEnded, IsFirstOf, IsOpenedOffice, IsServed, IsServedFrom}

module _ {S D C : Type 0} (d : databases.Ghosts D (Held S) C) (Done : (old new : Held S) → Type 0) (Stops : CommandFault → (old new : Held S) → Type 0) (mark : Option ℕ) where
  -- an office that was served, and then closed
  pub was_served : (old new : Held S) → (served closed result : Result (Unit {0}) CommandFault)
      → OnOk served (Done old new) → IfErr served (λ why. Stops why old new) → OnOk closed (IsClosed d.closed new mark) → IsEnded d new mark → IfErr closed (λ why. why ≡ fault.Close)
      → IsFirstOf served closed result → IsServed d Done Stops mark old result
  was_served old new (Ok a) (Ok b) result done stops closed ended why is = subst (λ r. IsServed d Done Stops mark old r) (sym is) (new, done, closed)
  was_served old new (Ok a) (Err f) result done stops closed ended why is = subst (λ r. IsServed d Done Stops mark old r) (sym is) (inr (why, (new, done, ended)))
  was_served old new (Err f) closed result done stops _ ended why is = subst (λ r. IsServed d Done Stops mark old r) (sym is) (inl (new, stops, ended))

  -- the same of one that was opened
  pub served_from : (g : Ghosts S) (Opened : Held S → Type 0) (old : Held S) → IsOpenedOffice g Opened old → (r : Result (Unit {0}) CommandFault) → IsServed d Done Stops mark old r
      → IsServedFrom g d Opened Done Stops mark r
  served_from g Opened old office (Ok done) it = record { old = old; new = it.0; office = office; done = it.1; closed = it.2 }
  served_from g Opened old office (Err why) (inl it) = inl (record { old = old; new = it.0; office = office; done = it.1; closed = it.2 })
  served_from g Opened old office (Err why) (inr it) = inr (it.0, record { old = old; new = it.1.0; office = office; done = it.1.1; closed = it.1.2 })

module _ {S D C : Type 0} (g : Ghosts S) (d : databases.Ghosts D (Held S) C) (path : List ℕ) where
  -- one that was opened, and then closed with a mark
  pub only_closed : (mark : Option ℕ) (office : Held S) → IsOpenedOffice g (d.opened path) office → (r : Result (Unit {0}) CommandFault) → OnOk r (IsClosed d.closed office mark) → IsEnded d office mark
      → IfErr r (λ why. why ≡ fault.Close) → IsServedFrom g d (d.opened path) (λ old new. new ≡ old) (λ why old new. ⊥) mark r
  only_closed mark office opened (Ok done) closed ended is = record { old = office; new = office; office = opened; done = refl; closed = closed }
  only_closed mark office opened (Err why) closed ended is = inr (is, record { old = office; new = office; office = opened; done = refl; closed = ended })

  pub founded_closed : (described : Result Founding FoundingWordsFault) (office : Held S) (r : Result (Unit {0}) CommandFault)
      → IsFoundedIn g (d.opened path) described office → OnOk r (IsClosed d.closed office None) → OnOk r (WasFounded g (d.opened path) (IsClosed d.closed) described)
  founded_closed described office (Ok done) founded closed = record { office = office; founded = founded; closed = closed }
  founded_closed described office (Err why) founded closed = tt

  -- what was founded and not closed
  pub founded_open : (described : Result Founding FoundingWordsFault) (office : Held S) (r : Result (Unit {0}) CommandFault)
      → IsFoundedIn g (d.opened path) described office → IsEnded d office None → IfErr r (λ why. why ≡ fault.Close)
      → IfErr r (IsUnfounded g d path described)
  founded_open described office (Ok done) founded ended closed = tt
  founded_open described office (Err why) founded ended closed = inr (closed, office, founded, ended)

-- what the store says of an office that isn't founded
pub not_founded : {S A : Type 0} (g : Ghosts S) (founding : Founding) (conn : Held S) (r : Result A (FoundingFault × Held S))
    → IfErr r (λ refusal. HasCleanDisk (state g refusal.1) → FailsToFound g (first_user founding.name founding.team founding.digest) founding.listed conn refusal.1 refusal.0)
    → IsHandedBack g conn r → IfErr r (λ refusal. MayLeave (state g conn) (state g refusal.1) (λ trees. AreOffice trees (tables_of (history_of founding))))
    → IfErr r (λ refusal. IsNotFounded g founding conn refusal.1 refusal.0)
not_founded g founding conn (Ok office) cause same crash = tt
not_founded g founding conn (Err refusal) cause same crash = record { cause = cause; same = same; crash = crash }

-- An office that is served, and not closed.
use Rattle.std.proofs.Common.{◌≡◌, inl, inr, List, ℕ, Option, subst}
use Rattle.std.specs.Prelude.{Ok, Err, ⊤}
use Rattle.sqlite.specs.Held.{Held}
use Rattle.sqlite.specs.Store.{Ghosts}
use Rattle.sqlite_disk.specs.declared.Disk.{Ghosts as DiskGhosts}
use Rattle.sealed_log.specs.Faults.{IsLater}
use Rattle.sealed_log.specs.declared.log.SealedLog.{SealedLog}
use Rattle.journal.specs.declared.journaled.Journaled.{Journaled}
use Rattle.command_host.specs.Openings.{IsClosed, IsEnded, IsServed}
use Rattle.command_host.specs.declared.databases.Databases as databases
use Rattle.command_host.specs.declared.fault.CommandFault.TheVariants as fault
use Rattle.changing_commands.specs.Journals.{IsClosedKept, IsServedWith}
use Rattle.example_tests.specs.ServedExamples.{becomes, never_done, never_stops, stops_for}

module _ {S D C : Type 0} (d : databases.Ghosts D (Held S) C) (old new : Held S) where
  pub never_open : (mark : Option ℕ) → (IsClosed d.closed new mark → ⊥) → IsServed d (becomes new) never_stops mark old (Ok tt) → ⊥
  never_open mark never is = never (subst (λ (conn : Held S). IsClosed d.closed conn mark) is.1 is.2)

  pub never_stopped_open : (mark : Option ℕ) → (IsEnded d new mark → ⊥) → IsServed d never_done (stops_for fault.Write new) mark old (Err fault.Write) → ⊥
  never_stopped_open mark never (inl stopped) = never (subst (λ (conn : Held S). IsEnded d conn mark) stopped.1.1 stopped.2)
  never_stopped_open mark never (inr done) = done.1.1

module _ {S D C L : Type 0} (g : Ghosts S) (f : DiskGhosts L) (d : databases.Ghosts D (Held S) C) (path : List ℕ) (new : Journaled (Held S) (SealedLog L f)) where
  pub never_kept_open : (IsClosedKept g f (IsClosed d.closed) new → ⊥) → IsServedWith g f (λ found. ⊤) d path 1 (becomes new) never_stops (Ok tt) → ⊥
  never_kept_open never is = never (subst (λ (x : Journaled (Held S) (SealedLog L f)). IsClosedKept g f (IsClosed d.closed) x) is.done is.ended)

-- a file as it is later is none that it never is
module _ {L : Type 0} (f : DiskGhosts L) (made other : L) where
  pub never_later : (IsLater f made other → ⊥) → (was is : L) → was ≡ made → is ≡ other → IsLater f was is → ⊥
  never_later never was is first second later = never (subst (λ (file : L). IsLater f file other) first (subst (λ (file : L). IsLater f was file) second later))

-- The office in which requests are tried.
use Rattle.std.specs.Prelude.{◌≡◌, ◌⊎◌, ℕ, List, [], ◌∷◌, codes, Option, None, Result, Ok, Err}
use Rattle.sqlite.specs.Held.{Held}
use Rattle.memory_database.specs.MemoryStore.{MemoryStore, over_memory}
use Rattle.review_office.specs.Meant.{meaning_over}
use Rattle.streams.specs.declared.counted.Counted.{Counted}
use Rattle.changing_commands.specs.Foundings.{founding_of, Described, IsFoundedAs}
use Rattle.changing_commands.specs.Lines.{HasAnswered, HasStopped}
use Rattle.changing_commands.specs.Untouched.{AreUntouched}
use Rattle.command_host.specs.declared.fault.CommandFault.{CommandFault}
use Rattle.command_host.specs.declared.fault.CommandFault.TheVariants as fault
use Rattle.no_memory.specs.Witness.{witness}
use Rattle.no_memory.specs.declared.witness.NoMemory.{«NoMemory» as Want}

-- the founding of a trial desk: root of the team office, who shows the token abc, and CAP_SYS_ADMIN
unfoldable pub trial_founding : Described
trial_founding =
    founding_of (codes "root") (codes "office")
    (codes "ba7816bf8f01cfea414140de5dae2223b00361a396177a9cb410ff61f20015ad")
    (codes "CAP_SYS_ADMIN" ∷ [])

-- in memory an office was founded with just that, and this was done with it
pub record WasTried (Done : (old new : Held MemoryStore) → Type 0) : Type 0 where
  pub old : Held MemoryStore
  pub new : Held MemoryStore
  pub founded : IsFoundedAs over_memory trial_founding old
  pub done : Done old new

-- a trial desk ends so: where it fails, there was no memory for the office, and it didn't begin, so that
-- this holds; or it stopped for this
abbrev pub HasTried : (Unbegun : Type 0) → (Done : (old new : Held MemoryStore) → Type 0)
    → (Stops : CommandFault → (old new : Held MemoryStore) → Type 0)
    → Result (Unit {0}) CommandFault → Type 0
HasTried Unbegun Done Stops (Ok done) = WasTried Done
HasTried Unbegun Done Stops (Err why) =
    ((why ≡ fault.NoMemory witness) × Unbegun) ⊎ WasTried (Stops why)

-- of the lines that were to come, of those that are left, of an output, of standard error, and of the
-- want of memory that is told
module _ {O E : Type 0} (contents : O → Option (List ℕ)) (said_of : E → Option (List ℕ))
    (came left : Option (List ℕ)) (output wrote : Counted O) (errors noted : Counted E)
    (want : Option Want) where
  abbrev pub IsTrial : Result (Unit {0}) CommandFault → Type 0
  IsTrial result =
      HasTried (AreUntouched came left output wrote errors noted × (want ≡ None))
      (HasAnswered contents said_of (meaning_over over_memory) came output wrote errors noted want)
      (HasStopped contents said_of (meaning_over over_memory) came left output wrote errors noted want)
      result

-- What a desk did with lines, and why it stopped.
use Rattle.std.specs.Prelude.{ℕ, List, Option, IfSome, Result, Ok, Err}
use Rattle.desk_lines.specs.Stands.{AreAnswered, HasNoted, StandsAfter}
use Rattle.desk_lines.specs.declared.fault.DeskFault.{DeskFault}
use Rattle.office_policy.specs.Meaning.{Meaning}
use Rattle.streams.specs.Lines.{lines_of}
use Rattle.streams.specs.declared.counted.Counted.{Counted}
use Rattle.no_memory.specs.declared.witness.NoMemory.{«NoMemory» as Want}
use Rattle.command_host.specs.declared.fault.CommandFault.{CommandFault}
use Rattle.command_host.specs.declared.fault.CommandFault.TheVariants as fault

-- a fault of the desk, after which this stands
abbrev pub IsOfDesk : (DeskFault → Type 0) → CommandFault → Type 0
IsOfDesk Stands (fault.Desk why) = Stands why
IsOfDesk Stands _ = ⊥

-- of an output, of standard error, and of what an office means
module _ {O E X : Type 0} (contents : O → Option (List ℕ)) (said_of : E → Option (List ℕ))
    (m : Meaning X) where
  -- lines were handled, and those that are no requests noted; and where the bytes that were to come are
  -- known, all of their lines were answered, which told this want of memory
  abbrev pub HasAnswered : (came : Option (List ℕ)) (output wrote : Counted O)
      (errors noted : Counted E) (want : Option Want) (old new : X) → Type 0
  HasAnswered came output wrote errors noted want old new =
      HasNoted m said_of errors noted old new
      × IfSome came (λ bytes. AreAnswered m said_of errors noted old new
      (contents output.inner) (contents wrote.inner) (lines_of bytes) want)

  -- lines were handled and noted, and the desk stopped for this, after which stands what it says, with these
  -- bytes left of those that were to come; and this want of memory was told
  abbrev pub HasStopped : (came left : Option (List ℕ)) (output wrote : Counted O)
      (errors noted : Counted E) (want : Option Want) → CommandFault → (old new : X) → Type 0
  HasStopped came left output wrote errors noted want why old new =
      HasNoted m said_of errors noted old new
      × IsOfDesk (StandsAfter m said_of errors noted old new came left
      (contents output.inner) (contents wrote.inner) want) why

  -- a desk ended so
  abbrev pub HasEnded : (came left : Option (List ℕ)) (output wrote : Counted O)
      (errors noted : Counted E) (want : Option Want) → Result (Unit {0}) CommandFault
      → (old new : X) → Type 0
  HasEnded came left output wrote errors noted want (Ok done) old new =
      HasAnswered came output wrote errors noted want old new
  HasEnded came left output wrote errors noted want (Err why) old new =
      HasStopped came left output wrote errors noted want why old new

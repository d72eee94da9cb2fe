-- Reading a file that was opened.
use Rattle.std.specs.Prelude.{◌≡◌, ◌<◌, ◌≤◌, ℕ, zero, suc, List, ◌++◌, length, Option, Result}
use Rattle.std.specs.Io.KnownBytes.{Consumes, IsAtEnd}
use Rattle.std.specs.declared.io.Error.{Error}
use Rattle.streams.specs.declared.step.ReadStep.{ReadStep}
use Rattle.streams.specs.declared.step.ReadStep.TheVariants as step
use Rattle.streams.specs.declared.unread.Unread.{Unread}
use Rattle.streams.specs.declared.unread.Unread.TheVariants.{Failed, TooManyReads, NoMemory}
use Rattle.command_host.specs.FailedCalls.{CallFailed}
use Rattle.reading_commands.specs.declared.reading.TheConstants.{MOST_READS}

-- behind bytes of a file that were read, these are read: so many of all, or all that there are
pub record HasReadOn (old new : Option (List ℕ)) (before after : List ℕ) (most : ℕ) : Type 0 where
  pub more : List ℕ
  pub parts : after ≡ before ++ more
  pub read : Consumes old new more
  pub within : length after ≤ most
  pub ended : length after < most → IsAtEnd new

-- no more than this many bytes were read
abbrev pub IsWithin : ℕ → ReadStep → Type 0
IsWithin most (step.Bytes count) = count ≤ most
IsWithin most _ = Unit {0}

-- of files of which this is known as a call of read gives something of one
module _ {F : Type 0} (Gives : F → F → Result ℕ Error → List ℕ → Type 0) where
  -- by a call of read a file became another
  abbrev pub IsCall : (old new : F) → Type 0
  IsCall old new = (result : Result ℕ Error) × (bytes : List ℕ) × Gives old new result bytes

  -- by so many calls, one after the other
  unfoldable pub AreCalls : ℕ → (first last : F) → Type 0
  AreCalls zero first last = last ≡ first
  AreCalls (suc count) first last = (was : F) × AreCalls count first was × IsCall was last

  -- as many calls of read were made as are allowed
  pub record HaveCalled : Type 0 where
    pub first : F
    pub last : F
    pub calls : AreCalls MOST_READS first last

  -- a call that is told to have failed has
  abbrev pub HasFailedIf : ReadStep → Type 0
  HasFailedIf step.Failed = CallFailed Gives
  HasFailedIf _ = Unit {0}

  -- why a file wasn't read: a call of read failed, there were as many as are allowed, or there was no
  -- memory
  abbrev pub FailsToRead : Unread → Type 0
  FailsToRead Failed = CallFailed Gives
  FailsToRead TooManyReads = HaveCalled
  FailsToRead (NoMemory _) = Unit {0}

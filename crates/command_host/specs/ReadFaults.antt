-- The faults that tell that a journal couldn't be read.
use Rattle.std.specs.Prelude.{◌≡◌, ◌⊎◌, ℕ, List, Bool, true, false, Result}
use Rattle.std.specs.declared.io.Error.{Error}
use Rattle.sealed_log.specs.declared.unreadable.Unreadable.TheVariants as unreadable
use Rattle.journal_faults.specs.declared.refused.Refused.{Refused}
use Rattle.journal_faults.specs.declared.refused.Why.{Why}
use Rattle.journal_faults.specs.declared.refused.Why.TheVariants as halt
use Rattle.journal_faults.specs.declared.no_evidence.NoEvidence.TheVariants as evidence
use Rattle.journal_faults.specs.declared.unwritten.Unwritten.TheVariants as unwritten
use Rattle.journal_faults.specs.declared.unverified.Unverified.TheVariants as unverified
use Rattle.command_host.specs.FailedCalls.{CallFailed}
use Rattle.command_host.specs.declared.fault.CommandFault.{CommandFault}
use Rattle.command_host.specs.declared.fault.CommandFault.TheVariants as fault
use Rattle.command_host.specs.declared.noted.NoneFailed.{NoneFailed}

-- a journal couldn't be read
abbrev pub is_read : Why → Bool
is_read (halt.Unread unreadable.Read) = true
is_read _ = false

abbrev pub is_of_read : Refused → Bool
is_of_read refused = is_read refused.why

-- the fault tells that
abbrev pub tells_of_read : CommandFault → Bool
tells_of_read (fault.Unverified (unverified.Refused refused)) = is_of_read refused
tells_of_read (fault.Unbuilt refused) = is_of_read refused
tells_of_read (fault.Unwritten (unwritten.Refused refused)) = is_of_read refused
tells_of_read (fault.NoEvidence (evidence.Refused refused)) = is_of_read refused
tells_of_read _ = false

-- Where this fault was met, that is told: the same, and a call of read failed where it tells that the
-- journal couldn't be read; or, where it tells that and none was noted to have failed, that the
-- journal is endless.
abbrev pub IsToldOf : {F : Type 0} (Gives : F → F → Result ℕ Error → List ℕ → Type 0)
    → (met told : CommandFault) → Type 0
IsToldOf Gives met told =
    ((told ≡ met) × (tells_of_read met ≡ true → ∥ CallFailed Gives ∥₁))
    ⊎ ((none : NoneFailed) × (told ≡ fault.Endless none) × (tells_of_read met ≡ true))

-- What is refused whatever has happened.
use Rattle.std.specs.Prelude.{◌≡◌}
use Rattle.office_words.specs.declared.fault.Fault.TheVariants.{NoMemory}
use Rattle.office_policy.specs.History.{History}
use Rattle.office_policy.specs.Verdict.{Verdict, denied}
use Rattle.office_judging.specs.declared.refusal.Refusal.{Refusal}
use Rattle.office_judging.specs.declared.refusal.Refusal.TheVariants as refusals
use Rattle.no_memory.specs.Witness.{witness}

-- the verdict on every history is this denial; a fault is out of memory
abbrev pub IsRefusedAtOnce : Refusal → (History → Verdict) → Type 0
IsRefusedAtOnce (refusals.Denied denial fault) judge = (h : History) → judge h ≡ denied denial fault
IsRefusedAtOnce (refusals.Fault fault) judge = fault ≡ NoMemory witness

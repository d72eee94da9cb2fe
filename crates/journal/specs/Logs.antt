-- What a sealed log is to those who write a journal to it.
use Rattle.std.proofs.Common.{◌≡◌, ◌∙◌, Result, Ok, Err, IsTrue, arith}
use Rattle.std.specs.Prelude.{⊤}
use Rattle.sqlite_disk.specs.declared.Disk.{Ghosts}
use Rattle.sealed_log.specs.Faults.{IsOfCall}
use Rattle.sealed_log.specs.Log.{bodies_of}
use Rattle.sealed_log.specs.declared.fault.LogFault.{LogFault}
use Rattle.sealed_log.specs.declared.fault.LogFault.TheVariants as logs
use Rattle.sealed_log.specs.declared.log.SealedLog.{SealedLog}
use Rattle.office_words.specs.declared.fault.Fault.{Fault}
use Rattle.office_words.specs.declared.fault.Fault.TheVariants as faults
use Rattle.office_policy.specs.Handled.{HasRisen}
use Rattle.journal.specs.Writing.{Writing}

-- the fault of an office that a fault of its log is
abbrev pub fault_meant : LogFault → Fault
fault_meant (logs.NoMemory refused) = faults.NoMemory refused
fault_meant logs.Disk = faults.Disk
fault_meant logs.Full = faults.Full

abbrev pub told_meant : Result ⊤ LogFault → Result ⊤ Fault
told_meant (Ok done) = Ok done
told_meant (Err fault) = Err (fault_meant fault)

-- a call of a file failed between the two, and an office is told its fault so
pub record FailsAs {D : Type 0} (g : Ghosts D) (old new : D) (fault : Fault) : Type 0 where
  pub met : LogFault
  pub call : IsOfCall g old new met
  pub is : fault ≡ fault_meant met

pub fails_once : {D : Type 0} (g : Ghosts D) (old new : D) (fault : Fault) → FailsAs g old new fault
    → HasRisen (g.faults old) (g.faults new)
fails_once g old new fault fails =
    let begun = fails.call.begun.faults in
    let failed = fails.call.failed in
    let ended = fails.call.ended.faults in
    omega (arith, begun, failed, ended)

abbrev pub in_log : {D : Type 0} (g : Ghosts D) → Writing (SealedLog D g)
in_log g = record {
  is_clean = λ j. IsTrue (g.is_clean j.disk);
  bodies = bodies_of g;
  is_open = λ j. j.is_open;
  lines = λ j. j.lines;
  faults = λ j. g.faults j.disk;
  fails = λ old new fault. FailsAs g old.disk new.disk fault;
  may_leave = λ j left. g.may_leave j.disk left;
  settled = λ j clean is_open left may. j.settled is_open left may ∙ (j.whole is_open clean).text;
  counted = λ j clean is_open. (j.whole is_open clean).counted;
  risen = λ old new fault fails. fails_once g old.disk new.disk fault fails;
}

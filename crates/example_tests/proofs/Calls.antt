-- Calls of a disk that failed.
use Rattle.std.proofs.Common.{◌∙◌, ◌-◌, ◌^◌, ℕ, false, true, refl, sym, arith}
use Rattle.sqlite_disk.specs.declared.Disk.{Ghosts as DiskGhosts}
use Rattle.sealed_log.specs.Faults.{HasFailed, IsOfCall}
use Rattle.sealed_log.specs.declared.fault.LogFault.{LogFault}
use Rattle.sealed_log.specs.declared.fault.LogFault.TheVariants as faults
use Rattle.sealed_log.proofs.FaultFacts.{later_itself}
use Rattle.example_tests.specs.EdgeExamples.{FailsForRoomAlone, HasCounted}

module _ {D : Type 0} (g : DiskGhosts D) (old new : D) where
  pub failed : HasCounted g old 3 2 → HasCounted g new 4 2 → HasFailed g old new false
  failed was is = record {
    before = old;
    after = new;
    begun = later_itself g old;
    failed = omega arith;
    room = is.for_room ∙ sym was.for_room;
    ended = later_itself g new;
  }

  pub failed_for_room : HasCounted g old 3 2 → HasCounted g new 4 3 → HasFailed g old new true
  failed_for_room was is = record {
    before = old;
    after = new;
    begun = later_itself g old;
    failed = omega arith;
    room = omega arith;
    ended = later_itself g new;
  }

  -- the one count says that none did, or the other that none did for want of room
  pub none_failed : (refused : ℕ) (fault : LogFault) → HasCounted g old 3 2 → HasCounted g new 3 refused → IsOfCall g old new fault → ⊥
  none_failed refused fault was is call =
      let begun = call.begun.faults in
      let failed = call.failed in
      let ended = call.ended.faults in
      omega (arith, begun, failed, ended, was.failed, is.failed)

  pub none_refused : HasCounted g old 3 2 → HasCounted g new 4 2 → IsOfCall g old new faults.Full → ⊥
  none_refused was is call =
      let begun = call.begun.refused in
      let failed = call.room in
      let ended = call.ended.refused in
      omega (arith, begun, failed, ended, was.for_room, is.for_room)

  pub each_refused : HasCounted g old 3 2 → HasCounted g new 4 3 → FailsForRoomAlone g → IsOfCall g old new faults.Disk → ⊥
  each_refused was is alone call =
      let failed = alone call.before call.after call.failed in
      let same = call.room in
      let ended = call.ended.refused in
      omega (arith, failed, same, ended, is.for_room)

module _ {D : Type 0} (g : DiskGhosts D) (disk : D) where
  pub failed_often : HasCounted g disk (2 ^ 64 - 1) 2 → HasFailed g disk disk false
  failed_often has = record {
    before = disk;
    after = disk;
    begun = later_itself g disk;
    failed = omega arith;
    room = refl;
    ended = later_itself g disk;
  }

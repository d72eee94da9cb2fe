-- Faults of a log, and the calls of its disk that failed.
use Rattle.std.proofs.Common.{◌≡◌, ◌∙◌, inl, inr, ℕ, ◌≤◌, ◌-◌, ◌^◌, min, Bool, true, false, MatchBool, if◌then◌else◌, Result, Ok, Err, IfErr, refl, sym, ap, subst, arith}
use Rattle.std.specs.Prelude.{IsErrAnd, ⊤}
use Rattle.std.specs.IoError.{error_kind}
use Rattle.std.specs.declared.io.Error.{Error}
use Rattle.std.specs.declared.io.ErrorKind.{ErrorKind}
use Rattle.sqlite_disk.specs.Disk.{CountsFault, MoreFaults}
use Rattle.sqlite_disk.specs.Refusal.{is_full_kind, is_no_room}
use Rattle.sqlite_disk.specs.Tally.{CountsRefusal}
use Rattle.sqlite_disk.specs.declared.Disk.{Ghosts}
use Rattle.sqlite_disk.specs.declared.tally.Tally.{Tally}
use Rattle.sealed_log.specs.Disks.{NamesCall}
use Rattle.sealed_log.specs.Faults.{HasFailed, IsLater, IsMetBetween, IsOfCall, fault_of_read, fault_of_write, is_full, is_memory_kind}
use Rattle.sealed_log.specs.declared.fault.LogFault.{LogFault}
use Rattle.sealed_log.specs.declared.fault.LogFault.TheVariants.{NoMemory, Disk, Full}
use Rattle.sealed_log.specs.declared.written.Written.{Written}
use Rattle.sealed_log.specs.declared.written.Written.TheVariants.{Whole, Undone, Lost}
use Rattle.no_memory.specs.Witness.{witness}

-- a `?` that leaves with this error
pub left_with : {T E : Type 0} (P : E → Type 0) (result : Result T E) (error : E) → IsErrAnd result (λ e. e ≡ error) → P error → IfErr result P
left_with P (Ok done) error is holds = absurd is
left_with P (Err e) error is holds = subst P (sym is) holds

-- ---- which faults say that there is no room

full_by : (room memory : Bool) → is_full (if room then Full else if memory then NoMemory witness else Disk) ≡ room
full_by true memory = refl
full_by false true = refl
full_by false false = refl

-- no call that reads has one
full_read : (kind : ErrorKind) → is_full (fault_of_read kind) ≡ false
full_read kind = full_by false (is_memory_kind kind)

full_write : (kind : ErrorKind) → is_full (fault_of_write kind) ≡ is_full_kind kind
full_write kind = full_by (is_full_kind kind) (is_memory_kind kind)

-- what one call makes of the count of those that were refused
rose : (b : Bool) (old new : ℕ) → MatchBool b (MoreFaults old new) (new ≡ old) → min old (2 ^ 64 - 1) ≤ new
rose true old new more = omega (arith, more)
rose false old new same = omega (arith, same)

module _ {D : Type 0} (g : Ghosts D) where
  -- ---- what comes later

  pub later_itself : (d : D) → IsLater g d d
  later_itself d = record { faults = omega arith; refused = omega arith }

  pub later_on : (a b c : D) → IsLater g a b → IsLater g b c → IsLater g a c
  later_on a b c first then_ = record {
    faults = let was = first.faults in let more = then_.faults in omega (arith, was, more);
    refused = let was = first.refused in let more = then_.refused in omega (arith, was, more);
  }

  pub later_by_read : (old new : D) → g.faults old ≤ g.faults new → g.tally_of new ≡ g.tally_of old → IsLater g old new
  later_by_read old new counts same = record {
    faults = counts;
    refused = let refused = ap (λ (t : Tally). t.refused) same in omega (arith, refused);
  }

  pub later_by_write : (old new : D) (result : Result ⊤ Error) → CountsFault result (g.faults old) (g.faults new) → CountsRefusal result (g.tally_of old) (g.tally_of new) → IsLater g old new
  later_by_write old new (Ok done) counts tally = record {
    faults = omega (arith, counts);
    refused = rose false (g.tally_of old).refused (g.tally_of new).refused tally.refused;
  }
  later_by_write old new (Err error) counts tally = record {
    faults = counts.1;
    refused = rose (is_no_room error) (g.tally_of old).refused (g.tally_of new).refused tally.refused;
  }

  -- ---- calls that failed

  -- a call that reads, and one that writes
  read_failed : (old new : D) → MoreFaults (g.faults old) (g.faults new) → g.tally_of new ≡ g.tally_of old → HasFailed g old new false
  read_failed old new more same = record {
    before = old;
    after = new;
    begun = later_itself old;
    failed = more;
    ended = later_itself new;
    room = ap (λ (t : Tally). t.refused) same;
  }

  pub write_failed : (old new : D) (error : Error) → MoreFaults (g.faults old) (g.faults new)
      → CountsRefusal {T = ⊤} (Err error) (g.tally_of old) (g.tally_of new) → HasFailed g old new (is_no_room error)
  write_failed old new error more counts = record {
    before = old;
    after = new;
    begun = later_itself old;
    failed = more;
    ended = later_itself new;
    room = counts.refused;
  }

  -- with other calls before or behind it
  pub failed_later : (old mid new : D) (for_room : Bool) → IsLater g old mid → HasFailed g mid new for_room → HasFailed g old new for_room
  failed_later old mid new for_room counts call = record {
    before = call.before;
    after = call.after;
    begun = later_on old mid call.before counts call.begun;
    failed = call.failed;
    ended = call.ended;
    room = call.room;
  }

  pub failed_sooner : (old mid new : D) (for_room : Bool) → HasFailed g old mid for_room → IsLater g mid new → HasFailed g old new for_room
  failed_sooner old mid new for_room call counts = record {
    before = call.before;
    after = call.after;
    begun = call.begun;
    failed = call.failed;
    ended = later_on call.after mid new call.ended counts;
    room = call.room;
  }

  -- a call that writes is the last one
  pub write_fails : (old mid new : D) (result : Result ⊤ Error) → IsLater g old mid → CountsFault result (g.faults mid) (g.faults new)
      → CountsRefusal result (g.tally_of mid) (g.tally_of new) → IfErr result (λ error. HasFailed g old new (is_no_room error))
  write_fails old mid new (Ok done) counts faults tally = tt
  write_fails old mid new (Err error) counts faults tally = failed_later old mid new (is_no_room error) counts (write_failed mid new error faults.0 tally)

  -- the fault that tells of it
  pub of_read : (old new : D) (error : Error) (fault : LogFault) → MoreFaults (g.faults old) (g.faults new) → g.tally_of new ≡ g.tally_of old → fault ≡ fault_of_read (error_kind error)
      → IsOfCall g old new fault
  of_read old new error fault more same is = subst (HasFailed g old new) (sym (ap is_full is ∙ full_read (error_kind error))) (read_failed old new more same)

  pub of_write : (old new : D) (error : Error) (fault : LogFault) → HasFailed g old new (is_no_room error) → fault ≡ fault_of_write (error_kind error) → IsOfCall g old new fault
  of_write old new error fault call is = subst (HasFailed g old new) (sym (ap is_full is ∙ full_write (error_kind error))) call

  met_later : (old mid new : D) (fault : LogFault) → IsLater g old mid → IsMetBetween g mid new fault → IsMetBetween g old new fault
  met_later old mid new fault counts (inl memory) = inl memory
  met_later old mid new fault counts (inr of) = inr (failed_later old mid new (is_full fault) counts of)

  pub named_later : (old mid new : D) (written : Written) → IsLater g old mid → NamesCall g mid new written → NamesCall g old new written
  named_later old mid new Whole counts names = tt
  named_later old mid new (Undone fault) counts names = failed_later old mid new (is_full fault) counts names
  named_later old mid new (Lost fault) counts names = failed_later old mid new (is_full fault) counts names

  -- ---- a `?` that leaves with it

  pub left_met : {T : Type 0} (old mid new : D) (result : Result T LogFault) (fault : LogFault) → IsErrAnd result (λ e. e ≡ fault)
      → IsLater g old mid → IsMetBetween g mid new fault → IfErr result (IsMetBetween g old new)
  left_met old mid new result fault is counts met = left_with (IsMetBetween g old new) result fault is (met_later old mid new fault counts met)

  pub without_memory : {T : Type 0} (old new : D) (result : Result T LogFault) → IsErrAnd result (λ e. e ≡ NoMemory witness) → IfErr result (IsMetBetween g old new)
  without_memory old new result is = left_with (IsMetBetween g old new) result (NoMemory witness) is (inl refl)

-- A line that was put into a sealed log.
use Rattle.std.proofs.Common.{inl, inr, ◌≡◌, ◌⊎◌, ◌≤◌, ℕ, List, true, false, Result, Ok, Err, IfErr, IsTrue, length, refl, ap, sym, subst}
use Rattle.std.specs.Prelude.{⊤, IsErrOf}
use Rattle.std.proofs.lemmas.Bool.{cases_Bool}
use Rattle.sqlite_disk.specs.Disk.{MoreFaults}
use Rattle.sqlite_disk.specs.declared.Disk.{Ghosts}
use Rattle.sealed_log.specs.Disks.{LeavesTail}
use Rattle.sealed_log.specs.Faults.{IsMetBetween}
use Rattle.sealed_log.specs.Log.{IsAppended as IsPut, bodies_of}
use Rattle.sealed_log.specs.Sealed.{sealed_text, sealed_with, seal_of}
use Rattle.sealed_log.specs.Told.{told}
use Rattle.sealed_log.specs.declared.fault.LogFault.{LogFault}
use Rattle.sealed_log.specs.declared.fault.LogFault.TheVariants as logs
use Rattle.sealed_log.specs.declared.log.SealedLog.{SealedLog}
use Rattle.office_words.specs.declared.fault.Fault.{Fault}
use Rattle.journal.specs.Logs.{FailsAs, fault_meant, in_log, told_meant}
use Rattle.journal.specs.Writing.{IsAppended, IsMet, IsWritten}
use Rattle.no_memory.specs.Witness.{witness}

module _ {D : Type 0} (g : Ghosts D) (old new : SealedLog D g) where
  failed : (fault : LogFault) → (fault ≡ logs.NoMemory witness → ⊥) → IsMetBetween g old.disk new.disk fault → FailsAs g old.disk new.disk (fault_meant fault)
  failed fault other (inl memory) = absurd (other memory)
  failed fault other (inr call) = record { met = fault; call = call; is = refl }

  met : (fault : LogFault) → (old.is_open ≡ true → IsMetBetween g old.disk new.disk fault) → (old.is_open ≡ false → fault ≡ logs.Disk) → IsMet (in_log g) old new (fault_meant fault)
  met (logs.NoMemory _) word shut = tt
  met logs.Disk word shut = λ is_open. failed logs.Disk (λ same. cc) (word is_open)
  met logs.Full word shut = elim (cases_Bool old.is_open) [
    | inl is_open ↦ failed logs.Full (λ same. cc) (word is_open)
    | inr is_shut ↦ absurd (let same : logs.Full ≡ logs.Disk = shut is_shut in cc)
  ]

  same_fault : (fault other : LogFault) → ◌≡◌ {A = Result ⊤ LogFault} (Err fault) (Err other) → fault ≡ other
  same_fault fault other same = cc

  written : (settling : List (List ℕ)) (body : List ℕ) (done : Result ⊤ LogFault)
      → (IsTrue (g.is_clean new.disk) → old.is_open ≡ true → IfErr done (IsMetBetween g old.disk new.disk)) → (old.is_open ≡ false → IsErrOf done logs.Disk)
      → IsPut g old new settling body done → IsWritten (in_log g) old new settling body (told_meant done)
  written settling body (Ok done) word shut put = put
  written settling body (Err fault) word shut put =
      (λ clean is_open. ap told (put is_open clean), λ clean. met fault (word clean) (λ is_shut. same_fault fault logs.Disk (shut is_shut)))

  pub put_appended : (settling : List (List ℕ)) (body : List ℕ) (done : Result ⊤ LogFault) (result : Result ⊤ Fault) → result ≡ told_meant done
      → (IsTrue (g.is_clean new.disk) → IsTrue (g.is_clean old.disk)) → g.faults old.disk ≤ g.faults new.disk
      → (old.is_open ≡ false → new ≡ old)
      → (IsTrue (g.is_clean new.disk) → old.is_open ≡ true → (new.is_open ≡ true) ⊎ MoreFaults (g.faults old.disk) (g.faults new.disk))
      → (old.is_open ≡ false → IsErrOf done logs.Disk) → (IsTrue (g.is_clean new.disk) → old.is_open ≡ true → IfErr done (IsMetBetween g old.disk new.disk))
      → IsPut g old new settling body done
      → (old.is_open ≡ true → IsTrue (g.is_clean new.disk)
      → LeavesTail g new.disk (sealed_text (bodies_of g old)) (length (sealed_with (seal_of (bodies_of g old)) settling body)))
      → IsAppended (in_log g) old new settling body result
  put_appended settling body done result same clean counts shut closes refused word put crash = subst (IsAppended (in_log g) old new settling body) (sym same) (record {
    clean = clean;
    counts = counts;
    closes = closes;
    written = written settling body done word refused put;
    crash = λ is_clean left may. elim (cases_Bool old.is_open) [
      | inl is ↦ inr (record { is_open = is; left = crash is is_clean left may })
      | inr is_not ↦ inl (subst (λ (j : SealedLog D g). g.may_leave j.disk left) (shut is_not) may)
    ];
  })

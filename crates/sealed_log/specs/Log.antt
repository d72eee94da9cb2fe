-- A log whose lines are sealed.
use Rattle.std.specs.Prelude.{◌≡◌, ◌+◌, List, ℕ, [], ◌∷◌, ◌++◌, All, length, Result, Ok, Err, ⊤}
use Rattle.std.specs.Prelude.{true, IsTrue}
use Rattle.sqlite_disk.specs.declared.Disk.{Ghosts}
use Rattle.sealed_log.specs.Sealed.{IsBody, last_seal, seal_on, sealed_with}
use Rattle.sealed_log.specs.Told.{told}
use Rattle.sealed_log.specs.declared.fault.LogFault.{LogFault}
use Rattle.sealed_log.specs.declared.log.SealedLog.{SealedLog}

-- the text has the lines of a body and of such that go before it, behind what has the seal `prior`;
-- the last of them has this seal, and they are so many
pub record AreLines (prior : List ℕ) (settling : List (List ℕ)) (body text seal : List ℕ) (lines : ℕ)
    : Type 0 where
  pub are : All IsBody settling
  pub is_body : IsBody body
  pub is : text ≡ sealed_with prior settling body
  pub sealed : seal ≡ seal_on (last_seal prior settling) body
  pub counted : lines ≡ length settling + 1

module _ {D : Type 0} (g : Ghosts D) where
  -- the bodies in its file
  abbrev pub bodies_of : SealedLog D g → List (List ℕ)
  bodies_of log = told (g.seen log.disk)

  -- the log has the settling bodies and one more; or a fault was met, and a log that is still open
  -- has what it had
  abbrev pub IsAppended : (old new : SealedLog D g) → (settling : List (List ℕ)) → (body : List ℕ)
      → Result ⊤ LogFault → Type 0
  IsAppended old new settling body (Ok done) =
      (new.is_open ≡ true)
      × (IsTrue (g.is_clean new.disk)
      → bodies_of new ≡ bodies_of old ++ (settling ++ body ∷ []))
  IsAppended old new settling body (Err fault) =
      new.is_open ≡ true → IsTrue (g.is_clean new.disk) → g.seen new.disk ≡ g.seen old.disk

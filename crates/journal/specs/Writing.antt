-- What a journal is to those who write it.
use Rattle.std.specs.Prelude.{◌≡◌, ◌⊎◌, ◌≤◌, ◌-◌, ◌^◌, ℕ, min, List, [], ◌∷◌, ◌++◌, length, Bool}
use Rattle.std.specs.Prelude.{Result, Ok, Err, IsTrue, ⊤}
use Rattle.sealed_log.specs.Sealed.{sealed_text, sealed_with, seal_of}
use Rattle.sealed_log.specs.Told.{HasTail}
use Rattle.office_words.specs.declared.fault.Fault.{Fault}
use Rattle.office_words.specs.declared.fault.Fault.TheVariants as faults
use Rattle.office_policy.specs.Handled.{HasRisen}

-- what is meant by a value to which the bodies of sealed lines are written
pub record Writing (X : Type 0) : Type 1 where
  -- the value has returned what was written to it
  pub is_clean : X → Type 0
  -- the bodies that it has
  pub bodies : X → List (List ℕ)
  -- no call has left a part of a line
  pub is_open : X → Bool
  -- how many lines it has, up to the greatest u64
  pub lines : X → ℕ
  -- how many calls failed, up to the greatest u64
  pub faults : X → ℕ
  -- a call between the two failed, and this is its fault
  pub fails : X → X → Fault → Type 0
  -- what a crash may leave of its file
  pub may_leave : X → List ℕ → Type 0
  -- of an open one those are just its bodies, sealed
  pub settled : (x : X) → is_clean x → IsTrue (is_open x) → (left : List ℕ) → may_leave x left
      → left ≡ sealed_text (bodies x)
  -- the lines of an open one are as many as its bodies, up to the greatest u64
  pub counted : (x : X) → is_clean x → IsTrue (is_open x)
      → lines x ≡ min (length (bodies x)) (2 ^ 64 - 1)
  -- each call that failed is one of so many
  pub risen : (old new : X) (fault : Fault) → fails old new fault
      → HasRisen (faults old) (faults new)

-- the bodies, sealed, and behind them what may be left of the line of one more and of those that go
-- before it, whatever that is
abbrev pub IsLeftIn : (bodies settling : List (List ℕ)) → (body left : List ℕ) → Type 0
IsLeftIn bodies settling body left =
    HasTail (sealed_text bodies) (length (sealed_with (seal_of bodies) settling body)) left

module _ {X : Type 0} (w : Writing X) where
  -- a fault other than `memory` is that of a call between the two which failed, or it is `disk` and the
  -- value was shut before
  abbrev pub IsMet : (old new : X) → Fault → Type 0
  IsMet old new (faults.NoMemory _) = Unit {0}
  IsMet old new faults.Disk = IsTrue (w.is_open old) → w.fails old new faults.Disk
  IsMet old new faults.Full = w.fails old new faults.Full
  IsMet old new faults.NotAnOffice = ⊥

  -- the body is there, behind those that go before it; or there was a fault, and what is still open
  -- has what it had
  abbrev pub IsWritten : (old new : X) → (settling : List (List ℕ)) → (body : List ℕ)
      → Result ⊤ Fault → Type 0
  IsWritten old new settling body (Ok done) =
      IsTrue (w.is_open new)
      × (w.is_clean new → w.bodies new ≡ w.bodies old ++ (settling ++ body ∷ []))
  IsWritten old new settling body (Err fault) =
      (w.is_clean new → IsTrue (w.is_open new) → w.bodies new ≡ w.bodies old)
      × (w.is_clean new → IsMet old new fault)

  -- the value was open, and these lines are left behind its bodies, or a part of them
  pub record IsLeftInPart (x : X) (settling : List (List ℕ)) (body file : List ℕ) : Type 0 where
    pub is_open : IsTrue (w.is_open x)
    pub left : IsLeftIn (w.bodies x) settling body file

  -- the line of this body was written behind all that is there, and before it those that go before
  -- it; or there was a fault
  pub record IsAppended (old new : X) (settling : List (List ℕ)) (body : List ℕ)
      (result : Result ⊤ Fault) : Type 0 where
    -- what is clean was clean before
    pub clean : w.is_clean new → w.is_clean old
    -- no fault is forgotten
    pub counts : w.faults old ≤ w.faults new
    -- only a fault shuts it
    pub closes : w.is_clean new → IsTrue (w.is_open old)
        → IsTrue (w.is_open new) ⊎ HasRisen (w.faults old) (w.faults new)
    pub written : IsWritten old new settling body result
    -- a crash may leave what it could leave before, or all of it and a part of the lines
    pub crash : w.is_clean new → (left : List ℕ) → w.may_leave new left
        → w.may_leave old left ⊎ IsLeftInPart old settling body left

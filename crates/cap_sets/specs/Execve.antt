-- What execve makes of the capability sets of a process: capabilities(7), "Transformation of
-- capabilities during execve()". P is the state before, F the file and P' the state after.
use Rattle.std.specs.Prelude.{◌≡◌, ℕ, Bool, false, IsTrue, MatchBool}
use Rattle.cap_sets.specs.NumberSet.{NumberSet, nothing, members, HasExactly, ◌∪◌, ◌∩◌}
use Rattle.cap_sets.specs.declared.exec.File.{File}
use Rattle.cap_sets.specs.declared.exec.File.TheVariants.{Plain, WithCaps}
use Rattle.cap_sets.specs.declared.state.CapState.{CapState}

-- F(permitted)
abbrev pub file_permitted : File → NumberSet
file_permitted Plain = nothing
file_permitted (WithCaps permitted inheritable effective) = members permitted

-- F(inheritable)
abbrev pub file_inheritable : File → NumberSet
file_inheritable Plain = nothing
file_inheritable (WithCaps permitted inheritable effective) = members inheritable

-- F(effective), which is one bit
abbrev pub file_effective : File → Bool
file_effective Plain = false
file_effective (WithCaps permitted inheritable effective) = effective

-- P'(ambient) = none if the file has capabilities, else P(ambient)
abbrev pub ambient_after : CapState → File → NumberSet
ambient_after before Plain = members before.ambient
ambient_after before (WithCaps permitted inheritable effective) = nothing

-- P'(permitted) = (P(inheritable) & F(inheritable)) | (F(permitted) & P(bounding)) | P'(ambient)
abbrev pub permitted_after : CapState → File → NumberSet
permitted_after before file =
    members before.inheritable ∩ file_inheritable file
    ∪ file_permitted file ∩ members before.bounding
    ∪ ambient_after before file

-- P'(effective) = P'(permitted) if F(effective), else P'(ambient)
abbrev pub effective_after : CapState → File → NumberSet
effective_after before file n =
    MatchBool (file_effective file) (permitted_after before file n) (ambient_after before file n)

-- the state after execve, where the effective bit is not set on a file whose permitted capabilities
-- are not all gained
pub record IsAfter (before : CapState) (file : File) (after : CapState) : Type 0 where
  pub gained : IsTrue (file_effective file) → (n : ℕ) → file_permitted file n
      → permitted_after before file n
  pub ambient : HasExactly after.ambient (ambient_after before file)
  pub permitted : HasExactly after.permitted (permitted_after before file)
  pub effective : HasExactly after.effective (effective_after before file)
  pub inheritable : after.inheritable ≡ before.inheritable
  pub bounding : after.bounding ≡ before.bounding

-- no state is after execve: the effective bit is set, and P'(permitted) lacks a member of
-- F(permitted)
abbrev pub IsDenied : CapState → File → Type 0
IsDenied before file =
    IsTrue (file_effective file)
    × ((n : ℕ) × (file_permitted file n × ¬ permitted_after before file n))

-- the state after execve of a plain file by root: P'(permitted) = P(inheritable) | P(bounding), all
-- of it effective
pub record IsAfterRoot (before after : CapState) : Type 0 where
  pub permitted : HasExactly after.permitted (members before.inheritable ∪ members before.bounding)
  pub effective : after.effective ≡ after.permitted
  pub ambient : after.ambient ≡ before.ambient
  pub inheritable : after.inheritable ≡ before.inheritable
  pub bounding : after.bounding ≡ before.bounding

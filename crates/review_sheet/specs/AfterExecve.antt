-- The states after execve that a sheet shows: of a plain file, and of a plain file by root. Each
-- comes with what it is by capabilities(7), so that there is always one.
use Rattle.std.specs.Prelude.{ℕ}
use Rattle.std.proofs.Common.{inl, inr, refl}
use Rattle.std.proofs.lemmas.Bool.{false≢true}
use Rattle.std.specs.Int.RustNames.{bit_or}
use Rattle.cap_sets.specs.Capability.{Has}
use Rattle.cap_sets.specs.declared.exec.File.TheVariants.{Plain}
use Rattle.cap_sets.specs.declared.state.CapState.{CapState}
use Rattle.cap_sets.specs.Execve.{IsAfter, IsAfterRoot, permitted_after}
use Rattle.cap_sets.proofs.Bits.{either_from_or, or_from_either}

-- of a plain file just what is ambient is permitted
pub only_ambient : (before : CapState) (n : ℕ) → permitted_after before Plain n
    → Has before.ambient n
only_ambient before n (inl (inl inherited)) = absurd inherited.1
only_ambient before n (inl (inr granted)) = absurd granted.0
only_ambient before n (inr ambient) = ambient

-- the state after execve of a plain file, which is never denied
abbrev pub after_plain : (before : CapState) → (after : CapState) × IsAfter before Plain after
after_plain before = (
  record before {
    effective = before.ambient;
    permitted = before.ambient;
    lawful = record {
      effective_permitted = λ n h. h;
      ambient_permitted = λ n h. h;
      ambient_inheritable = before.lawful.ambient_inheritable;
    };
  },
  record {
    gained = λ set. absurd (false≢true set);
    ambient = λ n. (λ h. h, λ h. h);
    permitted = λ n. (inr, only_ambient before n);
    effective = λ n. (λ h. h, λ h. h);
    inheritable = refl;
    bounding = refl;
  },
)

-- the state after execve of a plain file by root
abbrev pub after_root : (before : CapState) → (after : CapState) × IsAfterRoot before after
after_root before = (
  record before {
    effective = bit_or before.inheritable before.bounding;
    permitted = bit_or before.inheritable before.bounding;
    lawful = record {
      effective_permitted = λ n h. h;
      ambient_permitted = λ n h. or_from_either before.inheritable before.bounding n
          (inl (before.lawful.ambient_inheritable n h));
      ambient_inheritable = before.lawful.ambient_inheritable;
    };
  },
  record {
    permitted = λ n. (
      either_from_or before.inheritable before.bounding n,
      or_from_either before.inheritable before.bounding n,
    );
    effective = refl;
    ambient = refl;
    inheritable = refl;
    bounding = refl;
  },
)

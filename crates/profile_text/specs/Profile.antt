-- Profiles: a lawful state of the capability sets, and the filter, where there is one.
use Rattle.std.specs.Prelude.{◌==◌, ℕ, Bool, not, Some}
use Rattle.std.specs.Int.RustNames.{bit_and, bit_or}
use Rattle.cap_sets.specs.declared.state.CapState.{CapState}
use Rattle.seccomp_doc.specs.declared.action.Action.TheVariants.{KillProcess}
use Rattle.seccomp_doc.specs.Meaning.{only_default}
use Rattle.profile_text.specs.declared.profile.Profile.{Profile}

-- the state with no capability in any set
abbrev pub no_caps : CapState
no_caps = record {
  effective = 0;
  permitted = 0;
  inheritable = 0;
  bounding = 0;
  ambient = 0;
  lawful = record {
    effective_permitted = λ n h. h;
    ambient_permitted = λ n h. h;
    ambient_inheritable = λ n h. h;
  };
}

-- the profile that permits nothing: no capability, and each call ends the process
abbrev pub closed_profile : Profile
closed_profile = record { caps = no_caps; filter = Some (only_default KillProcess) }

-- the capabilities that a state has in any of its five sets
abbrev pub all_sets : CapState → ℕ
all_sets s =
    bit_or s.effective (bit_or s.permitted (bit_or s.inheritable (bit_or s.bounding s.ambient)))

-- the listed capabilities that a profile has in any set
abbrev pub listed_in : ℕ → Profile → ℕ
listed_in listed p = bit_and listed (all_sets p.caps)

-- whether a profile has a listed capability
abbrev pub holds_listed : ℕ → Profile → Bool
holds_listed listed p = not (listed_in listed p == 0)

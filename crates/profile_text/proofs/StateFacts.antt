-- The state of five sets is what `CapState::new` gives.
use Rattle.std.proofs.Common.{◌≡◌, Option, Some, None, Result, Ok, Err, refl, ap}
use Rattle.std.specs.Prelude.{IfOk}
use Rattle.std.specs.Result.{result_err}
use Rattle.cap_sets.specs.declared.state.CapState.{CapState}
use Rattle.cap_sets.specs.declared.state.CapFault.{CapFault}
use Rattle.profile_text.specs.declared.sets.Sets.{Sets}
use Rattle.profile_text.specs.State.{fault_in, state_by, state_of}
use Rattle.profile_text.proofs.States.{same_state}

-- the state of just these sets
abbrev pub IsOfSets : Sets → CapState → Type 0
IsOfSets s state = (state.effective ≡ s.effective) × (state.permitted ≡ s.permitted) × (state.inheritable ≡ s.inheritable) × (state.bounding ≡ s.bounding) × (state.ambient ≡ s.ambient)

told_by : (s : Sets) (fault : Option CapFault) (is : fault_in s ≡ fault) (r : Result CapState CapFault) → IfOk r (IsOfSets s) → result_err r ≡ fault → r ≡ state_by s fault is
told_by s None is (Ok state) sets told = ap (λ x. Ok x) (same_state state _ sets.0 sets.1 sets.2 sets.3 sets.4)
told_by s None is (Err fault) sets told = absurd (cc)
told_by s (Some first) is (Ok state) sets told = absurd (cc)
told_by s (Some first) is (Err fault) sets told = let same : fault ≡ first = cc in ap (λ x. Err x) same

pub state_told : (s : Sets) (r : Result CapState CapFault) → IfOk r (IsOfSets s) → result_err r ≡ fault_in s → r ≡ state_of s
unfolding state_of
state_told s r sets told = told_by s (fault_in s) refl r sets told

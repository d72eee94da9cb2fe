-- The state of five sets where it is lawful, and else its first fault.
use Rattle.std.specs.Prelude.{◌≡◌, Option, Some, None, Result, Ok, Err, refl}
use Rattle.cap_sets.specs.Lawful.{first_fault}
use Rattle.cap_sets.specs.declared.state.CapState.{CapState}
use Rattle.cap_sets.specs.declared.state.CapFault.{CapFault}
use Rattle.cap_sets.proofs.Faults.{lawful_from_no_fault}
use Rattle.profile_text.specs.declared.sets.Sets.{Sets}

-- the first fault of five sets
abbrev pub fault_in : Sets → Option CapFault
fault_in s = first_fault s.effective s.permitted s.inheritable s.ambient

-- the state of five sets with no fault, and else the fault that they have
abbrev pub state_by :
    (s : Sets) (fault : Option CapFault) → fault_in s ≡ fault → Result CapState CapFault
state_by s None none = Ok (record {
  effective = s.effective;
  permitted = s.permitted;
  inheritable = s.inheritable;
  bounding = s.bounding;
  ambient = s.ambient;
  lawful = lawful_from_no_fault s.effective s.permitted s.inheritable s.ambient none;
})
state_by s (Some fault) first = Err fault

-- the state of five sets, where it is lawful, and else its first fault
unfoldable pub state_of : Sets → Result CapState CapFault
state_of s = state_by s (fault_in s) refl

-- Lawful states of a process, and the first fault of five sets that are none.
use Rattle.std.specs.Prelude.{ℕ, ◌==◌, Bool, not, ◌&&◌, List, ◌++◌, Option, option_map, find, codes}
use Rattle.std.specs.Prelude.{decimal}
use Rattle.std.specs.Int.{bit_at}
use Rattle.std.specs.Int.RustNames.{bit_and}
use Rattle.std.specs.List.{range_with_len}
use Rattle.std.specs.Option.{option_or}
use Rattle.cap_sets.specs.Capability.{IsWithin}
use Rattle.cap_sets.specs.declared.state.CapFault.{CapFault}
use Rattle.cap_sets.specs.declared.state.CapFault.TheVariants.{EffectiveOutside, AmbientOutside}

-- effective is within permitted, and ambient is within permitted and within inheritable
pub record IsLawfulState (effective permitted inheritable ambient : ℕ) : Type 0 where
  pub effective_permitted : IsWithin effective permitted
  pub ambient_permitted : IsWithin ambient permitted
  pub ambient_inheritable : IsWithin ambient inheritable

-- capability n is in the first set and not in the second
abbrev pub is_outside : ℕ → ℕ → ℕ → Bool
is_outside a b n = bit_at a n == 1 && not (bit_at b n == 1)

-- the lowest capability that is in the first set and not in the second; what is in a set is below
-- the number that it is
unfoldable pub lowest_outside : ℕ → ℕ → Option ℕ
lowest_outside a b = find (is_outside a b) (range_with_len 0 a)

-- the first fault: the lowest effective capability that isn't permitted, or else the lowest ambient
-- one that isn't both permitted and inheritable
unfoldable pub first_fault : (effective permitted inheritable ambient : ℕ) → Option CapFault
first_fault effective permitted inheritable ambient =
    option_or
    (option_map EffectiveOutside (lowest_outside effective permitted))
    (option_map AmbientOutside (lowest_outside ambient (bit_and permitted inheritable)))

-- the text of a fault: its word and the number in decimal digits
abbrev pub fault_text : CapFault → List ℕ
fault_text (EffectiveOutside n) = codes "effective-outside " ++ decimal n
fault_text (AmbientOutside n) = codes "ambient-outside " ++ decimal n

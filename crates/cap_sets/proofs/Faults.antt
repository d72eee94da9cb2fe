-- Five sets have no fault just where they are lawful.
use Rattle.std.proofs.Common.{◌≡◌, ◌∙◌, ℕ, Option, Some, None, refl, ap}
use Rattle.std.specs.Int.RustNames.{bit_and}
use Rattle.std.specs.Option.{option_or}
use Rattle.std.specs.Prelude.{option_map}
use Rattle.cap_sets.specs.Capability.{Has}
use Rattle.cap_sets.specs.Lawful.{IsLawfulState, first_fault, lowest_outside}
use Rattle.cap_sets.specs.declared.state.CapFault.{CapFault}
use Rattle.cap_sets.specs.declared.state.CapFault.TheVariants.{EffectiveOutside, AmbientOutside}
use Rattle.cap_sets.proofs.Bits.{both_from_and, and_from_both}
use Rattle.cap_sets.proofs.Searches.{within_from_search, search_from_within}

-- the first fault, by what the two searches find
abbrev fault_by : Option ℕ → Option ℕ → Option CapFault
fault_by effective ambient = option_or (option_map EffectiveOutside effective) (option_map AmbientOutside ambient)

neither_found : (effective ambient : Option ℕ) → fault_by effective ambient ≡ None → (effective ≡ None) × (ambient ≡ None)
neither_found None None e = (refl, refl)
neither_found None (Some n) e = absurd (cc)
neither_found (Some n) ambient e = absurd (cc)

pub lawful_from_no_fault : (e p i a : ℕ) → first_fault e p i a ≡ None → IsLawfulState e p i a
unfolding first_fault
lawful_from_no_fault e p i a none =
    let found = neither_found (lowest_outside e p) (lowest_outside a (bit_and p i)) none in
    let both : (n : ℕ) → Has a n → Has p n × Has i n = λ n has. both_from_and p i n (within_from_search a (bit_and p i) found.1 n has) in
    record {
      effective_permitted = within_from_search e p found.0;
      ambient_permitted = λ n has. (both n has).0;
      ambient_inheritable = λ n has. (both n has).1;
    }

pub no_fault_from_lawful : (e p i a : ℕ) → IsLawfulState e p i a → first_fault e p i a ≡ None
unfolding first_fault
no_fault_from_lawful e p i a lawful =
    let within = search_from_within a (bit_and p i) (λ n has. and_from_both p i n (lawful.ambient_permitted n has, lawful.ambient_inheritable n has)) in
    ap (λ found. fault_by found (lowest_outside a (bit_and p i))) (search_from_within e p lawful.effective_permitted) ∙ ap (fault_by None) within

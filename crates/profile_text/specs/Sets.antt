-- The five sets that a document names. A set is the number whose bit n is set where capability n is
-- a member.
use Rattle.std.specs.Prelude.{ℕ, List, [], ◌∷◌, Option, Some, None, find, bytes_eq, codes}
use Rattle.std.specs.Option.{option_map_or}
use Rattle.std.specs.Int.RustNames.{bit_or}
use Rattle.serde_json.specs.Data.{Data, null, boolean, number, string, array, object, Items}
use Rattle.serde_json.specs.Data.{no_items, item, Members}
use Rattle.cap_sets.specs.Capability.{number_named, single}
use Rattle.profile_text.specs.declared.sets.CapSet.{CapSet}
use Rattle.profile_text.specs.declared.sets.CapSet.TheVariants.{Ambient, Bounding, Effective}
use Rattle.profile_text.specs.declared.sets.CapSet.TheVariants.{Inheritable, Permitted}
use Rattle.profile_text.specs.declared.sets.Sets.{Sets}
use Rattle.profile_text.specs.Shape.{member_of}

-- the member that holds the set
abbrev pub set_name : CapSet → List ℕ
set_name Ambient = codes "ambient"
set_name Bounding = codes "bounding"
set_name Effective = codes "effective"
set_name Inheritable = codes "inheritable"
set_name Permitted = codes "permitted"

abbrev pub cap_sets : List CapSet
cap_sets = Ambient ∷ Bounding ∷ Effective ∷ Inheritable ∷ Permitted ∷ []

-- the set whose member has this name
unfoldable pub set_named : List ℕ → Option CapSet
set_named name = find (λ set. bytes_eq name (set_name set)) cap_sets

-- one of the sets
abbrev pub set_in : CapSet → Sets → ℕ
set_in Ambient s = s.ambient
set_in Bounding s = s.bounding
set_in Effective s = s.effective
set_in Inheritable s = s.inheritable
set_in Permitted s = s.permitted

-- the sets with one of them replaced
abbrev pub with_set : CapSet → ℕ → Sets → Sets
with_set Ambient caps s = record s { ambient = caps }
with_set Bounding caps s = record s { bounding = caps }
with_set Effective caps s = record s { effective = caps }
with_set Inheritable caps s = record s { inheritable = caps }
with_set Permitted caps s = record s { permitted = caps }

abbrev pub no_sets : Sets
no_sets = record { ambient = 0; bounding = 0; effective = 0; inheritable = 0; permitted = 0 }

-- the capability of this name alone
abbrev pub named_cap : List ℕ → ℕ
named_cap name = option_map_or single (number_named name) 0

abbrev pub cap_of : Data → ℕ
cap_of (string s) = named_cap s
cap_of null = 0
cap_of (boolean b) = 0
cap_of (number n) = 0
cap_of (array ds) = 0
cap_of (object ms) = 0

-- the capabilities that a list names
unfoldable pub caps_of : Items → ℕ
caps_of no_items = 0
caps_of (item d ds) = bit_or (cap_of d) (caps_of ds)

-- the set that a value stands for; null stands for the empty set
unfoldable pub set_of : Data → ℕ
set_of (array ds) = caps_of ds
set_of null = 0
set_of (boolean b) = 0
set_of (number n) = 0
set_of (string s) = 0
set_of (object ms) = 0

-- the sets with the one that a member of `capabilities` gives
abbrev pub sets_with : Option CapSet → Data → Sets → Sets
sets_with None d s = s
sets_with (Some set) d s = with_set set (set_of d) s

-- the set of a member, empty where the member is absent
abbrev pub member_set : List ℕ → Members → ℕ
member_set name ms = option_map_or set_of (member_of name ms) 0

unfoldable pub sets_in : Members → Sets
sets_in ms = record {
  ambient = member_set (codes "ambient") ms;
  bounding = member_set (codes "bounding") ms;
  effective = member_set (codes "effective") ms;
  inheritable = member_set (codes "inheritable") ms;
  permitted = member_set (codes "permitted") ms;
}

-- the sets of `capabilities`
unfoldable pub sets_of : Data → Sets
sets_of (object ms) = sets_in ms
sets_of null = no_sets
sets_of (boolean b) = no_sets
sets_of (number n) = no_sets
sets_of (string s) = no_sets
sets_of (array ds) = no_sets

-- The members that the objects of a document may have.
use Rattle.std.specs.Prelude.{ℕ, List, [], ◌∷◌, map, Bool, true, false, is_some, codes}
use Rattle.serde_json.specs.Data.{Data, null, boolean, number, string, array, object}
use Rattle.cap_sets.specs.Capability.{number_named}
use Rattle.profile_text.specs.declared.fault.DocFault.{DocFault}
use Rattle.profile_text.specs.declared.fault.DocFault.TheVariants.{WrongShape}
use Rattle.profile_text.specs.declared.sets.CapSet.{CapSet}
use Rattle.profile_text.specs.Sets.{set_name, cap_sets}
use Rattle.profile_text.specs.Shape.{Shape, Row, word_faults, list_faults, optional_faults}
use Rattle.profile_text.specs.Shape.{object_faults}
use Rattle.profile_text.specs.FilterShape.{seccomp_faults}

-- the name of a capability
abbrev pub is_cap_name : List ℕ → Bool
is_cap_name s = is_some (number_named s)

-- a set: a list of names of capabilities, or absent
abbrev pub set_faults : Shape
set_faults path d = optional_faults (list_faults (word_faults is_cap_name)) path d

-- `capabilities`: any of the five sets
abbrev pub caps_row : CapSet → Row
caps_row set = record { name = set_name set; is_required = false; shape = set_faults }

abbrev pub caps_rows : List Row
caps_rows = map caps_row cap_sets

unfoldable pub caps_faults : Shape
caps_faults path (object ms) = object_faults caps_rows path ms
caps_faults path null = WrongShape path ∷ []
caps_faults path (boolean b) = WrongShape path ∷ []
caps_faults path (number n) = WrongShape path ∷ []
caps_faults path (string s) = WrongShape path ∷ []
caps_faults path (array ds) = WrongShape path ∷ []

-- the document
abbrev pub document_rows : List Row
document_rows =
    record { name = codes "capabilities"; is_required = true; shape = caps_faults }
    ∷ record { name = codes "seccomp"; is_required = false; shape = seccomp_faults }
    ∷ []

-- a whole document: its path is a slash, and its members stand below no name
unfoldable pub document_faults : Data → List DocFault
document_faults (object ms) = object_faults document_rows [] ms
document_faults null = WrongShape (codes "/") ∷ []
document_faults (boolean b) = WrongShape (codes "/") ∷ []
document_faults (number n) = WrongShape (codes "/") ∷ []
document_faults (string s) = WrongShape (codes "/") ∷ []
document_faults (array ds) = WrongShape (codes "/") ∷ []

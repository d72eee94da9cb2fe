-- The parts that a document names: five sets, and those of a filter.
use Rattle.std.specs.Prelude.{ℕ, List, Some, None, option_map, unwrap_or, bytes_eq, codes}
use Rattle.std.specs.Prelude.{if◌then◌else◌}
use Rattle.std.specs.Option.{option_map_or}
use Rattle.serde_json.specs.Data.{Data, null, boolean, number, string, array, object, Members}
use Rattle.profile_text.specs.declared.document.Found.{Found}
use Rattle.profile_text.specs.declared.document.Parts.{Parts}
use Rattle.profile_text.specs.FilterParts.{seccomp_in}
use Rattle.profile_text.specs.Sets.{sets_of, no_sets}
use Rattle.profile_text.specs.Shape.{member_of}

-- what the members give, where they are there
abbrev pub found_in : Members → Found
found_in ms = record {
  sets = option_map sets_of (member_of (codes "capabilities") ms);
  filter = option_map_or seccomp_in (member_of (codes "seccomp") ms) None;
}

-- what was found so far, with one member more
abbrev pub found_with : List ℕ → Data → Found → Found
found_with name d found = record {
  sets = if bytes_eq name (codes "capabilities") then Some (sets_of d) else found.sets;
  filter = if bytes_eq name (codes "seccomp") then seccomp_in d else found.filter;
}

abbrev pub parts_of : Found → Parts
parts_of found = record { sets = unwrap_or found.sets no_sets; filter = found.filter }

abbrev pub no_parts : Parts
no_parts = record { sets = no_sets; filter = None }

-- the parts of a document
unfoldable pub document_parts : Data → Parts
document_parts (object ms) = parts_of (found_in ms)
document_parts null = no_parts
document_parts (boolean b) = no_parts
document_parts (number n) = no_parts
document_parts (string s) = no_parts
document_parts (array ds) = no_parts

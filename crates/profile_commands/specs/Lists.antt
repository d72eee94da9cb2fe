-- Lists of capabilities as a command line writes them: names joined by commas.
use Rattle.std.specs.Prelude.{ℕ, ◌==◌, Bool, not, List, Option, is_some}
use Rattle.std.specs.List.{slice_split}
use Rattle.cap_sets.specs.Capability.{number_named, set_named}

-- the parts between commas; the empty text has one part, which is empty
abbrev pub parts_of : List ℕ → List (List ℕ)
parts_of list = slice_split (λ byte. byte == 44) list

-- the set of just the capabilities that the parts name, where each part names one
abbrev pub set_listed : List ℕ → Option ℕ
set_listed list = set_named (parts_of list)

-- no capability has this name
abbrev pub is_unknown : List ℕ → Bool
is_unknown name = not (is_some (number_named name))

-- What a filter means: what becomes of a call with six argument words.
use Rattle.std.specs.Prelude.{ℕ, List, [], Bool, ◌&&◌, slice_index, find, bytes_eq}
use Rattle.std.specs.List.{list_any, list_all}
use Rattle.std.specs.Option.{option_map_or}
use Rattle.seccomp_doc.specs.declared.action.Action.{Action}
use Rattle.seccomp_doc.specs.declared.compare.Compare.{Compare}
use Rattle.seccomp_doc.specs.Compare.{admits}
use Rattle.seccomp_doc.specs.Filter.{EntryValue, FilterValue}

-- each comparison admits the word at its index
abbrev pub admits_words : List Compare → List ℕ → Bool
admits_words args words = list_all (λ c. admits c (slice_index words c.index)) args

-- the entry speaks of the call
abbrev pub has_name : List ℕ → EntryValue → Bool
has_name name e = list_any (bytes_eq name) e.names

-- the entry speaks of the call and admits the words
abbrev pub is_match : List ℕ → List ℕ → EntryValue → Bool
is_match name words e = has_name name e && admits_words e.args words

-- the action of an entry that matches, else the default
abbrev pub meaning : FilterValue → List ℕ → List ℕ → Action
meaning f name words =
    option_map_or (λ e. e.action) (find (is_match name words) f.entries) f.default

-- the filter that has a default and nothing else
abbrev pub only_default : Action → FilterValue
only_default action = record { default = action; architectures = []; flags = []; entries = [] }

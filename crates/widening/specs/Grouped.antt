-- The entries of a group.
use Rattle.std.specs.Prelude.{List}
use Rattle.seccomp_doc.specs.Filter.{EntryValue}
use Rattle.widening.specs.declared.groups.Group.{Group}
use Rattle.widening.specs.Groups.{entries_at}

-- the entries at the places of a group
abbrev pub entries_in : Group → List EntryValue
entries_in g = entries_at g.entries.now g.places.now

-- The paths of the objects of a document.
use Rattle.std.specs.Prelude.{ℕ, List, [], codes, decimal}
use Rattle.profile_text.specs.Shape.{below}
use Rattle.profile_text.specs.declared.place.Place.{Place}
use Rattle.profile_text.specs.declared.place.Place.TheVariants.{Document, Capabilities, Filter}
use Rattle.profile_text.specs.declared.place.Place.TheVariants.{Entry, Argument}

-- members stand below it: below no name those of the whole document
abbrev pub path_of : Place → List ℕ
path_of Document = []
path_of Capabilities = codes "/capabilities"
path_of Filter = codes "/seccomp"
path_of (Entry i) = below (below (codes "/seccomp") (codes "syscalls")) (decimal i)
path_of (Argument i j) =
    below (below (below (below (codes "/seccomp") (codes "syscalls")) (decimal i)) (codes "args"))
    (decimal j)

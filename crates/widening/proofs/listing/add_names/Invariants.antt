use Rattle.std.proofs.Common.{◌≡◌, ◌++◌, take}
use Rattle.widening.specs.Texts.{texts_in}
use Rattle.widening.proofs.listing.add_names.Given as goal

abbrev pub invariant-loop-name : goal.invariant-loop-name
invariant-loop-name l = texts_in l.names.items ≡ texts_in l.initial.names.items ++ take l.name-index l.added

use Rattle.std.proofs.Common.{◌≡◌, ◌++◌, take}
use Rattle.widening.specs.Calls.{entry_names}
use Rattle.widening.specs.Texts.{texts_in}
use Rattle.widening.proofs.listing.add_entries.Given as goal

abbrev pub invariant-loop-entry : goal.invariant-loop-entry
invariant-loop-entry l = texts_in l.names.items ≡ texts_in l.initial.names.items ++ entry_names (take l.entry-index l.entries)

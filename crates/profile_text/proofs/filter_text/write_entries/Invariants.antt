use Rattle.std.proofs.Common.{drop}
use Rattle.profile_text.specs.Text.{entry_data}
use Rattle.json_tree.proofs.Writing.{Leaves}
use Rattle.profile_text.proofs.filter_text.write_entries.Given as goal

abbrev pub invariant-loop-entry : goal.invariant-loop-entry
invariant-loop-entry l = Leaves entry_data l.entries (drop l.entry-index l.entries) l.initial.out l.out

use Rattle.json_tree.proofs.Views.{view-Object}
use Rattle.profile_text.specs.FilterParts.{entry_in}
use Rattle.profile_text.specs.FilterShape.{table_faults}
use Rattle.profile_text.proofs.entry.entry_of.Goals as goal

pub returns-in-Object : goal.returns-in-Object
unfolding entry_in table_faults
returns-in-Object c = rw (c.in-Object.is, view-Object c.in-Object.members) c.entry_at.ensures

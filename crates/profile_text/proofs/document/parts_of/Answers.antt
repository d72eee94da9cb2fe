use Rattle.json_tree.proofs.Views.{view-Object}
use Rattle.profile_text.specs.Document.{document_faults}
use Rattle.profile_text.specs.Parts.{document_parts}
use Rattle.profile_text.proofs.document.parts_of.Goals as goal

pub returns-in-Object : goal.returns-in-Object
unfolding document_faults document_parts
returns-in-Object c = rw (c.in-Object.is, view-Object c.in-Object.members) c.parts_in.ensures

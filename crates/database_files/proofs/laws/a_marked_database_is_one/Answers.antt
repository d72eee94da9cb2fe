use Rattle.database_files.proofs.Marking.{marked_sound}
use Rattle.database_files.proofs.laws.a_marked_database_is_one.Goals as goal

pub returns : goal.returns
returns c = marked_sound

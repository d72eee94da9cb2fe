use Rattle.profile_text.proofs.ReadsFacts.{reads_from, reading_from}
use Rattle.profile_text.proofs.law.documents_stand_for_profiles.Goals as goal

pub returns : goal.returns
returns c = λ bytes p. (reads_from bytes p, reading_from bytes p)

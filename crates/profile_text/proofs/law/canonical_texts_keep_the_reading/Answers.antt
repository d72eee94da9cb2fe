use Rattle.profile_text.proofs.ReadBack.{read_again}
use Rattle.profile_text.proofs.law.canonical_texts_keep_the_reading.Goals as goal

pub returns : goal.returns
returns c = read_again

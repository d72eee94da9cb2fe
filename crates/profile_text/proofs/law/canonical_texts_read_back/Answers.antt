use Rattle.profile_text.proofs.ReadBack.{text_back}
use Rattle.profile_text.proofs.law.canonical_texts_read_back.Goals as goal

pub returns : goal.returns
returns c = text_back

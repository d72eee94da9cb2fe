use Rattle.seccomp_doc.proofs.MeaningFacts.{meaning-matched, meaning-unmatched}
use Rattle.seccomp_doc.proofs.laws.meaning_is_well_defined.Goals as goal

pub returns-clause-matched : goal.returns-clause-matched
returns-clause-matched c = meaning-matched

pub returns-clause-unmatched : goal.returns-clause-unmatched
returns-clause-unmatched c = meaning-unmatched

use Rattle.office_policy.specs.Newest.{revisions_of}
use Rattle.office_policy.proofs.Rising.{pairs_rising}
use Rattle.office_policy.proofs.NewestFacts.{IsNewer, all_falling, found_by_number}
use Rattle.office_policy.proofs.listing.each_revision_is_listed.Goals as goal

pub returns-clause-falling : goal.returns-clause-falling
returns-clause-falling c = λ h p. pairs_rising IsNewer (revisions_of h p) (all_falling h p)

pub returns-clause-each : goal.returns-clause-each
returns-clause-each c = found_by_number

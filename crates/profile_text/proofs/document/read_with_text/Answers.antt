use Rattle.profile_text.specs.Reading.{GivesAs, reading_of}
use Rattle.profile_text.proofs.ReadsFacts.{stands_given}
use Rattle.profile_text.proofs.document.read_with_text.Goals as goal

pub returns-clause-stands : goal.returns-clause-stands
unfolding reading_of
returns-clause-stands c =
    let given : GivesAs (λ document. document.profile) c.with_text.result (reading_of c.args.bytes.now) = rw c.in_ok-profile.ensures.reading c.with_text.ensures.reading in
    stands_given (λ document. document.profile) c.args.bytes.now c.with_text.result given

-- The text of a line of each kind.
use Rattle.std.proofs.Common.{◌≡◌, refl}
use Rattle.std.specs.Fmt.{digits}
use Rattle.hex.specs.Hex.{encode_with}
use Rattle.json.specs.Print.{escape_byte}
use Rattle.cap_sets.specs.Capability.{names_from}
use Rattle.journal.specs.Examples.{founding, enrolment, submission, vote, issue, withdrawal, adoption, hold, release, settlement, founding_text, enrolment_text, submission_text, vote_text, issue_text, withdrawal_text, adoption_text, hold_text, release_text, strike_text, done_text}
use Rattle.journal.specs.Lines.{strike, text_of}

pub founding_is : text_of founding ≡ founding_text
unfolding text_of escape_byte names_from encode_with digits
founding_is = refl

pub enrolment_is : text_of enrolment ≡ enrolment_text
unfolding text_of escape_byte names_from encode_with digits
enrolment_is = refl

pub submission_is : text_of submission ≡ submission_text
unfolding text_of escape_byte names_from encode_with digits
submission_is = refl

pub vote_is : text_of vote ≡ vote_text
unfolding text_of escape_byte names_from encode_with digits
vote_is = refl

pub issue_is : text_of issue ≡ issue_text
unfolding text_of escape_byte names_from encode_with digits
issue_is = refl

pub withdrawal_is : text_of withdrawal ≡ withdrawal_text
unfolding text_of escape_byte names_from encode_with digits
withdrawal_is = refl

pub adoption_is : text_of adoption ≡ adoption_text
unfolding text_of escape_byte names_from encode_with digits
adoption_is = refl

pub hold_is : text_of hold ≡ hold_text
unfolding text_of escape_byte names_from encode_with digits
hold_is = refl

pub release_is : text_of release ≡ release_text
unfolding text_of escape_byte names_from encode_with digits
release_is = refl

pub strike_is : text_of strike ≡ strike_text
unfolding text_of escape_byte names_from encode_with digits
strike_is = refl

pub done_is : text_of settlement ≡ done_text
unfolding text_of escape_byte digits
done_is = refl

-- The line of JSON of an event of each kind.
use Rattle.std.proofs.Common.{◌≡◌, false, Some, None, codes, refl}
use Rattle.std.specs.Fmt.{digits}
use Rattle.hex.specs.Hex.{encode_with}
use Rattle.json.specs.Print.{escape_byte}
use Rattle.cap_sets.specs.Capability.{names_from}
use Rattle.review_policy.specs.declared.act.ProfileAct.TheVariants.{Hold, Release}
use Rattle.office_policy.specs.History.{adopted, issued, voted, withdrawn, on_profile}
use Rattle.journal_reports.specs.Examples.{adoption_json, digest, enrolment, enrolment_json, founding, founding_json, hold_json, issue_json, release_json, row, vote_json, web, withdrawal_json}
use Rattle.journal_reports.specs.Json.{json_of}

pub founding_is : json_of 1 founding None ≡ founding_json
unfolding json_of escape_byte names_from encode_with digits
founding_is = refl

pub enrolment_is : json_of 2 enrolment None ≡ enrolment_json
unfolding json_of escape_byte names_from encode_with digits
enrolment_is = refl

pub vote_is : json_of 4 (voted (codes "rev") web 1 digest false) (Some row) ≡ vote_json
unfolding json_of escape_byte names_from encode_with digits
vote_is = refl

pub issue_is : json_of 15 (issued (codes "iss") web 1) (Some row) ≡ issue_json
unfolding json_of escape_byte names_from encode_with digits
issue_is = refl

pub withdrawal_is : json_of 6 (withdrawn (codes "sue") web 1) (Some row) ≡ withdrawal_json
unfolding json_of escape_byte names_from encode_with digits
withdrawal_is = refl

pub adoption_is : json_of 7 (adopted (codes "sue") web 1) (Some row) ≡ adoption_json
unfolding json_of escape_byte names_from encode_with digits
adoption_is = refl

pub hold_is : json_of 8 (on_profile (codes "sue") Hold web) None ≡ hold_json
unfolding json_of escape_byte names_from encode_with digits
hold_is = refl

pub release_is : json_of 9 (on_profile (codes "sue") Release web) None ≡ release_json
unfolding json_of escape_byte names_from encode_with digits
release_is = refl

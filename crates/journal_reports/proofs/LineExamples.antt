-- The line of an event of each kind.
use Rattle.std.proofs.Common.{◌≡◌, true, false, Some, None, codes, refl}
use Rattle.std.specs.Fmt.{digits}
use Rattle.hex.specs.Hex.{encode_with}
use Rattle.cap_sets.specs.Capability.{names_from}
use Rattle.review_policy.specs.declared.act.ProfileAct.TheVariants.{Hold, Release}
use Rattle.office_policy.specs.History.{adopted, founded, issued, voted, withdrawn, on_profile}
use Rattle.journal_reports.specs.Examples.{digest, enrolment, founding, row, web}
use Rattle.journal_reports.specs.Lines.{text_of}

pub founding_is : text_of 1 founding None ≡ codes "1  root founded office, listed CAP_SYS_ADMIN\n"
unfolding names_from encode_with digits
founding_is = refl

pub nothing_listed_is : text_of 1 (founded (codes "root") (codes "office") digest 0) None ≡ codes "1  root founded office, listed none\n"
unfolding names_from encode_with digits
nothing_listed_is = refl

pub enrolment_is : text_of 2 enrolment None ≡ codes "2  root enrolled ann of blue: author reviewer (67d596..)\n"
unfolding names_from encode_with digits
enrolment_is = refl

pub approval_is : text_of 4 (voted (codes "rev") web 1 digest true) (Some row) ≡ codes "4  rev approved blue/web 1 (67d596..)\n"
unfolding names_from encode_with digits
approval_is = refl

pub rejection_is : text_of 4 (voted (codes "rev") web 1 digest false) (Some row) ≡ codes "4  rev rejected blue/web 1 (67d596..)\n"
unfolding names_from encode_with digits
rejection_is = refl

pub issue_is : text_of 15 (issued (codes "iss") web 1) (Some row) ≡ codes "15  iss issued blue/web 1 (67d596..)\n"
unfolding names_from encode_with digits
issue_is = refl

pub withdrawal_is : text_of 6 (withdrawn (codes "sue") web 1) (Some row) ≡ codes "6  sue withdrew blue/web 1 (67d596..)\n"
unfolding names_from encode_with digits
withdrawal_is = refl

pub adoption_is : text_of 7 (adopted (codes "sue") web 1) (Some row) ≡ codes "7  sue adopted blue/web 1 (67d596..)\n"
unfolding names_from encode_with digits
adoption_is = refl

pub hold_is : text_of 8 (on_profile (codes "sue") Hold web) None ≡ codes "8  sue held blue/web\n"
unfolding names_from encode_with digits
hold_is = refl

pub release_is : text_of 9 (on_profile (codes "sue") Release web) None ≡ codes "9  sue released blue/web\n"
unfolding names_from encode_with digits
release_is = refl

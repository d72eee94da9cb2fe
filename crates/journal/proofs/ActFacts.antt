-- The words of acts.
use Rattle.std.proofs.Common.{◌≡◌, ◌≤◌, true, length, lit≤, refl}
use Rattle.json.proofs.Printed.Utf8.{are_ascii}
use Rattle.serde_json.specs.Data.{Data}
use Rattle.review_policy.specs.Acts.{profile_act_word, revision_act_word}
use Rattle.review_policy.specs.declared.act.ProfileAct.{ProfileAct}
use Rattle.review_policy.specs.declared.act.ProfileAct.TheVariants.{Hold, Release}
use Rattle.review_policy.specs.declared.act.RevisionAct.{RevisionAct}
use Rattle.review_policy.specs.declared.act.RevisionAct.TheVariants.{Issue}
use Rattle.journal.specs.Read.{acted_on_profile_at, acted_on_revision_at, line_at}

-- ---- acts on revisions

-- what has its word is read as its line
pub revision_act_back : (act : RevisionAct) (d : Data) → line_at (revision_act_word act) d ≡ acted_on_revision_at act d
revision_act_back Issue d = refl
revision_act_back _ d = refl

pub revision_act_ascii : (act : RevisionAct) → are_ascii (revision_act_word act) ≡ true
revision_act_ascii Issue = refl
revision_act_ascii _ = refl

pub revision_act_room : (act : RevisionAct) → length (revision_act_word act) ≤ 8
revision_act_room Issue = lit≤ tt
revision_act_room _ = lit≤ tt

-- ---- acts on profiles

pub profile_act_back : (act : ProfileAct) (d : Data) → line_at (profile_act_word act) d ≡ acted_on_profile_at act d
profile_act_back Hold d = refl
profile_act_back Release d = refl

pub profile_act_ascii : (act : ProfileAct) → are_ascii (profile_act_word act) ≡ true
profile_act_ascii Hold = refl
profile_act_ascii Release = refl

pub profile_act_room : (act : ProfileAct) → length (profile_act_word act) ≤ 8
profile_act_room Hold = lit≤ tt
profile_act_room Release = lit≤ tt

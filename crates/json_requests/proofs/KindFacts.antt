-- The kind of a word.
use Rattle.std.proofs.Common.{◌≡◌, ℕ, List, Some, refl}
use Rattle.std.specs.Prelude.{IfSome}
use Rattle.review_policy.specs.declared.act.ProfileAct.TheVariants.{Hold, Release}
use Rattle.review_policy.specs.declared.act.ProfileView.TheVariants.{Fetch, Issued}
use Rattle.review_policy.specs.declared.act.RevisionAct.TheVariants.{Issue}
use Rattle.review_policy.specs.declared.act.RevisionView.TheVariants.{Show, Sheet}
use Rattle.office_words.proofs.WordFacts.{found_by_word}
use Rattle.json_requests.specs.Kinds.{Kind, all_kinds, kind_of, kind_word}
use Rattle.json_requests.specs.Kinds as kinds

-- a kind that is found has the word
pub found_kind : (text : List ℕ) → IfSome (kind_of text) (λ kind. kind_word kind ≡ text)
found_kind text = found_by_word kind_word text all_kinds

-- and each kind is found by its word
pub each_found : (kind : Kind) → kind_of (kind_word kind) ≡ Some kind
each_found kinds.enrol = refl
each_found kinds.submit = refl
each_found kinds.vote = refl
each_found (kinds.act_on_revision Issue) = refl
each_found (kinds.act_on_revision _) = refl
each_found (kinds.see_revision Show) = refl
each_found (kinds.see_revision Sheet) = refl
each_found kinds.list = refl
each_found (kinds.act_on_profile Hold) = refl
each_found (kinds.act_on_profile Release) = refl
each_found (kinds.see_profile Fetch) = refl
each_found (kinds.see_profile Issued) = refl
each_found kinds.me = refl
each_found kinds.revisions = refl

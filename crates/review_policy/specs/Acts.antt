-- What is done to revisions and profiles, and what is seen of them: their words, and what they
-- do.
use Rattle.std.specs.Prelude.{ℕ, List, [], ◌∷◌, Bool, true, false, Option, find, codes}
use Rattle.std.specs.Str.{bytes_eq}
use Rattle.review_policy.specs.declared.act.RevisionAct.{RevisionAct}
use Rattle.review_policy.specs.declared.act.RevisionAct.TheVariants.{Issue, Withdraw, Adopt}
use Rattle.review_policy.specs.declared.act.Effect.{Effect}
use Rattle.review_policy.specs.declared.act.Effect.TheVariants.{Issues, Withdraws, Adopts}
use Rattle.review_policy.specs.declared.act.RevisionView.{RevisionView}
use Rattle.review_policy.specs.declared.act.RevisionView.TheVariants.{Show, Sheet}
use Rattle.review_policy.specs.declared.act.ProfileAct.{ProfileAct}
use Rattle.review_policy.specs.declared.act.ProfileAct.TheVariants.{Hold, Release}
use Rattle.review_policy.specs.declared.act.ProfileView.{ProfileView}
use Rattle.review_policy.specs.declared.act.ProfileView.TheVariants.{Fetch, Issued}

-- ---- words

abbrev pub revision_act_word : RevisionAct → List ℕ
revision_act_word Issue = codes "issue"
revision_act_word Withdraw = codes "withdraw"
revision_act_word Adopt = codes "adopt"

abbrev pub revision_view_word : RevisionView → List ℕ
revision_view_word Show = codes "show"
revision_view_word Sheet = codes "sheet"

abbrev pub profile_act_word : ProfileAct → List ℕ
profile_act_word Hold = codes "hold"
profile_act_word Release = codes "release"

abbrev pub profile_view_word : ProfileView → List ℕ
profile_view_word Fetch = codes "fetch"
profile_view_word Issued = codes "issued"

-- ---- all of them

abbrev pub revision_acts : List RevisionAct
revision_acts = Issue ∷ Withdraw ∷ Adopt ∷ []

abbrev pub revision_views : List RevisionView
revision_views = Show ∷ Sheet ∷ []

abbrev pub profile_acts : List ProfileAct
profile_acts = Hold ∷ Release ∷ []

abbrev pub profile_views : List ProfileView
profile_views = Fetch ∷ Issued ∷ []

-- ---- what has a word, if there is one

abbrev pub revision_act_of : List ℕ → Option RevisionAct
revision_act_of text = find (λ act. bytes_eq text (revision_act_word act)) revision_acts

abbrev pub revision_view_of : List ℕ → Option RevisionView
revision_view_of text = find (λ view. bytes_eq text (revision_view_word view)) revision_views

abbrev pub profile_act_of : List ℕ → Option ProfileAct
profile_act_of text = find (λ act. bytes_eq text (profile_act_word act)) profile_acts

abbrev pub profile_view_of : List ℕ → Option ProfileView
profile_view_of text = find (λ view. bytes_eq text (profile_view_word view)) profile_views

-- ---- what they do

-- an issue replaces the issued revision, a withdrawal takes its revision back, an adoption makes it
-- the baseline
abbrev pub effect_of : RevisionAct → Effect
effect_of Issue = Issues
effect_of Withdraw = Withdraws
effect_of Adopt = Adopts

-- whether an effect is this one
abbrev pub is_effect : Effect → Effect → Bool
is_effect Issues Issues = true
is_effect Withdraws Withdraws = true
is_effect Adopts Adopts = true
is_effect _ _ = false

-- whether an act has this effect
abbrev pub has_effect : RevisionAct → Effect → Bool
has_effect act effect = is_effect (effect_of act) effect

-- whether a profile is held after this
abbrev pub holds : ProfileAct → Bool
holds Hold = true
holds Release = false

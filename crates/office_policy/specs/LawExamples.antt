-- What the examples of definitions speak of that laws alone cite.
use Rattle.std.specs.Prelude.{ℕ, List, [], ◌∷◌, true, None, Vec, codes}
use Rattle.std.specs.declared.alloc.Global.{Global}
use Rattle.profile_text.specs.Digest.{digest_of}
use Rattle.review_policy.specs.declared.answer.ListedProfile.{ListedProfile}
use Rattle.review_policy.specs.declared.act.ProfileAct.TheVariants.{Hold, Release}
use Rattle.review_policy.specs.declared.act.ProfileView.TheVariants.{Fetch}
use Rattle.review_policy.specs.declared.act.RevisionAct.TheVariants.{Issue}
use Rattle.review_policy.specs.declared.act.RevisionView.TheVariants.{Show}
use Rattle.review_policy.specs.declared.ask.Ask.{Ask}
use Rattle.review_policy.specs.declared.ask.Ask.TheVariants as ask
use Rattle.review_policy.specs.declared.ask.Request.{Request}
use Rattle.office_words.specs.declared.revision.State.TheVariants.{Open}
use Rattle.office_words.specs.declared.name.ProfileName.{ProfileName}
use Rattle.office_policy.specs.History.{Event, History, founded, enrolled, submitted, voted}
use Rattle.office_policy.specs.History.{issued, withdrawn, adopted, on_profile}
use Rattle.office_policy.specs.Examples.{blue, red, desk, root, ann, ben, rev, ray, sue, iss, web}
use Rattle.office_policy.specs.Examples.{listed, text, office, has_roles, submits, one_submitted}

-- an event of each kind: the founding, an enrolment, and what happens to a profile
abbrev pub each_event : ProfileName → List Event
each_event p =
    founded root desk (0 ∷ []) listed
    ∷ enrolled root ann red 2 (1 ∷ [])
    ∷ submitted ann p text
    ∷ voted rev p 1 (9 ∷ []) true
    ∷ issued iss p 1
    ∷ withdrawn sue p 1
    ∷ adopted sue p 1
    ∷ on_profile sue Hold p
    ∷ on_profile sue Release p
    ∷ []

-- a request of each shape, of the team blue or a profile of it where it names one
abbrev pub each_shape : Vec ℕ Global → List Ask
each_shape document =
    ask.Enrol (codes "new") blue 0 (1 ∷ [])
    ∷ ask.Submit web document
    ∷ ask.Vote web 1 (9 ∷ []) true
    ∷ ask.ActOnRevision Issue web 1
    ∷ ask.SeeRevision Show web 1
    ∷ ask.List blue
    ∷ ask.SeeProfile Fetch web
    ∷ ask.ActOnProfile Hold web
    ∷ ask.Me
    ∷ ask.Revisions web None
    ∷ []

-- ---- approvals by the digest of the text

-- a vote of this name that approves the first revision, naming the digest of its text
abbrev pub names_text : List ℕ → Event
names_text who = voted who web 1 (digest_of text) true

-- a reviewer and one with security approve it
abbrev pub text_approved : History
text_approved = names_text sue ∷ names_text rev ∷ one_submitted

-- one with security alone
abbrev pub one_approves_text : History
one_approves_text = names_text sue ∷ one_submitted

-- two reviewers without security
abbrev pub reviewers_approve_text : History
reviewers_approve_text = names_text ray ∷ names_text rev ∷ one_submitted

-- a reviewer who has become an author of the profile, and one with security
abbrev pub author_approves_text : History
author_approves_text = submits ben ∷ names_text sue ∷ names_text ben ∷ one_submitted

-- ---- callers

-- sue holds these roles, and shows this token
abbrev pub sue_shows : (roles : ℕ) (token : List ℕ) → History
sue_shows roles token = has_roles sue roles (digest_of token) ∷ office

-- the request, with this token, that the profile is held
abbrev pub asks_hold : (token : List ℕ) → Request
asks_hold token = record { token = token; ask = ask.ActOnProfile Hold web }

-- ---- lists

-- what is listed of a profile with one revision, which is open
abbrev pub open_profile : ListedProfile
open_profile = record { profile = codes "web"; issued = 0; revisions = 1; state = Open }

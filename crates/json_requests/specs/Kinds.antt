-- The kinds of request, and the members that a line of each kind has.
use Rattle.std.specs.Prelude.{ℕ, List, [], ◌∷◌, ◌++◌, Option, find, map, codes}
use Rattle.std.specs.Str.{bytes_eq}
use Rattle.review_policy.specs.Acts.{profile_act_word, profile_acts, profile_view_word}
use Rattle.review_policy.specs.Acts.{profile_views, revision_act_word, revision_acts}
use Rattle.review_policy.specs.Acts.{revision_view_word, revision_views}
use Rattle.review_policy.specs.declared.act.ProfileAct.{ProfileAct}
use Rattle.review_policy.specs.declared.act.ProfileView.{ProfileView}
use Rattle.review_policy.specs.declared.act.RevisionAct.{RevisionAct}
use Rattle.review_policy.specs.declared.act.RevisionView.{RevisionView}

pub data Kind : Type 0 where
  enrol : Kind
  submit : Kind
  vote : Kind
  act_on_revision : RevisionAct → Kind
  see_revision : RevisionView → Kind
  list : Kind
  act_on_profile : ProfileAct → Kind
  see_profile : ProfileView → Kind
  me : Kind
  revisions : Kind

-- the word of each kind
abbrev pub kind_word : Kind → List ℕ
kind_word enrol = codes "enrol"
kind_word submit = codes "submit"
kind_word vote = codes "vote"
kind_word (act_on_revision act) = revision_act_word act
kind_word (see_revision view) = revision_view_word view
kind_word list = codes "list"
kind_word (act_on_profile act) = profile_act_word act
kind_word (see_profile view) = profile_view_word view
kind_word me = codes "me"
kind_word revisions = codes "revisions"

-- the kinds of a profile's acts and views
abbrev pub profile_kinds : List Kind
profile_kinds = map act_on_profile profile_acts ++ map see_profile profile_views

-- the kinds of the acts and views of a revision or a profile
abbrev pub subject_kinds : List Kind
subject_kinds =
    map act_on_revision revision_acts ++ (map see_revision revision_views ++ profile_kinds)

-- every kind
abbrev pub all_kinds : List Kind
all_kinds = enrol ∷ submit ∷ vote ∷ list ∷ me ∷ revisions ∷ subject_kinds

-- the kind among these that has this word, if there is one
abbrev pub kind_among : List Kind → List ℕ → Option Kind
kind_among kinds text = find (λ kind. bytes_eq text (kind_word kind)) kinds

-- the kind of this word, if there is one
abbrev pub kind_of : List ℕ → Option Kind
kind_of text = kind_among all_kinds text

-- the members that name a profile
abbrev pub profile_members : List (List ℕ)
profile_members = codes "team" ∷ codes "profile" ∷ []

-- the members that name a revision
abbrev pub revision_members : List (List ℕ)
revision_members = codes "team" ∷ codes "profile" ∷ codes "revision" ∷ []

-- the members that a line of each kind may have, besides `ask` and `token`
abbrev pub members_of : Kind → List (List ℕ)
members_of enrol = codes "user" ∷ codes "team" ∷ codes "roles" ∷ codes "digest" ∷ []
members_of submit = codes "team" ∷ codes "profile" ∷ codes "document" ∷ []
members_of vote =
    codes "team" ∷ codes "profile" ∷ codes "revision" ∷ codes "digest" ∷ codes "vote" ∷ []
members_of (act_on_revision act) = revision_members
members_of (see_revision view) = revision_members
members_of list = codes "team" ∷ []
members_of (act_on_profile act) = profile_members
members_of (see_profile view) = profile_members
members_of me = []
members_of revisions = codes "team" ∷ codes "profile" ∷ codes "before" ∷ []

-- the members of a line: those that each line has, and these
abbrev pub line_members : List (List ℕ) → List (List ℕ)
line_members members = codes "ask" ∷ codes "token" ∷ members

-- What an object may be the line of. Members besides those of its kind aren't looked at, and
-- neither is how roles and capabilities are ordered: a line is read by the text of what it may be.
use Rattle.std.specs.Prelude.{ℕ, List, Option, Some, None, if◌then◌else◌, option_and_then, codes}
use Rattle.std.specs.Str.{bytes_eq}
use Rattle.serde_json.specs.Data.{Data}
use Rattle.serde_json.specs.Find.{get, as_array}
use Rattle.profile_text.specs.Sets.{caps_of}
use Rattle.review_policy.specs.Acts.{profile_act_of, revision_act_of}
use Rattle.review_policy.specs.declared.act.ProfileAct.{ProfileAct}
use Rattle.review_policy.specs.declared.act.RevisionAct.{RevisionAct}
use Rattle.json_requests.specs.Members.{◌>>=◌, text_at, word_at, name_at, revision_at, digest_at}
use Rattle.json_requests.specs.Members.{vote_at, roles_at, whole_at}
use Rattle.json_requests.specs.Requests.{value_of}
use Rattle.office_policy.specs.History.{founded, enrolled, submitted, voted}
use Rattle.office_policy.specs.History.{on_revision, on_profile}
use Rattle.journal.specs.Lines.{Line, happened, strike, done}

-- the listed capabilities
unfoldable pub listed_at : Data → Option ℕ
listed_at d = do
  names ← option_and_then as_array (get (codes "listed") d)
  Some (caps_of names)

-- who asked for it
unfoldable pub caller_at : Data → Option (List ℕ)
caller_at d = word_at (codes "by") d

unfoldable pub founded_at : Data → Option Line
founded_at d = do
  name ← word_at (codes "user") d
  team ← word_at (codes "team") d
  digest ← digest_at d
  listed ← listed_at d
  Some (happened (founded name team digest listed))

unfoldable pub enrolled_at : Data → Option Line
enrolled_at d = do
  caller ← caller_at d
  name ← word_at (codes "user") d
  team ← word_at (codes "team") d
  roles ← roles_at d
  digest ← digest_at d
  Some (happened (enrolled caller name team roles digest))

unfoldable pub submitted_at : Data → Option Line
submitted_at d = do
  caller ← caller_at d
  name ← name_at d
  text ← text_at (codes "document") d
  Some (happened (submitted caller name text))

unfoldable pub voted_at : Data → Option Line
voted_at d = do
  caller ← caller_at d
  name ← name_at d
  revision ← revision_at d
  digest ← digest_at d
  approves ← vote_at d
  Some (happened (voted caller name revision digest approves))

-- an act on a revision
unfoldable pub acted_on_revision_at : RevisionAct → Data → Option Line
acted_on_revision_at act d = do
  caller ← caller_at d
  name ← name_at d
  revision ← revision_at d
  Some (happened (on_revision caller act name revision))

-- an act on a profile
unfoldable pub acted_on_profile_at : ProfileAct → Data → Option Line
acted_on_profile_at act d = do
  caller ← caller_at d
  name ← name_at d
  Some (happened (on_profile caller act name))

-- the line that says that the one before it is carried out
unfoldable pub done_at : Data → Option Line
done_at d = do
  n ← whole_at (codes "of") d
  Some (done n)

-- an act on a revision or on a profile, where there is one
abbrev pub acted_at : Option RevisionAct → Option ProfileAct → Data → Option Line
acted_at (Some act) _ d = acted_on_revision_at act d
acted_at None (Some act) d = acted_on_profile_at act d
acted_at None None d = None

-- the line of what has this word
abbrev pub line_at : List ℕ → Data → Option Line
line_at word d =
    if bytes_eq word (codes "found") then founded_at d
    else if bytes_eq word (codes "enrol") then enrolled_at d
    else if bytes_eq word (codes "submit") then submitted_at d
    else if bytes_eq word (codes "vote") then voted_at d
    else if bytes_eq word (codes "strike") then Some strike
    else if bytes_eq word (codes "done") then done_at d
    else acted_at (revision_act_of word) (profile_act_of word) d

-- what an object may be the line of
unfoldable pub candidate_at : Data → Option Line
candidate_at d = do
  word ← text_at (codes "event") d
  line_at word d

-- what a text may be
unfoldable pub candidate_in : List ℕ → Option Line
candidate_in text = option_and_then candidate_at (value_of text)

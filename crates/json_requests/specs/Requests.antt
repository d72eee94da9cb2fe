-- What a line asks.
use Rattle.std.specs.Prelude.{◌≡◌, ℕ, List, Option, Some, None, Result, Ok, Err, if◌then◌else◌}
use Rattle.std.specs.Prelude.{option_and_then, codes, length, nat_lt}
use Rattle.std.specs.Str.{is_utf8}
use Rattle.serde_json.specs.Data.{Data}
use Rattle.serde_json.specs.Read.{read}
use Rattle.office_words.specs.declared.name.ProfileName.{ProfileName}
use Rattle.review_policy.specs.declared.ask.Request.{Request}
use Rattle.json_requests.specs.declared.bad.BadLine.{BadLine}
use Rattle.json_requests.specs.declared.bad.BadLine.TheVariants as bad
use Rattle.json_requests.specs.Kinds.{Kind, kind_of, line_members, members_of}
use Rattle.json_requests.specs.Kinds as kinds
use Rattle.json_requests.specs.Members.{◌>>=◌, text_at, word_at, token_at, name_at, revision_at}
use Rattle.json_requests.specs.Members.{digest_at, vote_at, roles_at, before_at}
use Rattle.json_requests.specs.Objects.{has_no_other}
use Rattle.json_requests.specs.Plain.{PlainAsk, PlainRequest, plain, enrol, submit, vote, list}
use Rattle.json_requests.specs.Plain.{act_on_revision, see_revision, act_on_profile, see_profile}
use Rattle.json_requests.specs.Plain.{me, revisions}

-- ---- by kind, from the members of the kind

unfoldable pub enrol_at : Data → Option PlainAsk
enrol_at d = do
  user ← word_at (codes "user") d
  team ← word_at (codes "team") d
  roles ← roles_at d
  digest ← digest_at d
  Some (enrol user team roles digest)

unfoldable pub submit_at : Data → Option PlainAsk
submit_at d = do
  name ← name_at d
  document ← text_at (codes "document") d
  Some (submit name document)

unfoldable pub vote_on : Data → Option PlainAsk
vote_on d = do
  name ← name_at d
  revision ← revision_at d
  digest ← digest_at d
  approve ← vote_at d
  Some (vote name revision digest approve)

-- an ask that names a revision
unfoldable pub of_revision : (ProfileName → ℕ → PlainAsk) → Data → Option PlainAsk
of_revision ask d = do
  name ← name_at d
  revision ← revision_at d
  Some (ask name revision)

unfoldable pub list_at : Data → Option PlainAsk
list_at d = do
  team ← word_at (codes "team") d
  Some (list team)

-- an ask that names a profile
unfoldable pub of_profile : (ProfileName → PlainAsk) → Data → Option PlainAsk
of_profile ask d = do
  name ← name_at d
  Some (ask name)

-- the revisions of a profile, or those before a number
unfoldable pub revisions_at : Data → Option PlainAsk
revisions_at d = do
  name ← name_at d
  before ← before_at d
  Some (revisions name before)

abbrev pub ask_at : Kind → Data → Option PlainAsk
ask_at kinds.enrol d = enrol_at d
ask_at kinds.submit d = submit_at d
ask_at kinds.vote d = vote_on d
ask_at (kinds.act_on_revision act) d = of_revision (act_on_revision act) d
ask_at (kinds.see_revision view) d = of_revision (see_revision view) d
ask_at kinds.list d = list_at d
ask_at (kinds.act_on_profile act) d = of_profile (act_on_profile act) d
ask_at (kinds.see_profile view) d = of_profile (see_profile view) d
ask_at kinds.me d = Some me
ask_at kinds.revisions d = revisions_at d

-- ---- a whole line

-- the kind that `ask` names
unfoldable pub kind_at : Data → Option Kind
kind_at d = option_and_then kind_of (text_at (codes "ask") d)

-- what a line of this kind asks for: an object with just `ask`, `token` and the members of the
-- kind, each of its form
abbrev pub ask_by : Data → Kind → Option PlainAsk
ask_by d kind = if has_no_other (line_members (members_of kind)) d then ask_at kind d else None

-- what a line asks for
unfoldable pub ask_in : Data → Option PlainAsk
ask_in d = option_and_then (ask_by d) (kind_at d)

unfoldable pub request_at : Data → Option PlainRequest
request_at d = do
  token ← token_at d
  ask ← ask_in d
  Some (record { token = token; ask = ask })

-- the value that a line is, as JSON
abbrev pub value_of : List ℕ → Option Data
value_of line = if is_utf8 line then read line else None

abbrev pub or_not_a_request : Option PlainRequest → Result PlainRequest BadLine
or_not_a_request None = Err bad.NotARequest
or_not_a_request (Some r) = Ok r

abbrev pub request_of : Option Data → Result PlainRequest BadLine
request_of None = Err bad.NotJson
request_of (Some d) = or_not_a_request (request_at d)

-- what a line of any length asks
unfoldable pub request_in : List ℕ → Result PlainRequest BadLine
request_in line = request_of (value_of line)

-- how many bytes a line may have
abbrev pub max_line : ℕ
max_line = 300000

-- what a line asks: it is too long, or not JSON, or no request, or a request, the first that holds
unfoldable pub asked : List ℕ → Result PlainRequest BadLine
asked line = if nat_lt max_line (length line) then Err bad.TooLong else request_in line

-- the line asks this request
abbrev pub Asks : List ℕ → Request → Type 0
Asks line r = asked line ≡ Ok (plain r)

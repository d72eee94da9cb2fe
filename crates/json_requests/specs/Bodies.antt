-- What the bodies of requests ask, whose path and fields have the rest.
use Rattle.std.specs.Prelude.{ℕ, List, [], ◌∷◌, Option, Some, None, if◌then◌else◌, codes}
use Rattle.std.specs.Prelude.{option_and_then}
use Rattle.serde_json.specs.Data.{Data}
use Rattle.office_words.specs.declared.name.ProfileName.{ProfileName}
use Rattle.json_requests.specs.Kinds.{members_of}
use Rattle.json_requests.specs.Kinds as kinds
use Rattle.json_requests.specs.Objects.{has_no_other}
use Rattle.json_requests.specs.Members.{◌>>=◌, digest_at, vote_at}
use Rattle.json_requests.specs.Plain.{PlainAsk, vote}
use Rattle.json_requests.specs.Requests.{enrol_at, value_of}

-- an object with just the members of an enrolment's line besides `ask` and `token`, each of its
-- form
unfoldable pub enrol_body : Data → Option PlainAsk
enrol_body d = if has_no_other (members_of kinds.enrol) d then enrol_at d else None

-- an object with just `digest` and `vote`, each as in a vote's line
unfoldable pub vote_body : ProfileName → ℕ → Data → Option PlainAsk
vote_body name revision d = do
  digest ← digest_at d
  approve ← vote_at d
  if has_no_other (codes "digest" ∷ codes "vote" ∷ []) d
      then Some (vote name revision digest approve) else None

-- the enrolment that a body asks
abbrev pub enrol_in : List ℕ → Option PlainAsk
enrol_in body = option_and_then enrol_body (value_of body)

-- the vote on a revision that a body asks
abbrev pub vote_in : ProfileName → ℕ → List ℕ → Option PlainAsk
vote_in name revision body = option_and_then (vote_body name revision) (value_of body)

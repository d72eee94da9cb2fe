-- What is wrong with a line that is JSON and no request.
use Rattle.std.specs.Prelude.{ℕ, List, [], ◌∷◌, Bool, not, Option, Some, None, if◌then◌else◌}
use Rattle.std.specs.Prelude.{codes, find, is_some, map, option_and_then, option_map}
use Rattle.serde_json.specs.Data.{Data}
use Rattle.serde_json.specs.Find.{as_object}
use Rattle.desk_lines.specs.declared.flaw.Flaw.{Flaw}
use Rattle.desk_lines.specs.declared.flaw.Flaw.TheVariants as flaws
use Rattle.desk_lines.specs.declared.flaw.Member.{Member}
use Rattle.desk_lines.specs.declared.flaw.Member.TheVariants as parts
use Rattle.json_requests.specs.Kinds.{Kind}
use Rattle.json_requests.specs.Kinds as kinds
use Rattle.json_requests.specs.Members.{text_at, word_at, token_at, revision_at, before_at}
use Rattle.json_requests.specs.Members.{digest_at, roles_at, vote_at}
use Rattle.json_requests.specs.Objects.{has_no_other}
use Rattle.json_requests.specs.Requests.{kind_at, value_of}

-- the name of each member
abbrev pub member_word : Member → List ℕ
member_word parts.Token = codes "token"
member_word parts.User = codes "user"
member_word parts.Team = codes "team"
member_word parts.Roles = codes "roles"
member_word parts.Digest = codes "digest"
member_word parts.Profile = codes "profile"
member_word parts.Document = codes "document"
member_word parts.Revision = codes "revision"
member_word parts.Vote = codes "vote"
member_word parts.Before = codes "before"

-- what is named of each flaw: a member; or a word for one too many, whose name is a stranger's text;
-- of what is no object nothing
abbrev pub flaw_word : Flaw → Option (List ℕ)
flaw_word flaws.NoObject = None
flaw_word flaws.NoKind = Some (codes "ask")
flaw_word flaws.Unknown = Some (codes "unknown-member")
flaw_word (flaws.Member part) = Some (member_word part)

-- the members of a line that names a profile or a revision, besides `ask`
abbrev pub profile_parts : List Member
profile_parts = parts.Token ∷ parts.Team ∷ parts.Profile ∷ []

abbrev pub revision_parts : List Member
revision_parts = parts.Token ∷ parts.Team ∷ parts.Profile ∷ parts.Revision ∷ []

-- the members that a line of each kind has besides `ask`
abbrev pub parts_of : Kind → List Member
parts_of kinds.enrol =
    parts.Token ∷ parts.User ∷ parts.Team ∷ parts.Roles ∷ parts.Digest ∷ []
parts_of kinds.submit = parts.Token ∷ parts.Team ∷ parts.Profile ∷ parts.Document ∷ []
parts_of kinds.vote =
    parts.Token ∷ parts.Team ∷ parts.Profile ∷ parts.Revision ∷ parts.Digest ∷ parts.Vote ∷ []
parts_of (kinds.act_on_revision act) = revision_parts
parts_of (kinds.see_revision view) = revision_parts
parts_of kinds.list = parts.Token ∷ parts.Team ∷ []
parts_of (kinds.act_on_profile act) = profile_parts
parts_of (kinds.see_profile view) = profile_parts
parts_of kinds.me = parts.Token ∷ []
parts_of kinds.revisions = parts.Token ∷ parts.Team ∷ parts.Profile ∷ parts.Before ∷ []

-- whether a member stands in a value, of its form; `before` may be left out
abbrev pub is_formed : Data → Member → Bool
is_formed d parts.Token = is_some (token_at d)
is_formed d parts.User = is_some (word_at (codes "user") d)
is_formed d parts.Team = is_some (word_at (codes "team") d)
is_formed d parts.Roles = is_some (roles_at d)
is_formed d parts.Digest = is_some (digest_at d)
is_formed d parts.Profile = is_some (word_at (codes "profile") d)
is_formed d parts.Document = is_some (text_at (codes "document") d)
is_formed d parts.Revision = is_some (revision_at d)
is_formed d parts.Vote = is_some (vote_at d)
is_formed d parts.Before = is_some (before_at d)

-- the first of some members that isn't
abbrev pub first_unformed : Data → List Member → Option Member
first_unformed d among = find (λ part. not (is_formed d part)) among

-- what is wrong with an object that should have `ask` and these members: it has another, or else the
-- first of these that isn't of its form
abbrev pub flaw_among : Data → List Member → Option Flaw
flaw_among d among =
    if has_no_other (codes "ask" ∷ map member_word among) d
    then option_map flaws.Member (first_unformed d among) else Some flaws.Unknown

-- what is wrong with one whose `ask` names this kind, or none
abbrev pub flaw_by : Data → Option Kind → Option Flaw
flaw_by d None = Some flaws.NoKind
flaw_by d (Some kind) = flaw_among d (parts_of kind)

-- what is wrong with a value, where something is
unfoldable pub flaw_at : Data → Option Flaw
flaw_at d = if is_some (as_object d) then flaw_by d (kind_at d) else Some flaws.NoObject

-- what is wrong with a line that is JSON
abbrev pub flaw_in : List ℕ → Option Flaw
flaw_in line = option_and_then flaw_at (value_of line)

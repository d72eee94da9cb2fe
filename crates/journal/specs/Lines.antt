-- The lines of a journal: compact JSON, with the members of each object in byte order of their
-- names. What happened has the number of its line where it is told, and none in the journal.
use Rattle.std.specs.Prelude.{Bool, ℕ, List, Option, Some, None, option_map, codes}
use Rattle.hex.specs.Hex.{encode_lower}
use Rattle.serde_json.specs.Data.{Data, string, number, unsigned, object, Members, no_members}
use Rattle.serde_json.specs.Data.{member}
use Rattle.serde_json.specs.Written.{compact_text}
use Rattle.profile_text.specs.Text.{member_if, set_data}
use Rattle.review_policy.specs.Acts.{profile_act_word, revision_act_word}
use Rattle.office_words.specs.declared.name.ProfileName.{ProfileName}
use Rattle.review_sheet.specs.Review.{vote_word}
use Rattle.json_requests.specs.Answers.{text_member, number_member, digest_member, roles_data}
use Rattle.office_policy.specs.History.{Event, founded, enrolled, submitted, voted}
use Rattle.office_policy.specs.History.{on_revision, on_profile}

-- a line says what happened, or strikes out the event of the line before it, which didn't happen, or
-- says that this one, which has the number, is carried out
pub data Line : Type 0 where
  happened : Event → Line
  strike : Line
  done : ℕ → Line

-- the word of what happened: that of the request that it was, and of a founding and of a line on the
-- one before it a word of its own. Where it is told, the number of its line
abbrev pub kind_members : (word : List ℕ) → (line : Option ℕ) → Members → Members
kind_members word line ms =
    text_member (codes "event") word
    (member_if (codes "line") (option_map (λ n. number (unsigned n)) line) ms)

-- who did what, with a digest where there is one
abbrev pub deed_members : (caller : List ℕ) → Option (List ℕ) → (word : List ℕ) → (line : Option ℕ)
    → Members → Members
deed_members caller digest word line ms =
    text_member (codes "by") caller
    (member_if (codes "digest") (option_map (λ d. string (encode_lower d)) digest)
    (kind_members word line ms))

-- a profile
abbrev pub profile_members : ProfileName → Members → Members
profile_members p ms =
    text_member (codes "profile") p.profile (text_member (codes "team") p.team ms)

-- a revision
abbrev pub revision_members : ProfileName → ℕ → Members → Members
revision_members p n ms =
    text_member (codes "profile") p.profile
    (number_member (codes "revision") n (text_member (codes "team") p.team ms))

-- a user
abbrev pub user_members : (name team : List ℕ) → Members → Members
user_members name team ms = text_member (codes "team") team (text_member (codes "user") name ms)

-- what happened to a profile, by this caller
abbrev pub of_profile : Option ℕ → (word caller : List ℕ) → ProfileName → Data
of_profile line word caller p =
    object (deed_members caller None word line (profile_members p no_members))

-- what happened to a revision, by this caller
abbrev pub of_revision :
    Option ℕ → (word caller : List ℕ) → ProfileName → ℕ → Option (List ℕ) → Data
of_revision line word caller p n digest =
    object (deed_members caller digest word line (revision_members p n no_members))

-- a founding
abbrev pub founding_data : Option ℕ → (name team digest : List ℕ) → ℕ → Data
founding_data line name team digest listed =
    object (digest_member digest
    (kind_members (codes "found") line
    (member (codes "listed") (set_data listed) (user_members name team no_members))))

-- an enrolment
abbrev pub enrolment_data : Option ℕ → (caller name team : List ℕ) → ℕ → List ℕ → Data
enrolment_data line caller name team roles digest =
    object (deed_members caller (Some digest) (codes "enrol") line
    (member (codes "roles") (roles_data roles) (user_members name team no_members)))

-- a vote
abbrev pub vote_data : Option ℕ → List ℕ → ProfileName → ℕ → List ℕ → Bool → Data
vote_data line caller p n digest approves =
    object (deed_members caller (Some digest) (codes "vote") line
    (revision_members p n (text_member (codes "vote") (vote_word approves) no_members)))

-- what happened, as JSON
abbrev pub event_data : Event → Data
event_data (founded name team digest listed) = founding_data None name team digest listed
event_data (enrolled caller name team roles digest) =
    enrolment_data None caller name team roles digest
event_data (submitted caller p text) =
    object (text_member (codes "by") caller
    (text_member (codes "document") text
    (kind_members (codes "submit") None (profile_members p no_members))))
event_data (voted caller p n digest approves) = vote_data None caller p n digest approves
event_data (on_revision caller act p n) = of_revision None (revision_act_word act) caller p n None
event_data (on_profile caller act p) = of_profile None (profile_act_word act) caller p

-- a line, as JSON
abbrev pub line_data : Line → Data
line_data (happened e) = event_data e
line_data strike = object (kind_members (codes "strike") None no_members)
line_data (done n) =
    object (kind_members (codes "done") None (number_member (codes "of") n no_members))

-- the text of a line, which is the body of a sealed one
unfoldable pub text_of : Line → List ℕ
text_of line = compact_text (line_data line)

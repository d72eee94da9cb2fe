-- The text of an answer.
use Rattle.std.specs.Prelude.{ℕ, List, [], ◌∷◌, ◌++◌, Option, Some, None, map, codes}
use Rattle.hex.specs.Hex.{encode_lower}
use Rattle.serde_json.specs.Data.{Data, number, unsigned, string, array, object, Members, member}
use Rattle.serde_json.specs.Data.{no_members, boolean}
use Rattle.serde_json.specs.View.{items_of}
use Rattle.serde_json.specs.Written.{compact_text}
use Rattle.review_policy.specs.declared.answer.Answer.{Answer}
use Rattle.review_policy.specs.declared.answer.Answer.TheVariants.{Done, Denied, Fault}
use Rattle.office_words.specs.declared.fault.Fault as faults
use Rattle.review_policy.specs.declared.answer.ListedProfile.{ListedProfile}
use Rattle.office_words.specs.declared.listed.ProfileRevision.{ProfileRevision}
use Rattle.review_policy.specs.declared.answer.Reply.{Reply}
use Rattle.review_policy.specs.declared.answer.Reply.TheVariants as reply
use Rattle.review_policy.specs.declared.denial.Denial.{Denial}
use Rattle.review_policy.specs.declared.denial.Need.{Need}
use Rattle.review_policy.specs.declared.denial.Need.TheVariants.{One, TwoWithSecurity}
use Rattle.review_policy.specs.declared.denial.Rule.{Rule}
use Rattle.review_policy.specs.declared.denial.Rule.TheVariants.{ApprovalsShort}
use Rattle.office_words.specs.WordTables.{fault_word, role_words, state_word}
use Rattle.review_policy.specs.WordTables.{rule_word}

-- a member whose value is a text, and one whose value is a number
abbrev pub text_member : List ℕ → List ℕ → Members → Members
text_member name text ms = member name (string text) ms

abbrev pub number_member : List ℕ → ℕ → Members → Members
number_member name n ms = member name (number (unsigned n)) ms

-- a digest as 64 lower-case hexadecimal digits
abbrev pub digest_member : List ℕ → Members → Members
digest_member digest ms = text_member (codes "digest") (encode_lower digest) ms

-- ---- done

-- a profile of a list
abbrev pub listed_data : ListedProfile → Data
listed_data p =
    object (number_member (codes "issued") p.issued
    (text_member (codes "profile") p.profile
    (number_member (codes "revisions") p.revisions
    (text_member (codes "state") (state_word p.state) no_members))))

-- a list of profiles
abbrev pub listing_data : List ListedProfile → Data
listing_data profiles = array (items_of (map listed_data profiles))

-- a revision of a profile's
abbrev pub revision_data : ProfileRevision → Data
revision_data r =
    object (text_member (codes "by") r.by
    (digest_member r.digest
    (number_member (codes "revision") r.revision
    (text_member (codes "state") (state_word r.state) no_members))))

-- a list of a profile's revisions
abbrev pub revisions_data : List ProfileRevision → Data
revisions_data revisions = array (items_of (map revision_data revisions))

-- the roles in a set, as a list of their words
abbrev pub roles_data : ℕ → Data
roles_data roles = array (items_of (map string (role_words roles)))

-- the members of an answer that a request is done, besides `answer`
abbrev pub reply_members : Reply → Members
reply_members reply.Nothing = no_members
reply_members (reply.Submitted digest revision) =
    digest_member digest (number_member (codes "revision") revision no_members)
reply_members (reply.Issued digest) = digest_member digest no_members
reply_members (reply.Shown digest document state) =
    digest_member digest
    (text_member (codes "document") document
    (text_member (codes "state") (state_word state) no_members))
reply_members (reply.Sheet sheet) = text_member (codes "sheet") sheet no_members
reply_members (reply.Listed profiles) = member (codes "profiles") (listing_data profiles) no_members
reply_members (reply.Fetched digest document revision) =
    digest_member digest
    (text_member (codes "document") document
    (number_member (codes "revision") revision no_members))
reply_members (reply.Me user team roles) =
    member (codes "roles") (roles_data roles)
    (text_member (codes "team") team
    (text_member (codes "user") user no_members))
reply_members (reply.Revisions revisions more) =
    member (codes "more") (boolean more)
    (member (codes "revisions") (revisions_data revisions) no_members)
reply_members (reply.IssuedNow digest revision) =
    digest_member digest (number_member (codes "revision") revision no_members)

-- ---- denied

-- how many approvals are needed
abbrev pub need_number : Need → ℕ
need_number One = 1
need_number TwoWithSecurity = 2

-- how many approvals there were and how many are needed, where they were too few
abbrev pub shortage_of : Rule → Option (ℕ × Need)
shortage_of (ApprovalsShort got need) = Some (got, need)
shortage_of _ = None

-- the number and the word of the rule
abbrev pub rule_members : Denial → Members
rule_members denial =
    number_member (codes "rule") denial.number
    (text_member (codes "word") (rule_word denial.rule) no_members)

-- with the shortage of approvals, or the fault of a document
abbrev pub reason_members : Option (ℕ × Need) → Option (List ℕ) → Members → Members
reason_members (Some short) fault ms =
    number_member (codes "got") short.0 (number_member (codes "need") (need_number short.1) ms)
reason_members None (Some fault) ms = text_member (codes "fault") fault ms
reason_members None None ms = ms

-- the members of an answer that a request is denied, besides `answer`
abbrev pub denied_members : Denial → Option (List ℕ) → Members
denied_members denial fault = reason_members (shortage_of denial.rule) fault (rule_members denial)

-- ---- any answer

-- the members of an answer of this kind
abbrev pub answer_members : List ℕ → Members → Members
answer_members kind ms = text_member (codes "answer") kind ms

-- the members of an answer that a request met a fault, besides `answer`
abbrev pub fault_members : faults.Fault → Members
fault_members fault = text_member (codes "word") (fault_word fault) no_members

-- an answer as JSON, its members in byte order
abbrev pub answer_data : Answer → Data
answer_data (Done reply) = object (answer_members (codes "done") (reply_members reply))
answer_data (Denied denial fault) =
    object (answer_members (codes "denied") (denied_members denial fault))
answer_data (Fault fault) = object (answer_members (codes "fault") (fault_members fault))

-- the text of an answer, with no space
unfoldable pub answer_text : Answer → List ℕ
answer_text answer = compact_text (answer_data answer)

-- the line of an answer: the text, and a line feed
unfoldable pub line_of : Answer → List ℕ
line_of answer = answer_text answer ++ 10 ∷ []

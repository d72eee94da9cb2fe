-- What the rules of each request ask, of what was looked back.
use Rattle.std.specs.Prelude.{ℕ, List, Bool, false, not, ◌&&◌, ◌||◌, Option, Some, None, is_some}
use Rattle.std.specs.Prelude.{is_none, is_err, Result, Ok, Err, bytes_eq}
use Rattle.office_words.specs.declared.role.Role.TheVariants.{Registrar, Author, Reviewer}
use Rattle.office_words.specs.declared.role.Role.TheVariants.{Security, Issuer, Machine}
use Rattle.review_policy.specs.declared.denial.Need.{Need}
use Rattle.review_policy.specs.declared.facts.EnrolFacts.{EnrolFacts}
use Rattle.review_policy.specs.declared.facts.SubmitFacts.{SubmitFacts}
use Rattle.review_policy.specs.declared.facts.VoteFacts.{VoteFacts}
use Rattle.review_policy.specs.declared.facts.IssueFacts.{IssueFacts}
use Rattle.review_policy.specs.declared.facts.WithdrawFacts.{WithdrawFacts}
use Rattle.review_policy.specs.declared.facts.AdoptFacts.{AdoptFacts}
use Rattle.review_policy.specs.declared.facts.ReadFacts.{ReadFacts}
use Rattle.review_policy.specs.declared.facts.FetchFacts.{FetchFacts}
use Rattle.review_policy.specs.declared.facts.HoldFacts.{HoldFacts}
use Rattle.review_policy.specs.declared.facts.RevisionsFacts.{RevisionsFacts}
use Rattle.profile_text.specs.declared.profile.Profile.{Profile}
use Rattle.profile_text.specs.declared.fault.DocFault.{DocFault}
use Rattle.profile_text.specs.Text.{text_of}
use Rattle.office_words.specs.declared.row.UserRow.{UserRow}
use Rattle.office_words.specs.declared.row.RevisionRow.{RevisionRow}
use Rattle.office_words.specs.declared.listed.Tally.{Tally}
use Rattle.office_words.specs.Lists.{holds_role}
use Rattle.office_policy.specs.Users.{is_named, is_of_team}
use Rattle.office_policy.specs.Revisions.{if_open, state_in}

-- whether a user is there and of another team
abbrev pub is_elsewhere : Option UserRow → List ℕ → Bool
is_elsewhere user team = is_some user && not (is_of_team user team)

-- whether a user is there and has another name
abbrev pub is_another : Option UserRow → List ℕ → Bool
is_another user name = is_some user && not (is_named user name)

-- the canonical text of a document that reads
abbrev pub canonical : Result Profile DocFault → Option (List ℕ)
canonical (Ok p) = Some (text_of p)
canonical (Err f) = None

-- whether there is a text, and a revision whose text it is
abbrev pub is_text_of : Option (List ℕ) → Option RevisionRow → Bool
is_text_of (Some text) (Some r) = bytes_eq text r.body
is_text_of text r = false

-- whether a revision is there with this digest
abbrev pub has_digest : Option RevisionRow → List ℕ → Bool
has_digest None digest = false
has_digest (Some r) digest = bytes_eq r.digest digest

-- whether a user holds a role of those who see the revisions of every team
abbrev pub sees_every_team : Option UserRow → Bool
sees_every_team user =
    holds_role user Reviewer || holds_role user Security || holds_role user Issuer

-- of an enrolment: the user that has the name now, and the one that shows the digest
abbrev pub enrol_facts : (caller known shower : Option UserRow) → (user team : List ℕ) → EnrolFacts
enrol_facts caller known shower user team = record {
  role_missing = not (holds_role caller Registrar);
  own_row = is_named caller user;
  team_fixed = is_elsewhere known team;
  token_taken = is_another shower user;
}

module _ (caller : Option UserRow) where
  -- of a submission: what the document reads as, and the last revision with its number
  abbrev pub submit_facts : (team : List ℕ) → Result Profile DocFault → (last : Option RevisionRow)
      → (revisions : ℕ) → SubmitFacts
  submit_facts team reading last revisions = record {
    role_missing = not (holds_role caller Author);
    other_team = not (is_of_team caller team);
    document = is_err reading;
    same_as_open = is_text_of (canonical reading) (if_open last);
    revisions = revisions;
  }

  -- of a vote: the revision, whether the caller is an author of its profile, and the digest that is
  -- named
  abbrev pub vote_facts : Option RevisionRow → (author : Bool) → (digest : List ℕ) → VoteFacts
  vote_facts revision author digest = record {
    role_missing = not (holds_role caller Reviewer);
    state = state_in revision;
    author_votes = author;
    other_bytes = not (has_digest revision digest);
  }

  -- of an issue: the revision, whether the caller is an author of its profile, its votes, its
  -- need, and whether it is held
  abbrev pub issue_facts : Option RevisionRow → (author : Bool) → Tally → Need → (held : Bool)
      → IssueFacts
  issue_facts revision author tally need held = record {
    role_missing = not (holds_role caller Issuer);
    state = state_in revision;
    author_issues = author;
    rejections = tally.rejections;
    approvals = tally.approvals;
    secure = tally.secure;
    need = need;
    held = held;
  }

  -- of a withdrawal: the revision of the team's
  abbrev pub withdraw_facts : (team : List ℕ) → Option RevisionRow → WithdrawFacts
  withdraw_facts team revision = record {
    role_missing = not (holds_role caller Author || holds_role caller Security);
    other_team = not (is_of_team caller team || holds_role caller Security);
    state = state_in revision;
  }

  -- of an adoption: the revision, and whether the caller is an author of its profile
  abbrev pub adopt_facts : Option RevisionRow → (author : Bool) → AdoptFacts
  adopt_facts revision author = record {
    role_missing = not (holds_role caller Security);
    state = state_in revision;
    author_adopts = author;
  }

  -- of a read: of a team alone, or of a revision of a team's profile
  abbrev pub read_facts : (team : List ℕ) → (no_revision : Bool) → ReadFacts
  read_facts team no_revision = record {
    role_missing = not (holds_role caller Author || sees_every_team caller);
    other_team = not (is_of_team caller team || sees_every_team caller);
    no_revision = no_revision;
  }

  -- of a fetch, and of what is issued: the issued revision of the team's profile, and whether that
  -- is held
  abbrev pub fetch_facts : (team : List ℕ) → (issued : Option RevisionRow) → (held : Bool)
      → FetchFacts
  fetch_facts team issued held = record {
    role_missing = not (holds_role caller Machine);
    other_team = not (is_of_team caller team);
    nothing_issued = is_none issued;
    held = held;
  }

  -- of an act on a profile: whether that has no revision, and whether it is held
  abbrev pub hold_facts : (no_profile held : Bool) → HoldFacts
  hold_facts no_profile held = record {
    role_missing = not (holds_role caller Security);
    no_profile = no_profile;
    held = held;
  }

  -- of the revisions of a team's profile: whether it has none
  abbrev pub revisions_facts : (team : List ℕ) → (no_profile : Bool) → RevisionsFacts
  revisions_facts team no_profile = record {
    role_missing = not (holds_role caller Author || sees_every_team caller);
    other_team = not (is_of_team caller team || sees_every_team caller);
    no_profile = no_profile;
  }

-- The rules of each request behind the first, which asks for a known caller of every request: in the
-- order in which they are asked, each with whether it refuses.
use Rattle.std.specs.Prelude.{ℕ, suc, List, [], ◌∷◌, Bool, true, false, not, ◌||◌, ◌&&◌, nat_lt}
use Rattle.std.specs.Prelude.{nat_le, ◌==◌, if◌then◌else◌, Option, Some, is_none, Result, Ok, Err}
use Rattle.std.specs.Prelude.{⊤}
use Rattle.review_policy.specs.declared.act.ProfileAct.{ProfileAct}
use Rattle.review_policy.specs.declared.act.ProfileAct.TheVariants.{Hold, Release}
use Rattle.review_policy.specs.declared.denial.Denial.{Denial}
use Rattle.review_policy.specs.declared.denial.Need.{Need}
use Rattle.review_policy.specs.declared.denial.Need.TheVariants.{One, TwoWithSecurity}
use Rattle.review_policy.specs.declared.denial.Rule.{Rule}
use Rattle.review_policy.specs.declared.denial.Rule.TheVariants.{CallerUnknown, RoleMissing, OwnRow}
use Rattle.review_policy.specs.declared.denial.Rule.TheVariants.{TeamFixed, TokenTaken, OtherTeam}
use Rattle.review_policy.specs.declared.denial.Rule.TheVariants.{Document, SameAsOpen}
use Rattle.review_policy.specs.declared.denial.Rule.TheVariants.{RevisionsFull, NoRevision}
use Rattle.review_policy.specs.declared.denial.Rule.TheVariants.{AuthorVotes, NotOpen, OtherBytes}
use Rattle.review_policy.specs.declared.denial.Rule.TheVariants.{AuthorIssues, Rejected}
use Rattle.review_policy.specs.declared.denial.Rule.TheVariants.{ApprovalsShort, SecurityMissing}
use Rattle.review_policy.specs.declared.denial.Rule.TheVariants.{NotStanding, AuthorAdopts}
use Rattle.review_policy.specs.declared.denial.Rule.TheVariants.{NotIssued, NothingIssued}
use Rattle.review_policy.specs.declared.denial.Rule.TheVariants.{NoProfile, AlreadyHeld, NotHeld}
use Rattle.review_policy.specs.declared.denial.Rule.TheVariants.{Held}
use Rattle.office_words.specs.Limits.{max_revisions}
use Rattle.office_words.specs.declared.revision.State.{State}
use Rattle.office_words.specs.declared.revision.State.TheVariants.{Open, Issued}
use Rattle.review_policy.specs.declared.facts.EnrolFacts.{EnrolFacts}
use Rattle.review_policy.specs.declared.facts.SubmitFacts.{SubmitFacts}
use Rattle.review_policy.specs.declared.facts.VoteFacts.{VoteFacts}
use Rattle.review_policy.specs.declared.facts.IssueFacts.{IssueFacts}
use Rattle.review_policy.specs.declared.facts.WithdrawFacts.{WithdrawFacts}
use Rattle.review_policy.specs.declared.facts.AdoptFacts.{AdoptFacts}
use Rattle.review_policy.specs.declared.facts.ReadFacts.{ReadFacts}
use Rattle.review_policy.specs.declared.facts.FetchFacts.{FetchFacts}
use Rattle.review_policy.specs.declared.facts.HoldFacts.{HoldFacts}
use Rattle.review_policy.specs.declared.facts.RevisionsFacts.{RevisionsFacts}

-- a revision that is there and open
abbrev pub is_open : Option State → Bool
is_open (Some Open) = true
is_open _ = false

-- a revision that is there and issued
abbrev pub is_issued : Option State → Bool
is_issued (Some Issued) = true
is_issued _ = false

-- a revision that is there and may be taken back
abbrev pub is_standing : Option State → Bool
is_standing state = is_open state || is_issued state

-- two approvals, one of them with security, where the document is wider than the baseline or holds
-- a listed capability
abbrev pub need_of : Bool → Bool → Need
need_of wide listed = if wide || listed then TwoWithSecurity else One

-- how many approvals a need asks for
abbrev pub approvals_of : Need → ℕ
approvals_of One = 1
approvals_of TwoWithSecurity = 2

-- whether a need asks for an approval with security
abbrev pub asks_security : Need → Bool
asks_security One = false
asks_security TwoWithSecurity = true

-- all rules of a request: the first refuses a caller whom nobody knows, and these stand behind it
abbrev pub behind_caller : (unknown : Bool) → List (Rule × Bool) → List (Rule × Bool)
behind_caller unknown rules = (CallerUnknown, unknown) ∷ rules

-- a registrar enrols another user, whose team stays, with a token that no other user shows
abbrev pub enrol_rules : EnrolFacts → List (Rule × Bool)
enrol_rules f =
    (RoleMissing, f.role_missing)
    ∷ (OwnRow, f.own_row)
    ∷ (TeamFixed, f.team_fixed)
    ∷ (TokenTaken, f.token_taken)
    ∷ []

-- an author hands in a document of the own team, which isn't the open one again
abbrev pub submit_rules : SubmitFacts → List (Rule × Bool)
submit_rules f =
    (RoleMissing, f.role_missing)
    ∷ (OtherTeam, f.other_team)
    ∷ (Document, f.document)
    ∷ (SameAsOpen, f.same_as_open)
    ∷ (RevisionsFull, nat_le max_revisions f.revisions)
    ∷ []

-- a reviewer who is no author of the profile votes on the open revision, naming its text's digest
abbrev pub vote_rules : VoteFacts → List (Rule × Bool)
vote_rules f =
    (RoleMissing, f.role_missing)
    ∷ (NoRevision, is_none f.state)
    ∷ (AuthorVotes, f.author_votes)
    ∷ (NotOpen, not (is_open f.state))
    ∷ (OtherBytes, f.other_bytes)
    ∷ []

-- an issuer who is no author of the profile issues an open revision that nobody rejects and enough
-- approve, unless it is held
abbrev pub issue_rules : IssueFacts → List (Rule × Bool)
issue_rules f =
    (RoleMissing, f.role_missing)
    ∷ (NoRevision, is_none f.state)
    ∷ (AuthorIssues, f.author_issues)
    ∷ (NotOpen, not (is_open f.state))
    ∷ (Rejected, nat_lt 0 f.rejections)
    ∷ (ApprovalsShort f.approvals f.need, nat_lt f.approvals (approvals_of f.need))
    ∷ (SecurityMissing, asks_security f.need && (f.secure == 0))
    ∷ (Held, f.held)
    ∷ []

-- an author of the team, or security, takes back a revision that is open or issued
abbrev pub withdraw_rules : WithdrawFacts → List (Rule × Bool)
withdraw_rules f =
    (RoleMissing, f.role_missing)
    ∷ (OtherTeam, f.other_team)
    ∷ (NoRevision, is_none f.state)
    ∷ (NotStanding, not (is_standing f.state))
    ∷ []

-- security that is no author of the profile makes an issued revision the baseline of its team
abbrev pub adopt_rules : AdoptFacts → List (Rule × Bool)
adopt_rules f =
    (RoleMissing, f.role_missing)
    ∷ (NoRevision, is_none f.state)
    ∷ (AuthorAdopts, f.author_adopts)
    ∷ (NotIssued, not (is_issued f.state))
    ∷ []

-- show, sheet and list: an author of the team, or a reviewer, security or an issuer, looks at it
abbrev pub read_rules : ReadFacts → List (Rule × Bool)
read_rules f =
    (RoleMissing, f.role_missing)
    ∷ (OtherTeam, f.other_team)
    ∷ (NoRevision, f.no_revision)
    ∷ []

-- fetch and issued: a machine of the team gets what is issued, unless the profile is held
abbrev pub fetch_rules : FetchFacts → List (Rule × Bool)
fetch_rules f =
    (RoleMissing, f.role_missing)
    ∷ (OtherTeam, f.other_team)
    ∷ (NothingIssued, f.nothing_issued)
    ∷ (Held, f.held)
    ∷ []

-- a profile is held that isn't held, and one is released that is
abbrev pub hold_rule : ProfileAct → (held : Bool) → Rule × Bool
hold_rule Hold held = (AlreadyHeld, held)
hold_rule Release held = (NotHeld, not held)

-- security holds a profile, or releases it
abbrev pub hold_rules : ProfileAct → HoldFacts → List (Rule × Bool)
hold_rules act f =
    (RoleMissing, f.role_missing)
    ∷ (NoProfile, f.no_profile)
    ∷ hold_rule act f.held
    ∷ []

-- an author of the team, or a reviewer, security or an issuer, looks at the revisions of a profile
abbrev pub revisions_rules : RevisionsFacts → List (Rule × Bool)
revisions_rules f =
    (RoleMissing, f.role_missing)
    ∷ (OtherTeam, f.other_team)
    ∷ (NoProfile, f.no_profile)
    ∷ []

-- the first rule that refuses, where the first of the list has this number
abbrev pub first_from : ℕ → List (Rule × Bool) → Result ⊤ Denial
first_from number [] = Ok tt
first_from number ((rule, refuses) ∷ rules) =
    if refuses then Err (record { number = number; rule = rule }) else first_from (suc number) rules

-- the first rule that refuses, numbered by its place from 1
abbrev pub first_denial : List (Rule × Bool) → Result ⊤ Denial
first_denial rules = first_from 1 rules

-- the first rule that refuses a caller who is known, where these stand behind the first
abbrev pub known_denial : List (Rule × Bool) → Result ⊤ Denial
known_denial rules = first_denial (behind_caller false rules)

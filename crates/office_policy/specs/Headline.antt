-- What is issued and fetched was approved: bytewise, by others, and by as many as its widening
-- asked for at the issue.
use Rattle.std.specs.Prelude.{◌≡◌, ◌≢◌, ◌≤◌, ℕ, List, ◌∷◌, ◌++◌, true, false, Some, length}
use Rattle.std.specs.Prelude.{AllPairs, Contains}
use Rattle.profile_text.specs.Digest.{digest_of}
use Rattle.review_policy.specs.declared.act.ProfileView.TheVariants.{Fetch, Issued}
use Rattle.review_policy.specs.declared.act.RevisionAct.TheVariants.{Issue}
use Rattle.office_words.specs.declared.name.ProfileName.{ProfileName}
use Rattle.review_policy.specs.declared.ask.Ask.{Ask}
use Rattle.review_policy.specs.declared.ask.Ask.TheVariants as ask
use Rattle.review_policy.specs.declared.ask.Request.{Request}
use Rattle.review_policy.specs.declared.answer.Answer.{Answer}
use Rattle.review_policy.specs.declared.answer.Answer.TheVariants.{Done}
use Rattle.review_policy.specs.declared.answer.Reply.TheVariants as reply
use Rattle.review_policy.specs.declared.denial.Need.TheVariants.{TwoWithSecurity}
use Rattle.office_words.specs.declared.role.Role.TheVariants.{Reviewer, Security}
use Rattle.review_policy.specs.Rules.{approvals_of}
use Rattle.office_words.specs.Lists.{holds_role}
use Rattle.office_policy.specs.History.{issued, History}
use Rattle.office_policy.specs.Users.{user_of, user_showing, name_of}
use Rattle.office_policy.specs.Revisions.{submission_of, is_author}
use Rattle.office_policy.specs.Votes.{CastVote, vote_of, approvals}
use Rattle.office_policy.specs.Need.{need_at}

-- a name's standing vote on the revision approves this text, by its digest: as a reviewer, at the
-- vote and now, who is no author of the profile
pub record Approves (h : History) (p : ProfileName) (n : ℕ) (text name : List ℕ) : Type 0 where
  pub vote : CastVote
  pub stands : vote_of h p n name ≡ Some vote
  pub approves : vote.approves ≡ true
  pub of_the_text : vote.digest ≡ digest_of text
  pub was_reviewer : holds_role (user_of vote.before name) Reviewer ≡ true
  pub is_reviewer : holds_role (user_of h name) Reviewer ≡ true
  pub no_author : is_author h p name ≡ false

-- one of the approvals is with security: its name held that role at the vote, and holds it now
pub record HasSecurity (h : History) (p : ProfileName) (n : ℕ) : Type 0 where
  pub name : List ℕ
  pub among : Contains (approvals h p n) name
  pub vote : CastVote
  pub stands : vote_of h p n name ≡ Some vote
  pub had_security : holds_role (user_of vote.before name) Security ≡ true
  pub has_security : holds_role (user_of h name) Security ≡ true

-- on the events before its issue, this text of a revision was approved by as many distinct names
-- as it needed there, one with security where it needed that; the issuer is no author either
pub record IsApproved
    (h : History) (issuer : List ℕ) (p : ProfileName) (n : ℕ) (text : List ℕ) : Type 0 where
  pub author : List ℕ
  pub submitted : submission_of h p n ≡ Some (record { author = author; text = text })
  pub distinct : AllPairs (λ a b. a ≢ b) (approvals h p n)
  pub each : (name : List ℕ) → Contains (approvals h p n) name → Approves h p n text name
  pub count : approvals_of (need_at h p n) ≤ length (approvals h p n)
  pub secured : need_at h p n ≡ TwoWithSecurity → HasSecurity h p n
  pub issuer_no_author : is_author h p issuer ≡ false

-- what was asked for is an issue, and the digest is that of the text that was approved
pub record IsOfApproved (h : History) (r : Request) (digest : List ℕ) : Type 0 where
  pub profile : ProfileName
  pub number : ℕ
  pub asked : r.ask ≡ ask.ActOnRevision Issue profile number
  pub text : List ℕ
  pub of_its_text : digest ≡ digest_of text
  pub approved : IsApproved h (name_of (user_showing h (digest_of r.token))) profile number text

-- what was asked for is a fetch, and just this text was approved, on the events before an earlier
-- issue of the revision
pub record WasApproved (h : History) (a : Ask) (digest text : List ℕ) (n : ℕ) : Type 0 where
  pub profile : ProfileName
  pub asked : a ≡ ask.SeeProfile Fetch profile
  pub of_its_text : digest ≡ digest_of text
  pub issuer : List ℕ
  pub since : History
  pub before : History
  pub issue : h ≡ since ++ issued issuer profile n ∷ before
  pub approved : IsApproved before issuer profile n text

-- what was asked for is which revision is issued, and its digest is that of a text that was
-- approved, on the events before an earlier issue of the revision
pub record NamesApproved (h : History) (a : Ask) (digest : List ℕ) (n : ℕ) : Type 0 where
  pub profile : ProfileName
  pub asked : a ≡ ask.SeeProfile Issued profile
  pub text : List ℕ
  pub was_approved : WasApproved h (ask.SeeProfile Fetch profile) digest text n

-- what an answer gives out was approved
abbrev pub GivesOutApproved : History → Request → Answer → Type 0
GivesOutApproved h r (Done (reply.Issued digest)) = IsOfApproved h r digest
GivesOutApproved h r (Done (reply.Fetched digest text n)) = WasApproved h r.ask digest text n
GivesOutApproved h r (Done (reply.IssuedNow digest n)) = NamesApproved h r.ask digest n
GivesOutApproved h r answer = Unit {0}

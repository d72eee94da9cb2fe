-- Separation of duty: what holds of each issue that the policy allows, on the events before it, and
-- of what is given out.
use Rattle.std.specs.Prelude.{◌≡◌, ◌≢◌, ◌<◌, ◌≤◌, ◌⊎◌, ℕ, suc, List, ◌∷◌, ◌++◌, true, false, Option}
use Rattle.std.specs.Prelude.{Some, length, AllPairs, Contains, Ok, Vec}
use Rattle.std.specs.declared.alloc.Global.{Global}
use Rattle.std.specs.List.{list_any}
use Rattle.cap_sets.specs.Capability.{Has}
use Rattle.profile_text.specs.Digest.{digest_of}
use Rattle.profile_text.specs.Reading.{reading_of}
use Rattle.profile_text.specs.Reads.{state_set}
use Rattle.profile_text.specs.Text.{text_of}
use Rattle.profile_text.specs.declared.profile.Profile.{Profile}
use Rattle.profile_text.specs.declared.sets.CapSet.{CapSet}
use Rattle.office_words.specs.declared.name.ProfileName.{ProfileName}
use Rattle.review_policy.specs.declared.ask.Ask.{Ask}
use Rattle.review_policy.specs.declared.ask.Ask.TheVariants as ask
use Rattle.review_policy.specs.declared.answer.Reply.TheVariants as reply
use Rattle.review_policy.specs.declared.denial.Need.TheVariants.{TwoWithSecurity}
use Rattle.office_words.specs.declared.revision.State.TheVariants.{Issued}
use Rattle.office_words.specs.declared.role.Role.TheVariants.{Reviewer}
use Rattle.review_policy.specs.Rules.{approvals_of}
use Rattle.office_words.specs.Lists.{holds_role}
use Rattle.widening.specs.Permits.{IsNoWider}
use Rattle.office_policy.specs.History.{Event, submitted, voted, History}
use Rattle.office_policy.specs.Users.{user_of}
use Rattle.office_policy.specs.Revisions.{Submission, submits, submission_of, revision_count}
use Rattle.office_policy.specs.Revisions.{state_of, issues, is_author}
use Rattle.office_policy.specs.Votes.{CastVote, vote_of, approvals, secure_approvals}
use Rattle.office_policy.specs.Documents.{document_of}
use Rattle.office_policy.specs.Baseline.{baseline_of, listed_of}
use Rattle.office_policy.specs.Need.{need_at}
use Rattle.office_policy.specs.Verdict.{Verdict, accepted}

-- ---- by whom

-- the approvals of a revision are of distinct names, each a reviewer at the vote and now, none an
-- author of the profile; neither is the issuer
pub record AreOthers (h : History) (issuer : List ℕ) (p : ProfileName) (n : ℕ) : Type 0 where
  pub distinct : AllPairs (λ a b. a ≢ b) (approvals h p n)
  pub reviewers_then :
      (name : List ℕ) (v : CastVote) → Contains (approvals h p n) name
      → vote_of h p n name ≡ Some v →
      holds_role (user_of v.before name) Reviewer ≡ true
  pub reviewers_now : (name : List ℕ) → Contains (approvals h p n) name
      → holds_role (user_of h name) Reviewer ≡ true
  pub no_authors : (name : List ℕ) → Contains (approvals h p n) name → is_author h p name ≡ false
  pub issuer_no_author : is_author h p issuer ≡ false

-- ---- of what

-- a name's standing vote approves; it named the digest of the revision's text, after its
-- submission, and nothing of the profile was submitted since
pub record NamesTheText
    (h : History) (p : ProfileName) (n : ℕ) (submission : Submission) (name : List ℕ) : Type 0 where
  pub vote : CastVote
  pub stands : vote_of h p n name ≡ Some vote
  pub approves : vote.approves ≡ true
  pub newer : History
  pub cast : h ≡ newer ++ voted name p n vote.digest vote.approves ∷ vote.before
  pub digest : vote.digest ≡ digest_of submission.text
  pub after_it : submission_of vote.before p n ≡ Some submission
  pub none_since : list_any (submits p) newer ≡ false

-- each approval is of the text that is issued
pub record AreOfTheText (h : History) (p : ProfileName) (n : ℕ) : Type 0 where
  pub submission : Submission
  pub submitted : submission_of h p n ≡ Some submission
  pub each : (name : List ℕ) → Contains (approvals h p n) name → NamesTheText h p n submission name

-- ---- how many

-- the approvals are as many as the need asks for, one with security where it asks for that
pub record AreEnough (h : History) (p : ProfileName) (n : ℕ) : Type 0 where
  pub count : approvals_of (need_at h p n) ≤ length (approvals h p n)
  pub secured : need_at h p n ≡ TwoWithSecurity → 0 < length (secure_approvals h p n)

-- fewer than two approvals, or none with security
abbrev pub LacksTwo : History → ProfileName → ℕ → Type 0
LacksTwo h p n = (length (approvals h p n) < 2) ⊎ (length (secure_approvals h p n) ≡ 0)

-- no listed capability is in any set of a document, and it permits no more than the baseline: each
-- of its sets is within the baseline's, and for every call and all its words the action is no more
-- permissive
pub record IsPlain (listed : ℕ) (base document : Profile) : Type 0 where
  pub unlisted : (set : CapSet) (n : ℕ) → Has listed n → Has (state_set set document.caps) n → ⊥
  pub no_wider : IsNoWider base document

-- the revision's document is plain, against the baseline of the moment
pub record IsPlainRevision (h : History) (p : ProfileName) (n : ℕ) : Type 0 where
  pub submission : Submission
  pub submitted : submission_of h p n ≡ Some submission
  pub plain : IsPlain (listed_of h) (baseline_of h p.team) (document_of submission.text)

-- ---- what is given out

-- a document that reads as a profile was handed in; its canonical text becomes the next
-- revision, and the digest of that is given
pub record IsSubmission
    (h : History) (caller : List ℕ) (a : Ask)
    (digest : List ℕ) (n : ℕ) (e : Option Event) : Type 0 where
  pub profile : ProfileName
  pub document : Vec ℕ Global
  pub asked : a ≡ ask.Submit profile document
  pub read : Profile
  pub reads : reading_of document.items ≡ Ok read
  pub of_its_text : digest ≡ digest_of (text_of read)
  pub next : n ≡ suc (revision_count h profile)
  pub happened : e ≡ Some (submitted caller profile (text_of read))

-- the text is what the submission of that number carried, and the digest is its
pub record IsTextOf (h : History) (p : ProfileName) (n : ℕ) (digest text : List ℕ) : Type 0 where
  pub author : List ℕ
  pub submitted : submission_of h p n ≡ Some (record { author = author; text = text })
  pub is_digest : digest ≡ digest_of text

-- the digest is that of the text that the submission of that number carried
pub record IsDigestOf (h : History) (p : ProfileName) (n : ℕ) (digest : List ℕ) : Type 0 where
  pub submission : Submission
  pub submitted : submission_of h p n ≡ Some submission
  pub of_its_text : digest ≡ digest_of submission.text

-- what is fetched was issued and is issued now
pub record IsFetched (h : History) (p : ProfileName) (n : ℕ) (digest text : List ℕ) : Type 0 where
  pub was_submitted : IsTextOf h p n digest text
  pub was_issued : list_any (issues p n) h ≡ true
  pub is_issued : state_of h p n ≡ Issued

-- what a fetch comes to, without the text
abbrev pub without_text : Verdict → Verdict
without_text (accepted (reply.Fetched digest text n) e) = accepted (reply.IssuedNow digest n) e
without_text v = v

-- each text that was submitted is the canonical text of the document that it reads as
abbrev pub ReadsBack : History → Type 0
ReadsBack h =
    (p : ProfileName) (n : ℕ) (s : Submission) → submission_of h p n ≡ Some s →
    (reading_of s.text ≡ Ok (document_of s.text)) × (text_of (document_of s.text) ≡ s.text)

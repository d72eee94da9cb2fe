-- Separation of duty.
use Rattle.std.proofs.Common.{◌≡◌, ◌≢◌, ◌∙◌, ◌⊎◌, inl, inr, ◌<◌, ◌≤◌, ◌==◌, ◌&&◌, ℕ, zero, suc, List, [], ◌∷◌, length, get_or, Bool, true, false, not, cond, Some, None, Option, refl, sym, ap, subst, arith, eqb-true}
use Rattle.std.specs.Prelude.{option_map, filter}
use Rattle.std.specs.List.{AllPairs, Contains}
use Rattle.std.specs.Int.RustNames.{bit_and, bit_or}
use Rattle.std.proofs.lemmas.Bool.{ltb-false, eqb-false}
use Rattle.cap_sets.specs.Capability.{Has}
use Rattle.cap_sets.specs.declared.state.CapState.{CapState}
use Rattle.cap_sets.proofs.Bits.{none_in_zero, or_from_either, and_from_both}
use Rattle.profile_text.specs.Digest.{digest_of}
use Rattle.profile_text.specs.Reads.{state_set}
use Rattle.profile_text.specs.declared.profile.Profile.{Profile}
use Rattle.profile_text.specs.declared.sets.CapSet.{CapSet}
use Rattle.profile_text.specs.declared.sets.CapSet.TheVariants.{Ambient, Bounding, Effective, Inheritable, Permitted}
use Rattle.office_words.specs.declared.name.ProfileName.{ProfileName}
use Rattle.review_policy.specs.declared.denial.Need.{Need}
use Rattle.review_policy.specs.declared.denial.Need.TheVariants.{One, TwoWithSecurity}
use Rattle.office_words.specs.declared.revision.State.{State}
use Rattle.office_words.specs.declared.revision.State.TheVariants.{Open, Closed, Issued, Replaced, Withdrawn}
use Rattle.office_words.specs.declared.role.Role.TheVariants.{Reviewer}
use Rattle.review_policy.specs.Rules.{is_open, need_of, approvals_of, asks_security}
use Rattle.office_words.specs.Lists.{holds_role, standing_vote}
use Rattle.office_words.proofs.Members.{Has as IsIn, AreOnce, has_contained}
use Rattle.widening.specs.Findings.{is_wider}
use Rattle.widening.proofs.Permitted.{no_wider_by_test}
use Rattle.profile_text.specs.Profile.{all_sets, holds_listed}
use Rattle.office_policy.specs.History.{issued, voted, History}
use Rattle.office_policy.specs.Users.{user_of}
use Rattle.office_policy.specs.Revisions.{Submission, submission_of, revision_of, revision_count, state_of, is_author, state_in}
use Rattle.office_policy.specs.Votes.{CastVote, vote_of, kept_vote, standing_at, voters_of, passes, approvals, secure_approvals}
use Rattle.office_policy.specs.Documents.{document_of}
use Rattle.office_policy.specs.Baseline.{baseline_of, listed_of}
use Rattle.office_policy.specs.Need.{need_against, need_of_row, need_at}
use Rattle.office_policy.specs.Facts.{has_digest}
use Rattle.office_policy.specs.Lawful.{IsLawfulHistory}
use Rattle.office_policy.specs.Duty.{AreOthers, AreOfTheText, AreEnough, LacksTwo, IsPlainRevision}
use Rattle.office_policy.proofs.VoterFacts.{once_ordered, voters_ordered}
use Rattle.office_policy.proofs.UserFacts.{same_bytes}
use Rattle.office_policy.proofs.Histories.{open_last}
use Rattle.office_policy.proofs.LawFacts.{IssueAllowed, allowed_follows}
use Rattle.office_policy.proofs.CastFacts.{IsCastOn, voted_on, submission_kept, author_kept}
use Rattle.office_policy.proofs.GivenOut.{row_of}
use Rattle.office_policy.proofs.TextFacts.{reads_back, known_caps}

-- ---- the issue

-- what an issue follows, on the lawful history before it
pub record IsIssue (h : History) (issuer : List ℕ) (p : ProfileName) (n : ℕ) : Type 0 where
  pub lawful : IsLawfulHistory h
  pub allowed : IssueAllowed h issuer p n

pub issue_of : (h : History) (issuer : List ℕ) (p : ProfileName) (n : ℕ) → IsLawfulHistory (issued issuer p n ∷ h) → IsIssue h issuer p n
issue_of [] issuer p n lawful = absurd lawful
issue_of (f ∷ h) issuer p n lawful = record { lawful = lawful.1; allowed = allowed_follows (f ∷ h) (issued issuer p n) lawful.0 }

open_state : (s : State) → is_open (Some s) ≡ true → s ≡ Open
open_state Open is = refl
open_state Closed is = absurd (cc)
open_state Issued is = absurd (cc)
open_state Replaced is = absurd (cc)
open_state Withdrawn is = absurd (cc)

-- the open revision is the last submission
record IsOpenLast (h : History) (p : ProfileName) (n : ℕ) : Type 0 where
  submission : Submission
  submitted : submission_of h p n ≡ Some submission
  last : n ≡ revision_count h p

open_submission : (h : History) (p : ProfileName) (n : ℕ) → is_open (state_in (revision_of h p n)) ≡ true → IsOpenLast h p n
open_submission h p n is = by_submission (submission_of h p n) refl is
  where
    by_submission : (s : Option Submission) → submission_of h p n ≡ s → is_open (state_in (option_map (row_of h p n) s)) ≡ true → IsOpenLast h p n
    by_submission None found is = absurd (cc)
    by_submission (Some s) found is = record {
      submission = s;
      submitted = found;
      last = open_last h p n (row_of h p n s) (ap (option_map (row_of h p n)) found) (open_state (state_of h p n) is);
    }

-- ---- lists

module _ (test : List ℕ → Bool) where
  pub in_filter : (names : List (List ℕ)) (name : List ℕ) → IsIn (filter test names) name → IsIn names name × (test name ≡ true)
  in_filter [] name h = absurd h
  in_filter (x ∷ names) name h =
      elim (test x) as (λ b. test x ≡ b → IsIn (cond b (x ∷ filter test names) (filter test names)) name → ((name ≡ x) ⊎ IsIn names name) × (test name ≡ true)) [
        | true ↦ λ passes h. at_first (in_filter names name) passes h
        | false ↦ λ fails h. let later = in_filter names name h in (inr later.0, later.1)
      ] refl h
    where
      at_first : (IsIn (filter test names) name → IsIn names name × (test name ≡ true)) → test x ≡ true → (name ≡ x) ⊎ IsIn (filter test names) name → ((name ≡ x) ⊎ IsIn names name) × (test name ≡ true)
      at_first before passes (inl same) = (inl same, ap test same ∙ passes)
      at_first before passes (inr h) = let later = before h in (inr later.0, later.1)

  once_filter : (names : List (List ℕ)) → AreOnce names → AreOnce (filter test names)
  once_filter [] once = tt
  once_filter (x ∷ names) once =
      elim (test x) as (λ b. AreOnce (cond b (x ∷ filter test names) (filter test names))) [
        | true ↦ ((λ h. once.0 (in_filter names x h).0), once_filter names once.1)
        | false ↦ once_filter names once.1
      ]

in_at : (names : List (List ℕ)) (k : ℕ) (d : List ℕ) → k < length names → IsIn names (get_or names k d)
in_at [] k d below = absurd (omega arith)
in_at (x ∷ names) zero d below = inl refl
in_at (x ∷ names) (suc k) d below = inr (in_at names k d (omega arith))

apart_once : (names : List (List ℕ)) → AreOnce names → AllPairs (λ a b. a ≢ b) names
apart_once [] once i j d before below same = absurd (omega arith)
apart_once (x ∷ names) once i zero d before below same = absurd (omega arith)
apart_once (x ∷ names) once zero (suc j) d before below same = once.0 (subst (IsIn names) (sym same) (in_at names j d (omega arith)))
apart_once (x ∷ names) once (suc i) (suc j) d before below same = apart_once names once.1 i j d (omega arith) (omega arith) same

pub distinct_approvals : (h : History) (p : ProfileName) (n : ℕ) → AllPairs (λ a b. a ≢ b) (approvals h p n)
distinct_approvals h p n = apart_once (approvals h p n) (once_filter _ (voters_of h p n) (once_ordered (voters_of h p n) (voters_ordered h p n)))

-- ---- approvals

-- a name that approves has a vote that does, and is a reviewer
record IsApproval (h : History) (p : ProfileName) (n : ℕ) (name : List ℕ) : Type 0 where
  vote : CastVote
  stands : vote_of h p n name ≡ Some vote
  approves : vote.approves ≡ true
  reviewer : holds_role (user_of h name) Reviewer ≡ true

both_true : (a b : Bool) → (a && b) ≡ true → (a ≡ true) × (b ≡ true)
both_true true true e = (refl, refl)
both_true true false e = absurd (cc)
both_true false b e = absurd (cc)

approval_of : (h : History) (p : ProfileName) (n : ℕ) (name : List ℕ) → Contains (approvals h p n) name → IsApproval h p n name
approval_of h p n name is =
    by_vote (vote_of h p n name) refl (in_filter (λ x. passes (λ row. row.counts && row.approve) (standing_at h p n x)) (voters_of h p n) name (has_contained (approvals h p n) name is)).1
  where
    by_vote : (v : Option CastVote) → vote_of h p n name ≡ v
        → passes (λ row. row.counts && row.approve) (option_map (λ k. standing_vote name k (user_of h name)) (option_map (kept_vote name) v)) ≡ true → IsApproval h p n name
    by_vote None at passes = absurd (cc)
    by_vote (Some v) at passes =
        let parts = both_true (holds_role (user_of h name) Reviewer) v.approves passes in
        record { vote = v; stands = at; approves = parts.1; reviewer = parts.0 }

-- the vote of an approval of the last revision, as it was cast
cast_of : (h : History) (p : ProfileName) (n : ℕ) (name : List ℕ) (v : CastVote) → IsLawfulHistory h → is_open (state_in (revision_of h p n)) ≡ true → vote_of h p n name ≡ Some v → IsCastOn h p n name v
cast_of h p n name v lawful opened at = (voted_on h lawful p n name v at).on_last (open_submission h p n opened).last

pub others_at : (h : History) (issuer : List ℕ) (p : ProfileName) (n : ℕ) → IsIssue h issuer p n → AreOthers h issuer p n
others_at h issuer p n is =
    record {
      distinct = distinct_approvals h p n;
      reviewers_then = λ name v approves at. (cast_of h p n name v is.lawful is.allowed.still_open at).allowed.reviewer;
      reviewers_now = λ name approves. (approval_of h p n name approves).reviewer;
      no_authors = λ name approves.
          let vote = approval_of h p n name approves in
          let c = cast_of h p n name vote.vote is.lawful is.allowed.still_open vote.stands in
          ap (λ k. is_author k p name) c.cast ∙ author_kept c.newer (voted name p n vote.vote.digest vote.vote.approves ∷ vote.vote.before) p name c.none_since ∙ c.allowed.no_author;
      issuer_no_author = is.allowed.no_author;
    }

pub by_others : (h : History) (issuer : List ℕ) (p : ProfileName) (n : ℕ) → IsLawfulHistory (issued issuer p n ∷ h) → AreOthers h issuer p n
by_others h issuer p n lawful = others_at h issuer p n (issue_of h issuer p n lawful)

-- a digest that a revision has is that of its text
named_text : (h : History) (p : ProfileName) (n : ℕ) (s : Submission) (digest : List ℕ) → submission_of h p n ≡ Some s → has_digest (revision_of h p n) digest ≡ true → digest ≡ digest_of s.text
named_text h p n s digest at named =
    sym (same_bytes (digest_of s.text) digest (subst (λ o. has_digest (option_map (row_of h p n) o) digest ≡ true) at named))

pub texts_at : (h : History) (issuer : List ℕ) (p : ProfileName) (n : ℕ) → IsIssue h issuer p n → AreOfTheText h p n
texts_at h issuer p n is =
    let last = open_submission h p n is.allowed.still_open in
    record {
      submission = last.submission;
      submitted = last.submitted;
      each = λ name approves.
          let vote = approval_of h p n name approves in
          let c = cast_of h p n name vote.vote is.lawful is.allowed.still_open vote.stands in
          let rest = voted name p n vote.vote.digest vote.vote.approves ∷ vote.vote.before in
          let after : submission_of vote.vote.before p n ≡ Some last.submission =
          sym (ap (λ k. submission_of k p n) c.cast ∙ submission_kept c.newer rest p n c.none_since) ∙ last.submitted in
          record {
            vote = vote.vote;
            stands = vote.stands;
            approves = vote.approves;
            newer = c.newer;
            cast = c.cast;
            digest = named_text vote.vote.before p n last.submission vote.vote.digest after c.allowed.named;
            after_it = after;
            none_since = c.none_since;
          };
    }

pub of_the_text : (h : History) (issuer : List ℕ) (p : ProfileName) (n : ℕ) → IsLawfulHistory (issued issuer p n ∷ h) → AreOfTheText h p n
of_the_text h issuer p n lawful = texts_at h issuer p n (issue_of h issuer p n lawful)

-- ---- the need

pub enough_at : (h : History) (issuer : List ℕ) (p : ProfileName) (n : ℕ) → IsIssue h issuer p n → AreEnough h p n
enough_at h issuer p n is =
    record {
      count = ltb-false (length (approvals h p n)) (approvals_of (need_at h p n)) is.allowed.enough;
      secured = λ two. some (length (secure_approvals h p n)) (subst (λ x. (asks_security x && (length (secure_approvals h p n) == 0)) ≡ false) two is.allowed.secured);
    }
  where
    some : (k : ℕ) → (k == 0) ≡ false → 0 < k
    some k e = let other = eqb-false k 0 e in omega arith

pub enough : (h : History) (issuer : List ℕ) (p : ProfileName) (n : ℕ) → IsLawfulHistory (issued issuer p n ∷ h) → AreEnough h p n
enough h issuer p n lawful = enough_at h issuer p n (issue_of h issuer p n lawful)

-- what needs one approval alone is neither wider nor holds a listed capability
one_needed : (a b : Bool) → need_of a b ≡ One → (a ≡ false) × (b ≡ false)
one_needed true b e = absurd (cc)
one_needed false true e = absurd (cc)
one_needed false false e = (refl, refl)

zero_from : (k : ℕ) → not (k == 0) ≡ false → k ≡ 0
zero_from k e = by_test (k == 0) refl e
  where
    by_test : (b : Bool) → (k == 0) ≡ b → not b ≡ false → k ≡ 0
    by_test true is e = eqb-true k 0 is
    by_test false is e = absurd (cc)

in_all_sets : (s : CapState) (set : CapSet) (n : ℕ) → Has (state_set set s) n → Has (all_sets s) n
in_all_sets s Effective n h = or_from_either s.effective (bit_or s.permitted (bit_or s.inheritable (bit_or s.bounding s.ambient))) n (inl h)
in_all_sets s Permitted n h =
    or_from_either s.effective (bit_or s.permitted (bit_or s.inheritable (bit_or s.bounding s.ambient))) n
    (inr (or_from_either s.permitted (bit_or s.inheritable (bit_or s.bounding s.ambient)) n (inl h)))
in_all_sets s Inheritable n h =
    or_from_either s.effective (bit_or s.permitted (bit_or s.inheritable (bit_or s.bounding s.ambient))) n
    (inr (or_from_either s.permitted (bit_or s.inheritable (bit_or s.bounding s.ambient)) n
    (inr (or_from_either s.inheritable (bit_or s.bounding s.ambient) n (inl h)))))
in_all_sets s Bounding n h =
    or_from_either s.effective (bit_or s.permitted (bit_or s.inheritable (bit_or s.bounding s.ambient))) n
    (inr (or_from_either s.permitted (bit_or s.inheritable (bit_or s.bounding s.ambient)) n
    (inr (or_from_either s.inheritable (bit_or s.bounding s.ambient) n (inr (or_from_either s.bounding s.ambient n (inl h)))))))
in_all_sets s Ambient n h =
    or_from_either s.effective (bit_or s.permitted (bit_or s.inheritable (bit_or s.bounding s.ambient))) n
    (inr (or_from_either s.permitted (bit_or s.inheritable (bit_or s.bounding s.ambient)) n
    (inr (or_from_either s.inheritable (bit_or s.bounding s.ambient) n (inr (or_from_either s.bounding s.ambient n (inr h)))))))

-- a document that holds none of the listed capabilities has none in a set
none_listed : (listed : ℕ) (p : Profile) → holds_listed listed p ≡ false → (set : CapSet) (n : ℕ) → Has listed n → Has (state_set set p.caps) n → ⊥
none_listed listed p none set n is held =
    none_in_zero n (subst (λ k. Has k n) (zero_from (bit_and listed (all_sets p.caps)) none) (and_from_both listed (all_sets p.caps) n (is, in_all_sets p.caps set n held)))

-- with fewer approvals than two, or none with security, the need is one
need_one : (h : History) (p : ProfileName) (n : ℕ) → AreEnough h p n → LacksTwo h p n → need_at h p n ≡ One
need_one h p n enough lacks = by_need (need_at h p n) refl lacks
  where
    by_need : (need : Need) → need_at h p n ≡ need → LacksTwo h p n → need ≡ One
    by_need One is lacks = refl
    by_need TwoWithSecurity is (inl few) =
        let two : 2 ≤ length (approvals h p n) = subst (λ x. approvals_of x ≤ length (approvals h p n)) is enough.count in
        absurd (omega arith)
    by_need TwoWithSecurity is (inr none) = let some = enough.secured is in absurd (omega arith)

pub plain : (h : History) (issuer : List ℕ) (p : ProfileName) (n : ℕ) → IsLawfulHistory (issued issuer p n ∷ h) → LacksTwo h p n → IsPlainRevision h p n
plain h issuer p n lawful lacks =
    let is = issue_of h issuer p n lawful in
    let last = open_submission h p n is.allowed.still_open in
    let document = document_of last.submission.text in
    let one : need_at h p n ≡ One = need_one h p n (enough h issuer p n lawful) lacks in
    let need : need_against (listed_of h) (baseline_of h p.team) document ≡ One = need_of_submission last.submission last.submitted ∙ one in
    let parts = one_needed (is_wider (baseline_of h p.team) document) (holds_listed (listed_of h) document) need in
    record {
      submission = last.submission;
      submitted = last.submitted;
      plain = record {
        unlisted = none_listed (listed_of h) document parts.1;
        no_wider = no_wider_by_test (baseline_of h p.team) document (known_caps last.submission.text document (reads_back h is.lawful p n last.submission last.submitted).0) parts.0;
      };
    }
  where
    need_of_submission : (s : Submission) → submission_of h p n ≡ Some s → need_against (listed_of h) (baseline_of h p.team) (document_of s.text) ≡ need_at h p n
    need_of_submission s at = sym (ap (λ o. need_of_row h p.team (option_map (row_of h p n) o)) at)

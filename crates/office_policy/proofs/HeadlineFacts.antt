-- What is issued and fetched was approved.
use Rattle.std.proofs.Common.{◌≡◌, ◌∙◌, inl, inr, ◌<◌, ◌==◌, ◌&&◌, ◌||◌, ℕ, List, [], ◌∷◌, ◌++◌, length, Bool, true, false, cond, Some, None, Option, refl, sym, ap, subst, arith, eqb-true}
use Rattle.std.specs.Prelude.{filter, option_map}
use Rattle.std.specs.List.{list_any}
use Rattle.profile_text.specs.Digest.{digest_of}
use Rattle.review_policy.specs.declared.act.ProfileView.TheVariants.{Fetch}
use Rattle.review_policy.specs.declared.act.ProfileView.TheVariants as views
use Rattle.office_words.specs.declared.name.ProfileName.{ProfileName}
use Rattle.review_policy.specs.declared.ask.Ask.TheVariants as ask
use Rattle.review_policy.specs.declared.ask.Request.{Request}
use Rattle.review_policy.specs.declared.answer.Answer.{Answer}
use Rattle.review_policy.specs.declared.answer.Answer.TheVariants.{Done}
use Rattle.review_policy.specs.declared.answer.Reply.TheVariants as reply
use Rattle.office_words.specs.declared.role.Role.TheVariants.{Reviewer, Security}
use Rattle.office_words.specs.Lists.{holds_role, standing_vote}
use Rattle.office_words.specs.Tables.{is_profile}
use Rattle.office_words.proofs.Members.{Has as IsIn, contains_had}
use Rattle.office_policy.specs.History.{Event, issued, History}
use Rattle.office_policy.specs.Users.{user_of}
use Rattle.office_policy.specs.Revisions.{Submission, issues, submission_of}
use Rattle.office_policy.specs.Votes.{CastVote, vote_of, kept_vote, standing_at, voters_of, passes, approvals, secure_approvals}
use Rattle.office_policy.specs.Verdict.{Verdict, accepted, verdict}
use Rattle.office_policy.specs.Runs.{IsAnswer}
use Rattle.office_policy.specs.Lawful.{IsLawfulHistory}
use Rattle.office_policy.specs.Headline.{HasSecurity, IsApproved, IsOfApproved, WasApproved, NamesApproved, GivesOutApproved}
use Rattle.office_policy.specs.Duty.{without_text}
use Rattle.office_policy.proofs.StateFacts.{both, same_profile}
use Rattle.office_policy.proofs.Histories.{submissions_kept}
use Rattle.office_policy.proofs.GivenOut.{fetched_text, issued_digest, told_as_fetched}
use Rattle.office_policy.proofs.AnswerFacts.{accepted_is}
use Rattle.office_policy.proofs.ReplyFacts.{IsAskingIssued, caller_in, replied_to}
use Rattle.office_policy.proofs.LawFacts.{event_follows}
use Rattle.office_policy.proofs.DutyFacts.{in_filter, IsIssue, issue_of, others_at, texts_at, enough_at}

-- ---- security

false_true : false ≡ true → ⊥
false_true e = cc

-- a member that passes a test is among those that do
kept_in : (test : List ℕ → Bool) (names : List (List ℕ)) (name : List ℕ) → IsIn names name → test name ≡ true → IsIn (filter test names) name
kept_in test [] name h pass = absurd h
kept_in test (x ∷ names) name (inl same) pass =
    elim (test x) as (λ b. test x ≡ b → IsIn (cond b (x ∷ filter test names) (filter test names)) name) [
      | true ↦ λ here. inl same
      | false ↦ λ here. absurd (false_true (sym here ∙ ap test (sym same) ∙ pass))
    ] refl
kept_in test (x ∷ names) name (inr h) pass =
    elim (test x) as (λ b. IsIn (cond b (x ∷ filter test names) (filter test names)) name) [
      | true ↦ inr (kept_in test names name h pass)
      | false ↦ kept_in test names name h pass
    ]

-- the first of a list that has one
first_of : (names : List (List ℕ)) → 0 < length names → (name : List ℕ) × IsIn names name
first_of [] some = absurd (omega arith)
first_of (x ∷ names) some = (x, inl refl)

-- whether a standing vote counts and approves
abbrev approving : History → ProfileName → ℕ → List ℕ → Bool
approving h p n name = passes (λ row. row.counts && row.approve) (standing_at h p n name)

-- an approval with security
secure_of : (h : History) (p : ProfileName) (n : ℕ) (name : List ℕ) → IsIn (secure_approvals h p n) name → HasSecurity h p n
secure_of h p n name is =
    let found = in_filter (λ x. passes (λ row. row.approve && row.security) (standing_at h p n x)) (voters_of h p n) name is in
    by_vote found.0 (vote_of h p n name) refl found.1
  where
    by_vote : IsIn (voters_of h p n) name → (v : Option CastVote) → vote_of h p n name ≡ v
        → passes (λ row. row.approve && row.security) (option_map (λ k. standing_vote name k (user_of h name)) (option_map (kept_vote name) v)) ≡ true → HasSecurity h p n
    by_vote voter None at secure = absurd (cc)
    by_vote voter (Some v) at secure =
        let now : Bool = holds_role (user_of h name) Security in
        let then : Bool = holds_role (user_of v.before name) Security in
        let reviewer : Bool = holds_role (user_of h name) Reviewer in
        let parts = both v.approves (reviewer && then && now) secure in
        let held = both (reviewer && then) now parts.1 in
        let early = both reviewer then held.0 in
        let counts : (reviewer && v.approves) ≡ true = rw (early.0, parts.0) refl in
        record {
          name = name;
          among = contains_had (approvals h p n) name (kept_in (approving h p n) (voters_of h p n) name voter (standing_approves v at counts));
          vote = v;
          stands = at;
          had_security = early.1;
          has_security = held.1;
        }
      where
        standing_approves : (v : CastVote) → vote_of h p n name ≡ Some v → (holds_role (user_of h name) Reviewer && v.approves) ≡ true → approving h p n name ≡ true
        standing_approves v at counts =
            subst (λ o. passes (λ row. row.counts && row.approve) (option_map (λ k. standing_vote name k (user_of h name)) (option_map (kept_vote name) o)) ≡ true) (sym at) counts

-- ---- the approved text

-- what was submitted before is what is submitted there still
pub still_submitted : (newer rest : History) (p : ProfileName) (n : ℕ) (s : Submission) → submission_of rest p n ≡ Some s → submission_of (newer ++ rest) p n ≡ Some s
still_submitted [] rest p n s at = at
still_submitted (e ∷ newer) rest p n s at = submissions_kept (newer ++ rest) e p n s (still_submitted newer rest p n s at)

pub approved : (h : History) (issuer : List ℕ) (p : ProfileName) (n : ℕ) (s : Submission) → IsIssue h issuer p n → submission_of h p n ≡ Some s → IsApproved h issuer p n s.text
approved h issuer p n s is at =
    let others = others_at h issuer p n is in
    let text = texts_at h issuer p n is in
    let need = enough_at h issuer p n is in
    let same : text.submission ≡ s = cc in
    record {
      author = s.author;
      submitted = at;
      distinct = others.distinct;
      each = λ name approves.
          let it = text.each name approves in
          record {
            vote = it.vote;
            stands = it.stands;
            approves = it.approves;
            of_the_text = it.digest ∙ ap (λ x. digest_of x.text) same;
            was_reviewer = others.reviewers_then name it.vote approves it.stands;
            is_reviewer = others.reviewers_now name approves;
            no_author = others.no_authors name approves;
          };
      count = need.count;
      secured = λ two. let first = first_of (secure_approvals h p n) (need.secured two) in secure_of h p n first.0 first.1;
      issuer_no_author = others.issuer_no_author;
    }

-- ---- an issue of the past

-- an issue of a lawful history
pub record WasIssued (h : History) (p : ProfileName) (n : ℕ) : Type 0 where
  pub issuer : List ℕ
  pub since : History
  pub before : History
  pub issue : h ≡ since ++ issued issuer p n ∷ before
  pub lawful : IsLawfulHistory (issued issuer p n ∷ before)

was_issued_more : (h : History) (e : Event) (p : ProfileName) (n : ℕ) → WasIssued h p n → WasIssued (e ∷ h) p n
was_issued_more h e p n was = record { issuer = was.issuer; since = e ∷ was.since; before = was.before; issue = ap (λ k. e ∷ k) was.issue; lawful = was.lawful }

-- the event is the issue, or an earlier one is
by_event : (h : History) (e : Event) (p : ProfileName) (n : ℕ) → IsLawfulHistory (e ∷ h) → (list_any (issues p n) h ≡ true → WasIssued h p n)
    → (issues p n e || list_any (issues p n) h) ≡ true → WasIssued (e ∷ h) p n
by_event h (issued c q m) p n lawful earlier among =
    elim (is_profile p q && (n == m)) as (λ b. (is_profile p q && (n == m)) ≡ b → (b || list_any (issues p n) h) ≡ true → WasIssued (issued c q m ∷ h) p n) [
      | true ↦ λ here among. let parts = both (is_profile p q) (n == m) here in at_once (same_profile p q parts.0) (eqb-true n m parts.1)
      | false ↦ λ here among. was_issued_more h (issued c q m) p n (earlier among)
    ] refl among
  where
    at_once : p ≡ q → n ≡ m → WasIssued (issued c q m ∷ h) p n
    at_once same_p same_n =
        subst (λ x. WasIssued (issued c q m ∷ h) x n) (sym same_p)
        (subst (λ x. WasIssued (issued c q m ∷ h) q x) (sym same_n)
        (record { issuer = c; since = []; before = h; issue = refl; lawful = lawful }))
by_event h e p n lawful earlier among = was_issued_more h e p n (earlier among)

pub was_issued : (h : History) → IsLawfulHistory h → (p : ProfileName) (n : ℕ) → list_any (issues p n) h ≡ true → WasIssued h p n
was_issued [] lawful p n among = absurd lawful
was_issued (e ∷ []) lawful p n among = by_event [] e p n lawful (λ none. absurd (cc)) among
was_issued (e ∷ f ∷ h) lawful p n among = by_event (f ∷ h) e p n lawful (was_issued (f ∷ h) lawful.1 p n) among

-- ---- what is given out

pub fetched_approved : (h : History) (r : Request) (digest text : List ℕ) (n : ℕ) (e : Option Event)
    → IsLawfulHistory h → verdict h r ≡ accepted (reply.Fetched digest text n) e → WasApproved h r.ask digest text n
fetched_approved h r digest text n e lawful is =
    let asked = replied_to h r (reply.Fetched digest text n) e is in
    let p = asked.profile in
    let given = fetched_text h r p n digest text e asked.asked is in
    let was = was_issued h lawful p n given.was_issued in
    let issue = issue_of was.before was.issuer p n was.lawful in
    let before = texts_at was.before was.issuer p n issue in
    let kept : submission_of h p n ≡ Some before.submission =
    ap (λ k. submission_of k p n) was.issue ∙ still_submitted was.since (issued was.issuer p n ∷ was.before) p n before.submission before.submitted in
    let same : before.submission ≡ record { author = given.was_submitted.author; text = text } = some_same (sym kept ∙ given.was_submitted.submitted) in
    record {
      profile = p;
      asked = asked.asked;
      of_its_text = given.was_submitted.is_digest;
      issuer = was.issuer;
      since = was.since;
      before = was.before;
      issue = was.issue;
      approved = approved was.before was.issuer p n (record { author = given.was_submitted.author; text = text }) issue (before.submitted ∙ ap Some same);
    }
  where
    some_same : {a b : Submission} → Some a ≡ Some b → a ≡ b
    some_same e = cc

pub issued_approved : (h : History) (r : Request) (digest : List ℕ) (e : Option Event)
    → IsLawfulHistory h → verdict h r ≡ accepted (reply.Issued digest) e → IsOfApproved h r digest
issued_approved h r digest e lawful is =
    let asked = replied_to h r (reply.Issued digest) e is in
    let p = asked.profile in
    let n = asked.number in
    let caller = caller_in h r in
    let given = issued_digest h r p n digest e asked.asked is in
    let follows = event_follows h r (reply.Issued digest) (issued caller p n) (is ∙ ap (accepted (reply.Issued digest)) asked.happened) in
    record {
      profile = p;
      number = n;
      asked = asked.asked;
      text = given.submission.text;
      of_its_text = given.of_its_text;
      approved = approved h caller p n given.submission (record { lawful = lawful; allowed = follows }) given.submitted;
    }

pub named_approved : (h : History) (r : Request) (digest : List ℕ) (n : ℕ) (e : Option Event)
    → IsLawfulHistory h → verdict h r ≡ accepted (reply.IssuedNow digest n) e → NamesApproved h r.ask digest n
named_approved h r digest n e lawful is =
    by_fetch (verdict h fetch) refl (sym (told_as_fetched h r.token p) ∙ sym (ap (λ a. verdict h (record { token = r.token; ask = a })) asked.asked) ∙ is)
  where
    asked : IsAskingIssued r.ask
    asked = replied_to h r (reply.IssuedNow digest n) e is

    p : ProfileName
    p = asked.profile

    fetch : Request
    fetch = record { token = r.token; ask = ask.SeeProfile Fetch p }

    by_fetch : (v : Verdict) → verdict h fetch ≡ v → without_text v ≡ accepted (reply.IssuedNow digest n) e → NamesApproved h r.ask digest n
    by_fetch (accepted (reply.Fetched d text m) f) found told =
        let same : accepted (reply.Fetched d text m) f ≡ accepted (reply.Fetched digest text n) f = cc in
        record { profile = p; asked = asked.asked; text = text; was_approved = fetched_approved h fetch digest text n f lawful (found ∙ same) }
    by_fetch v found told =
        let it = replied_to h fetch (reply.IssuedNow digest n) e (found ∙ told) in
        let never : ask.SeeProfile Fetch p ≡ ask.SeeProfile views.Issued it.profile = it.asked in
        absurd cc

-- what an answer of the verdict gives out was approved
pub given_out_approved : (h : History) (r : Request) (told : Answer) → IsLawfulHistory h → IsAnswer h r told → GivesOutApproved h r told
given_out_approved h r (Done (reply.Issued digest)) lawful is =
    let it = accepted_is h r (reply.Issued digest) is in
    issued_approved h r digest it.0 lawful it.1
given_out_approved h r (Done (reply.Fetched digest text n)) lawful is =
    let it = accepted_is h r (reply.Fetched digest text n) is in
    fetched_approved h r digest text n it.0 lawful it.1
given_out_approved h r (Done (reply.IssuedNow digest n)) lawful is =
    let it = accepted_is h r (reply.IssuedNow digest n) is in
    named_approved h r digest n it.0 lawful it.1
given_out_approved h r told lawful is = tt

-- What is shown and fetched was submitted, and nothing of a held profile is given out.
use Rattle.std.proofs.Common.{◌≡◌, ◌∙◌, ℕ, List, true, false, cond, Some, None, Option, Ok, Err, refl, sym, ap, subst}
use Rattle.std.specs.Prelude.{Result, ⊤, option_map, option_and_then, nat_lt, is_none}
use Rattle.std.specs.List.{list_any}
use Rattle.profile_text.specs.Digest.{digest_of}
use Rattle.review_policy.specs.declared.act.ProfileView.TheVariants.{Fetch}
use Rattle.review_policy.specs.declared.act.ProfileView.TheVariants as views
use Rattle.review_policy.specs.declared.act.RevisionAct.TheVariants.{Issue}
use Rattle.review_policy.specs.declared.act.RevisionView.TheVariants.{Show}
use Rattle.office_words.specs.declared.name.ProfileName.{ProfileName}
use Rattle.review_policy.specs.declared.ask.Ask.{Ask}
use Rattle.review_policy.specs.declared.ask.Ask.TheVariants as ask
use Rattle.review_policy.specs.declared.ask.Request.{Request}
use Rattle.review_policy.specs.declared.answer.Reply.{Reply}
use Rattle.review_policy.specs.declared.answer.Reply.TheVariants as reply
use Rattle.review_policy.specs.declared.denial.Denial.{Denial}
use Rattle.office_words.specs.declared.revision.State.{State}
use Rattle.office_words.specs.declared.revision.State.TheVariants.{Open, Closed, Issued, Replaced, Withdrawn}
use Rattle.review_policy.specs.Rules.{is_issued, issue_rules, fetch_rules, first_denial, behind_caller}
use Rattle.office_words.specs.declared.row.UserRow.{UserRow}
use Rattle.office_words.specs.declared.row.RevisionRow.{RevisionRow}
use Rattle.office_policy.specs.History.{Event, issued as issued_event, History}
use Rattle.office_policy.specs.Users.{user_showing, name_of}
use Rattle.office_policy.specs.Revisions.{Submission, submission_of, revision_of, revision_count, state_of, issues, withdraws, is_replaced, is_author, last_issue, if_issued, issued_revision}
use Rattle.office_policy.specs.Votes.{tally_at}
use Rattle.office_policy.specs.Holds.{is_held}
use Rattle.office_policy.specs.Need.{need_at}
use Rattle.office_policy.specs.Facts.{issue_facts, fetch_facts}
use Rattle.office_policy.specs.Verdict.{Verdict, accepted, of_revision, rules_of, done_of, judged, verdict_of, verdict}
use Rattle.office_policy.specs.Duty.{IsTextOf, IsDigestOf, IsFetched, without_text}
use Rattle.office_policy.proofs.RuleFacts.{none_refuses}
use Rattle.office_policy.proofs.Histories.{issued_by}

-- where a verdict accepts, no rule refuses, and what is done is answered
pub record IsCarriedOut (h : History) (caller : Option UserRow) (a : Ask) (reply : Reply) (e : Option Event) : Type 0 where
  pub none_refuses : first_denial (rules_of h caller a) ≡ Ok tt
  pub done : done_of h caller a ≡ accepted reply e

pub carried_out_of : (h : History) (caller : Option UserRow) (a : Ask) (reply : Reply) (e : Option Event) → verdict_of h caller a ≡ accepted reply e → IsCarriedOut h caller a reply e
carried_out_of h caller a reply e is =
    elim (first_denial (rules_of h caller a)) as (λ r. first_denial (rules_of h caller a) ≡ r → judged h caller a r ≡ accepted reply e → IsCarriedOut h caller a reply e) [
      | Ok u ↦ λ none done. record { none_refuses = none; done = done }
      | Err d ↦ λ none done. absurd (cc)
    ] refl is

pub carried_out : (h : History) (r : Request) (a : Ask) (reply : Reply) (e : Option Event) → r.ask ≡ a → verdict h r ≡ accepted reply e
    → IsCarriedOut h (user_showing h (digest_of r.token)) a reply e
carried_out h r a reply e asks is =
    let caller = user_showing h (digest_of r.token) in
    carried_out_of h caller a reply e (subst (λ x. verdict_of h caller x ≡ accepted reply e) asks is)

-- ---- holds

pub issued_free : (h : History) (r : Request) (p : ProfileName) (n : ℕ) (reply : Reply) (e : Option Event) → r.ask ≡ ask.ActOnRevision Issue p n → verdict h r ≡ accepted reply e → is_held h p ≡ false
issued_free h r p n reply e asks is =
    let caller = user_showing h (digest_of r.token) in
    let done = carried_out h r (ask.ActOnRevision Issue p n) reply e asks is in
    (none_refuses 1 (behind_caller (is_none caller) (issue_rules (issue_facts caller (revision_of h p n) (is_author h p (name_of caller)) (tally_at h p n) (need_at h p n) (is_held h p)))) done.none_refuses).1.1.1.1.1.1.1.1.0

pub fetched_free : (h : History) (r : Request) (p : ProfileName) (reply : Reply) (e : Option Event) → r.ask ≡ ask.SeeProfile Fetch p → verdict h r ≡ accepted reply e → is_held h p ≡ false
fetched_free h r p reply e asks is =
    let caller = user_showing h (digest_of r.token) in
    let done = carried_out h r (ask.SeeProfile Fetch p) reply e asks is in
    (none_refuses 1 (behind_caller (is_none caller) (fetch_rules (fetch_facts caller p.team (issued_revision h p) (is_held h p)))) done.none_refuses).1.1.1.1.0

-- ---- texts

-- the row of a submission
abbrev pub row_of : History → ProfileName → ℕ → Submission → RevisionRow
row_of h p n s = record { number = n; author = s.author; state = state_of h p n; body = s.text; digest = digest_of s.text }

pub shown_text : (h : History) (r : Request) (p : ProfileName) (n : ℕ) (digest text : List ℕ) (state : State) (e : Option Event)
    → r.ask ≡ ask.SeeRevision Show p n → verdict h r ≡ accepted (reply.Shown digest text state) e → IsTextOf h p n digest text
shown_text h r p n digest text state e asks is = by_submission (submission_of h p n) refl (carried_out h r (ask.SeeRevision Show p n) (reply.Shown digest text state) e asks is).done
  where
    by_submission : (s : Option Submission) → submission_of h p n ≡ s
        → of_revision (option_map (row_of h p n) s) (λ r. accepted (reply.Shown r.digest r.body r.state) None) ≡ accepted (reply.Shown digest text state) e → IsTextOf h p n digest text
    by_submission None found done = absurd (cc)
    by_submission (Some s) found done =
        let same_text : s.text ≡ text = cc in
        let same_digest : digest_of s.text ≡ digest = cc in
        record {
          author = s.author;
          submitted = found ∙ (λ i. Some (record { author = s.author; text = same_text i }));
          is_digest = sym same_digest ∙ ap digest_of same_text;
        }

pub issued_digest : (h : History) (r : Request) (p : ProfileName) (n : ℕ) (digest : List ℕ) (e : Option Event)
    → r.ask ≡ ask.ActOnRevision Issue p n → verdict h r ≡ accepted (reply.Issued digest) e → IsDigestOf h p n digest
issued_digest h r p n digest e asks is = by_submission (submission_of h p n) refl (carried_out h r (ask.ActOnRevision Issue p n) (reply.Issued digest) e asks is).done
  where
    event : Event
    event = issued_event (name_of (user_showing h (digest_of r.token))) p n

    by_submission : (s : Option Submission) → submission_of h p n ≡ s
        → of_revision (option_map (row_of h p n) s) (λ x. accepted (reply.Issued x.digest) (Some event)) ≡ accepted (reply.Issued digest) e → IsDigestOf h p n digest
    by_submission None found done = absurd (cc)
    by_submission (Some s) found done =
        let same : digest_of s.text ≡ digest = cc in
        record { submission = s; submitted = found; of_its_text = sym same }

pub issued_state : (state : State) → is_issued (Some state) ≡ true → state ≡ Issued
issued_state Open is = absurd (cc)
issued_state Closed is = absurd (cc)
issued_state Issued is = refl
issued_state Replaced is = absurd (cc)
issued_state Withdrawn is = absurd (cc)

pub fetched_text : (h : History) (r : Request) (p : ProfileName) (n : ℕ) (digest text : List ℕ) (e : Option Event)
    → r.ask ≡ ask.SeeProfile Fetch p → verdict h r ≡ accepted (reply.Fetched digest text n) e → IsFetched h p n digest text
fetched_text h r p n digest text e asks is = by_issue (last_issue h p) (carried_out h r (ask.SeeProfile Fetch p) (reply.Fetched digest text n) e asks is).done
  where
    tells : RevisionRow → Verdict
    tells r = accepted (reply.Fetched r.digest r.body r.number) None

    of_issued : (k : ℕ) (s : Submission) → submission_of h p k ≡ Some s → is_issued (Some (state_of h p k)) ≡ true
        → accepted (reply.Fetched (digest_of s.text) s.text k) None ≡ accepted (reply.Fetched digest text n) e → IsFetched h p n digest text
    of_issued k s found issued done =
        let same_text : s.text ≡ text = cc in
        let same_digest : digest_of s.text ≡ digest = cc in
        let same_number : k ≡ n = cc in
        subst (λ x. IsFetched h p x digest text) same_number (record {
          was_submitted = record {
            author = s.author;
            submitted = found ∙ (λ i. Some (record { author = s.author; text = same_text i }));
            is_digest = sym same_digest ∙ ap digest_of same_text;
          };
          was_issued = (issued_by (list_any (withdraws p k) h) (list_any (issues p k) h) (is_replaced h p k) (nat_lt k (revision_count h p)) issued).0;
          is_issued = issued_state (state_of h p k) issued;
        })

    by_submission : (k : ℕ) (s : Option Submission) → submission_of h p k ≡ s → of_revision (if_issued (option_map (row_of h p k) s)) tells ≡ accepted (reply.Fetched digest text n) e → IsFetched h p n digest text
    by_submission k None found done = absurd (cc)
    by_submission k (Some s) found done =
        elim (is_issued (Some (state_of h p k))) as (λ b. is_issued (Some (state_of h p k)) ≡ b → of_revision (cond b (Some (row_of h p k s)) None) tells ≡ accepted (reply.Fetched digest text n) e → IsFetched h p n digest text) [
          | true ↦ λ issued done. of_issued k s found issued done
          | false ↦ λ issued done. absurd (cc)
        ] refl done

    by_issue : (o : Option ℕ) → of_revision (if_issued (option_and_then (revision_of h p) o)) tells ≡ accepted (reply.Fetched digest text n) e → IsFetched h p n digest text
    by_issue None done = absurd (cc)
    by_issue (Some k) done = by_submission k (submission_of h p k) refl done

-- what is told of the issued revision is what a fetch comes to, without the text
pub told_as_fetched : (h : History) (token : List ℕ) (p : ProfileName) → verdict h (record { token = token; ask = ask.SeeProfile views.Issued p }) ≡ without_text (verdict h (record { token = token; ask = ask.SeeProfile Fetch p }))
told_as_fetched h token p = decided (first_denial (rules_of h caller (ask.SeeProfile Fetch p)))
  where
    caller : Option UserRow
    caller = user_showing h (digest_of token)

    issued_told : (r : Option RevisionRow) → of_revision r (λ r. accepted (reply.IssuedNow r.digest r.number) None) ≡ without_text (of_revision r (λ r. accepted (reply.Fetched r.digest r.body r.number) None))
    issued_told None = refl
    issued_told (Some r) = refl

    decided : (d : Result ⊤ Denial) → judged h caller (ask.SeeProfile views.Issued p) d ≡ without_text (judged h caller (ask.SeeProfile Fetch p) d)
    decided (Ok u) = issued_told (issued_revision h p)
    decided (Err d) = refl

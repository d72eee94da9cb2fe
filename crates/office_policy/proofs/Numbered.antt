-- The revisions that allowed requests name have numbers from 1 to 9,999.
use Rattle.std.proofs.Common.{◌≡◌, ◌≤◌, ℕ, suc, [], ◌∷◌, true, false, cond, Some, None, Option, Ok, Err, refl, sym, subst, arith}
use Rattle.std.specs.Prelude.{Result, is_none, is_some, nat_le, option_map}
use Rattle.std.proofs.lemmas.Bool.{leb-false}
use Rattle.office_words.specs.declared.name.ProfileName.{ProfileName}
use Rattle.review_policy.specs.declared.ask.Ask.{Ask}
use Rattle.review_policy.specs.declared.ask.Ask.TheVariants as ask
use Rattle.review_policy.specs.declared.ask.Request.{Request}
use Rattle.review_policy.specs.declared.answer.Reply.{Reply}
use Rattle.review_policy.specs.declared.answer.Reply.TheVariants as reply
use Rattle.office_words.specs.Limits.{max_revisions}
use Rattle.review_policy.specs.Rules.{vote_rules, first_denial, behind_caller}
use Rattle.profile_text.specs.Digest.{digest_of}
use Rattle.profile_text.specs.Reading.{reading_of}
use Rattle.profile_text.specs.declared.profile.Profile.{Profile}
use Rattle.profile_text.specs.declared.fault.DocFault.{DocFault}
use Rattle.office_words.specs.declared.row.UserRow.{UserRow}
use Rattle.office_words.specs.declared.row.RevisionRow.{RevisionRow}
use Rattle.office_words.specs.Tables.{is_profile}
use Rattle.office_policy.specs.History.{Event, founded, submitted, on_revision, History}
use Rattle.office_policy.specs.Users.{user_showing, name_of}
use Rattle.office_policy.specs.Revisions.{Submission, revision_of, revision_count, submission_of, issued_revision, is_author, state_in}
use Rattle.office_policy.specs.Facts.{vote_facts}
use Rattle.office_policy.specs.Verdict.{Verdict, accepted, denied, new_revision, given_of, seen_of, verdict_of, verdict, judged, rules_of, done_of}
use Rattle.office_policy.specs.Formed.{IsNumber, HasNumber}
use Rattle.office_policy.specs.Lawful.{IsLawfulHistory}
use Rattle.office_policy.proofs.RuleFacts.{none_refuses}
use Rattle.office_policy.proofs.RevisionFacts.{count_more}
use Rattle.office_policy.proofs.StateFacts.{same_profile}
use Rattle.office_policy.proofs.LawFacts.{Follows, allowed_follows, done_to_by, of_revision_by, of_user_by, revision_there}
use Rattle.office_policy.proofs.Histories.{numbers}

-- a submission is allowed below the greatest number
count_after : (h : History) (e : Event) → Follows h e → (p : ProfileName) → revision_count h p ≤ max_revisions → revision_count (e ∷ h) p ≤ max_revisions
count_after h (founded n t d l) is p most = absurd is
count_after h (submitted c q t) is p most =
    subst (λ k. k ≤ max_revisions) (sym (count_more p (submitted c q t) h))
    (elim (is_profile p q) as (λ b. is_profile p q ≡ b → cond b (suc (revision_count h p)) (revision_count h p) ≤ max_revisions) [
      | true ↦ λ same. below (revision_count h p) (subst (λ x. nat_le max_revisions (revision_count h x) ≡ false) (sym (same_profile p q same)) is.room)
      | false ↦ λ same. most
    ] refl)
  where
    below : (k : ℕ) → nat_le max_revisions k ≡ false → suc k ≤ max_revisions
    below k room = omega (arith, leb-false max_revisions k room)
count_after h _ is p most = most

-- no profile of a lawful history has more revisions than there are numbers
pub count_limited : (h : History) → IsLawfulHistory h → (p : ProfileName) → revision_count h p ≤ max_revisions
count_limited [] lawful p = absurd lawful
count_limited (founded n t d l ∷ []) lawful p = omega arith
count_limited (_ ∷ []) lawful p = absurd lawful
count_limited (e ∷ f ∷ h) lawful p = count_after (f ∷ h) e (allowed_follows (f ∷ h) e lawful.0) p (count_limited (f ∷ h) lawful.1 p)

some_row : (s : Option Submission) (row : Submission → RevisionRow) → is_none (state_in (option_map row s)) ≡ false → is_some s ≡ true
some_row None row there = absurd (cc)
some_row (Some s) row there = refl

-- a revision that is there has a number of its form
pub number_there : (h : History) → IsLawfulHistory h → (p : ProfileName) (n : ℕ) → is_none (state_in (revision_of h p n)) ≡ false → IsNumber n
number_there h lawful p n there =
    let within = (numbers h p n).0 (some_row (submission_of h p n) _ there) in
    let limit = count_limited h lawful p in
    (omega (arith, within.0), omega (arith, within.1, limit))

-- what is asked for has its number, where the verdict is an event
abbrev NumberedIn : Ask → Verdict → Type 0
NumberedIn a (accepted r None) = Unit {0}
NumberedIn a (accepted r (Some e)) = HasNumber a
NumberedIn a (denied d f) = Unit {0}

new_numbered : (h : History) (caller : Option UserRow) (p : ProfileName) (a : Ask) (reading : Result Profile DocFault) → HasNumber a → NumberedIn a (new_revision h caller p reading)
new_numbered h caller p a (Ok profile) any = any
new_numbered h caller p a (Err f) any = tt

done_numbered : (h : History) → IsLawfulHistory h → (caller : Option UserRow) (a : Ask) → first_denial (rules_of h caller a) ≡ Ok tt → NumberedIn a (done_of h caller a)
done_numbered h lawful caller (ask.Enrol user team roles digest) e = tt
done_numbered h lawful caller (ask.Submit p document) e = new_numbered h caller p (ask.Submit p document) (reading_of document.items) tt
done_numbered h lawful caller (ask.Vote p n digest approve) e =
    number_there h lawful p n (none_refuses 1 (behind_caller (is_none caller) (vote_rules (vote_facts caller (revision_of h p n) (is_author h p (name_of caller)) digest))) e).1.1.0
done_numbered h lawful caller (ask.ActOnRevision act p n) e =
    let number = number_there h lawful p n (revision_there h caller act p n e) in
    done_to_by (NumberedIn (ask.ActOnRevision act p n)) (revision_of h p n) act (on_revision (name_of caller) act p n) tt (λ told. number)
done_numbered h lawful caller (ask.SeeRevision view p n) e = of_revision_by (NumberedIn (ask.SeeRevision view p n)) (revision_of h p n) (λ r. accepted (seen_of h p view r) None) tt (λ r. tt)
done_numbered h lawful caller (ask.List team) e = tt
done_numbered h lawful caller (ask.ActOnProfile act p) e = tt
done_numbered h lawful caller (ask.SeeProfile view p) e = of_revision_by (NumberedIn (ask.SeeProfile view p)) (issued_revision h p) (λ r. accepted (given_of view r) None) tt (λ r. tt)
done_numbered h lawful caller ask.Me e = of_user_by (NumberedIn ask.Me) caller (λ u. accepted (reply.Me u.name u.team u.roles) None) tt (λ u. tt)
done_numbered h lawful caller (ask.Revisions p before) e = tt

verdict_numbered : (h : History) → IsLawfulHistory h → (caller : Option UserRow) (a : Ask) → NumberedIn a (verdict_of h caller a)
verdict_numbered h lawful caller a =
    elim (first_denial (rules_of h caller a)) as (λ r. first_denial (rules_of h caller a) ≡ r → NumberedIn a (judged h caller a r)) [
      | Ok u ↦ λ e. done_numbered h lawful caller a e
      | Err d ↦ λ e. tt
    ] refl

-- a request that is an event asks for a number of its form
pub numbered : (h : History) → IsLawfulHistory h → (r : Request) (reply : Reply) (e : Event) → verdict h r ≡ accepted reply (Some e) → HasNumber r.ask
numbered h lawful r reply e is = subst (NumberedIn r.ask) is (verdict_numbered h lawful (user_showing h (digest_of r.token)) r.ask)

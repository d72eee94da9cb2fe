-- Each request is refused by a rule, or carried out.
use Rattle.std.proofs.Common.{◌≡◌, ◌≢◌, ◌≤◌, ℕ, suc, List, [], ◌∷◌, Bool, true, false, Some, None, Option, Ok, Err, refl, ap, arith}
use Rattle.std.specs.Prelude.{Result, is_none, is_err}
use Rattle.review_policy.specs.declared.act.RevisionAct.TheVariants.{Issue}
use Rattle.office_words.specs.declared.name.ProfileName.{ProfileName}
use Rattle.review_policy.specs.declared.ask.Ask.{Ask}
use Rattle.review_policy.specs.declared.ask.Ask.TheVariants as ask
use Rattle.review_policy.specs.declared.ask.Request.{Request}
use Rattle.review_policy.specs.declared.answer.Reply.TheVariants as reply
use Rattle.review_policy.specs.declared.denial.Denial.{Denial}
use Rattle.review_policy.specs.declared.denial.Rule.{Rule}
use Rattle.review_policy.specs.declared.denial.Rule.TheVariants.{NoRevision}
use Rattle.review_policy.specs.Rules.{submit_rules, read_rules, fetch_rules, first_from, first_denial, behind_caller}
use Rattle.profile_text.specs.declared.profile.Profile.{Profile}
use Rattle.profile_text.specs.declared.fault.DocFault.{DocFault}
use Rattle.profile_text.specs.Reading.{reading_of}
use Rattle.profile_text.specs.Digest.{digest_of}
use Rattle.office_words.specs.declared.row.UserRow.{UserRow}
use Rattle.office_words.specs.declared.row.RevisionRow.{RevisionRow}
use Rattle.office_policy.specs.History.{on_revision, History}
use Rattle.office_policy.specs.Users.{user_showing, name_of}
use Rattle.office_policy.specs.Revisions.{revision_of, revision_count, last_revision, issued_revision, state_in}
use Rattle.office_policy.specs.Holds.{is_held}
use Rattle.office_policy.specs.Facts.{submit_facts, read_facts, fetch_facts}
use Rattle.office_policy.specs.Verdict.{Verdict, accepted, denied, unreached, of_revision, of_user, new_revision, given_of, seen_of, verdict_of, judged, rules_of, done_of, fault_beside}
use Rattle.office_policy.specs.Laws.{IsDecided}
use Rattle.office_policy.proofs.RuleFacts.{none_refuses}
use Rattle.office_policy.proofs.LawFacts.{revision_there}

-- a refusal has a number from that of the first rule on
numbered : (n : ℕ) (rules : List (Rule × Bool)) (d : Denial) → first_from n rules ≡ Err d → n ≤ d.number
numbered n [] d e = absurd (cc)
numbered n ((rule, false) ∷ rules) d e = let more = numbered (suc n) rules d e in omega arith
numbered n ((rule, true) ∷ rules) d e =
    let same : ◌≡◌ {A = Denial} (record { number = n; rule = rule }) d = cc in
    let here : n ≡ d.number = ap (λ x. x.number) same in
    omega arith

-- so it isn't what stands for none
refused_told : (d : Denial) (fault : Option (List ℕ)) → 1 ≤ d.number → denied d fault ≢ unreached
refused_told d fault above e =
    let same : d ≡ record { number = 0; rule = NoRevision } = cc in
    let here : d.number ≡ 0 = ap (λ x. x.number) same in
    absurd (omega arith)

-- a document that reads becomes a revision
read_done : (h : History) (caller : Option UserRow) (p : ProfileName) (reading : Result Profile DocFault) → is_err reading ≡ false → new_revision h caller p reading ≢ unreached
read_done h caller p (Ok profile) read e = cc
read_done h caller p (Err f) read e = cc

-- what is done with a revision that is there
there_done : (r : Option RevisionRow) (done : RevisionRow → Verdict) → is_none r ≡ false → ((row : RevisionRow) → done row ≢ unreached) → of_revision r done ≢ unreached
there_done None done there each e = cc
there_done (Some row) done there each e = each row e

-- what is done with a user who is there
known_done : (u : Option UserRow) (done : UserRow → Verdict) → is_none u ≡ false → ((user : UserRow) → done user ≢ unreached) → of_user u done ≢ unreached
known_done None done there each e = cc
known_done (Some user) done there each e = each user e

with_state : (r : Option RevisionRow) → is_none (state_in r) ≡ false → is_none r ≡ false
with_state None there = there
with_state (Some row) there = refl

-- what is done where no rule refuses
allowed_done : (h : History) (caller : Option UserRow) (a : Ask) → first_denial (rules_of h caller a) ≡ Ok tt → done_of h caller a ≢ unreached
allowed_done h caller (ask.Enrol user team roles digest) none e = cc
allowed_done h caller (ask.Submit p document) none e =
    read_done h caller p (reading_of document.items) (none_refuses 1 (behind_caller (is_none caller) (submit_rules (submit_facts caller p.team (reading_of document.items) (last_revision h p) (revision_count h p)))) none).1.1.1.0 e
allowed_done h caller (ask.Vote p n digest approve) none e = cc
allowed_done h caller (ask.ActOnRevision Issue p n) none e =
    there_done (revision_of h p n) (λ r. accepted (reply.Issued r.digest) (Some (on_revision (name_of caller) Issue p n)))
    (with_state (revision_of h p n) (revision_there h caller Issue p n none)) (λ row same. cc) e
allowed_done h caller (ask.ActOnRevision _ p n) none e = cc
allowed_done h caller (ask.SeeRevision view p n) none e =
    there_done (revision_of h p n) (λ r. accepted (seen_of h p view r) None)
    (none_refuses 1 (behind_caller (is_none caller) (read_rules (read_facts caller p.team (is_none (revision_of h p n))))) none).1.1.1.0 (λ row same. cc) e
allowed_done h caller (ask.List team) none e = cc
allowed_done h caller (ask.ActOnProfile act p) none e = cc
allowed_done h caller (ask.SeeProfile view p) none e =
    there_done (issued_revision h p) (λ r. accepted (given_of view r) None)
    (none_refuses 1 (behind_caller (is_none caller) (fetch_rules (fetch_facts caller p.team (issued_revision h p) (is_held h p)))) none).1.1.1.0 (λ row same. cc) e
allowed_done h caller ask.Me none e =
    known_done caller (λ u. accepted (reply.Me u.name u.team u.roles) None) (none_refuses 1 (behind_caller (is_none caller) []) none).0 (λ user same. cc) e
allowed_done h caller (ask.Revisions p before) none e = cc

-- the verdict on what is asked
verdict_told : (h : History) (caller : Option UserRow) (a : Ask) → verdict_of h caller a ≢ unreached
verdict_told h caller a =
    elim (first_denial (rules_of h caller a)) as (λ r. first_denial (rules_of h caller a) ≡ r → judged h caller a r ≢ unreached) [
      | Ok u ↦ λ none. allowed_done h caller a none
      | Err d ↦ λ first. refused_told d (fault_beside h a d.rule) (numbered 1 (rules_of h caller a) d first)
    ] refl

pub all_judged : (h : History) (request : Request) → IsDecided h request
all_judged h request = verdict_told h (user_showing h (digest_of request.token)) request.ask

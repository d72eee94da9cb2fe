-- What a lawful history says of its events.
use Rattle.std.proofs.Common.{◌≡◌, ◌∙◌, ◌&&◌, ◌==◌, ℕ, List, [], ◌∷◌, Bool, true, false, not, cond, Some, None, Option, Ok, Err, refl, sym, ap, subst}
use Rattle.std.specs.Prelude.{Result, is_none, nat_lt, nat_le, bytes_eq}
use Rattle.review_policy.specs.declared.act.Effect.{Effect}
use Rattle.review_policy.specs.declared.act.Effect.TheVariants.{Issues, Withdraws, Adopts}
use Rattle.review_policy.specs.declared.act.RevisionAct.{RevisionAct}
use Rattle.review_policy.specs.declared.act.RevisionAct.TheVariants.{Issue, Withdraw, Adopt}
use Rattle.office_words.specs.declared.name.ProfileName.{ProfileName}
use Rattle.review_policy.specs.declared.ask.Ask.{Ask}
use Rattle.review_policy.specs.declared.ask.Ask.TheVariants as ask
use Rattle.review_policy.specs.declared.ask.Request.{Request}
use Rattle.review_policy.specs.declared.answer.Reply.{Reply}
use Rattle.review_policy.specs.declared.answer.Reply.TheVariants as reply
use Rattle.office_words.specs.declared.revision.State.{State}
use Rattle.office_words.specs.declared.role.Role.{Role}
use Rattle.office_words.specs.declared.role.Role.TheVariants.{Author, Reviewer, Security, Issuer}
use Rattle.review_policy.specs.Acts.{effect_of}
use Rattle.office_words.specs.Limits.{max_revisions}
use Rattle.review_policy.specs.Rules.{approvals_of, asks_security, is_open, is_issued, is_standing, enrol_rules, submit_rules, vote_rules, issue_rules, withdraw_rules, adopt_rules, first_denial, behind_caller}
use Rattle.profile_text.specs.declared.profile.Profile.{Profile}
use Rattle.profile_text.specs.declared.fault.DocFault.{DocFault}
use Rattle.profile_text.specs.Reading.{reading_of}
use Rattle.profile_text.specs.Digest.{digest_of}
use Rattle.profile_text.specs.Text.{text_of}
use Rattle.profile_text.proofs.ReadBack.{read_again}
use Rattle.office_words.specs.declared.row.UserRow.{UserRow}
use Rattle.office_words.specs.declared.row.RevisionRow.{RevisionRow}
use Rattle.office_words.specs.Lists.{holds_role}
use Rattle.office_policy.specs.History.{Event, founded, enrolled, submitted, voted, issued, withdrawn, adopted, on_revision, on_profile, History}
use Rattle.office_policy.specs.Users.{user_of, user_showing, registrar_alone, name_of}
use Rattle.office_policy.specs.Revisions.{revision_of, revision_count, last_revision, issued_revision, is_author, if_open, state_in}
use Rattle.office_policy.specs.Votes.{tally_at}
use Rattle.office_policy.specs.Holds.{is_held}
use Rattle.office_policy.specs.Need.{need_at}
use Rattle.office_policy.specs.Facts.{is_elsewhere, is_another, canonical, is_text_of, has_digest, enrol_facts, submit_facts, vote_facts, issue_facts, withdraw_facts, adopt_facts}
use Rattle.office_policy.specs.Verdict.{Verdict, accepted, denied, unreached, of_revision, of_user, new_revision, done_to, given_of, seen_of, verdict_of, verdict, judged, rules_of, done_of}
use Rattle.office_policy.specs.Lawful.{IsLawfulHistory, IsAllowed, IsRequested}
use Rattle.office_policy.specs.Laws.{AreApart}
use Rattle.office_policy.proofs.RuleFacts.{none_refuses}
use Rattle.office_policy.proofs.UserFacts.{same_bytes, user_named, showing_one, showing_is}

-- an allowed enrolment keeps the team of a user, and takes no other user's digest
pub record EnrolAllowed (h : History) (name team digest : List ℕ) : Type 0 where
  pub same_team : is_elsewhere (user_of h name) team ≡ false
  pub free_token : is_another (user_showing h digest) name ≡ false

-- an allowed submission is by an author, isn't of the open text again, has a number left, and carries the canonical text of what was read
pub record SubmitAllowed (h : History) (caller : List ℕ) (p : ProfileName) (text : List ℕ) : Type 0 where
  pub author : holds_role (user_of h caller) Author ≡ true
  pub fresh : is_text_of (Some text) (if_open (last_revision h p)) ≡ false
  pub room : nat_le max_revisions (revision_count h p) ≡ false
  pub profile : Profile
  pub reads : reading_of text ≡ Ok profile
  pub canonical : text ≡ text_of profile

-- an allowed vote is by a reviewer who is no author, on the open revision, and names its digest
pub record VoteAllowed (h : History) (caller : List ℕ) (p : ProfileName) (n : ℕ) (digest : List ℕ) : Type 0 where
  pub reviewer : holds_role (user_of h caller) Reviewer ≡ true
  pub no_author : is_author h p caller ≡ false
  pub still_open : is_open (state_in (revision_of h p n)) ≡ true
  pub named : has_digest (revision_of h p n) digest ≡ true

-- an allowed issue is by an issuer who is no author, of the open revision, with the votes that it needs, and not while it is held
pub record IssueAllowed (h : History) (caller : List ℕ) (p : ProfileName) (n : ℕ) : Type 0 where
  pub issuer : holds_role (user_of h caller) Issuer ≡ true
  pub there : is_none (state_in (revision_of h p n)) ≡ false
  pub no_author : is_author h p caller ≡ false
  pub still_open : is_open (state_in (revision_of h p n)) ≡ true
  pub none_rejects : nat_lt 0 (tally_at h p n).rejections ≡ false
  pub enough : nat_lt (tally_at h p n).approvals (approvals_of (need_at h p n)) ≡ false
  pub secured : (asks_security (need_at h p n) && ((tally_at h p n).secure == 0)) ≡ false
  pub free : is_held h p ≡ false

-- an allowed withdrawal is of a revision that is open or issued
pub record WithdrawAllowed (h : History) (p : ProfileName) (n : ℕ) : Type 0 where
  pub there : is_none (state_in (revision_of h p n)) ≡ false
  pub standing : is_standing (state_in (revision_of h p n)) ≡ true

-- an allowed adoption is by security that is no author, of an issued revision
pub record AdoptAllowed (h : History) (caller : List ℕ) (p : ProfileName) (n : ℕ) : Type 0 where
  pub security : holds_role (user_of h caller) Security ≡ true
  pub there : is_none (state_in (revision_of h p n)) ≡ false
  pub no_author : is_author h p caller ≡ false
  pub issued : is_issued (state_in (revision_of h p n)) ≡ true

-- what the policy's leave says of an event
abbrev pub Follows : History → Event → Type 0
Follows h (founded n t d l) = ⊥
Follows h (enrolled c n t r d) = EnrolAllowed h n t d
Follows h (submitted c p t) = SubmitAllowed h c p t
Follows h (voted c p n d a) = VoteAllowed h c p n d
Follows h (issued c p n) = IssueAllowed h c p n
Follows h (withdrawn c p n) = WithdrawAllowed h p n
Follows h (adopted c p n) = AdoptAllowed h c p n
Follows h (on_profile c act p) = Unit {0}

-- the state in which an issue and a withdrawal find their revision
abbrev pub IsFoundBy : Effect → Option State → Type 0
IsFoundBy Issues state = is_open state ≡ true
IsFoundBy Withdraws state = is_standing state ≡ true
IsFoundBy Adopts state = Unit {0}

-- an allowed act on a revision is on one that is there, in such a state
pub record ActAllowed (h : History) (effect : Effect) (p : ProfileName) (n : ℕ) : Type 0 where
  pub there : is_none (state_in (revision_of h p n)) ≡ false
  pub found : IsFoundBy effect (state_in (revision_of h p n))

-- whichever act it is
pub act_follows : (h : History) (c : List ℕ) (act : RevisionAct) (p : ProfileName) (n : ℕ) → Follows h (on_revision c act p n) → ActAllowed h (effect_of act) p n
act_follows h c Issue p n is = record { there = is.there; found = is.still_open }
act_follows h c Withdraw p n is = record { there = is.there; found = is.standing }
act_follows h c Adopt p n is = record { there = is.there; found = tt }

abbrev pub FollowsIn : History → Verdict → Type 0
FollowsIn h (accepted r None) = Unit {0}
FollowsIn h (accepted r (Some e)) = Follows h e
FollowsIn h (denied d f) = Unit {0}

pub not_false : (b : Bool) → not b ≡ false → b ≡ true
not_false true e = refl
not_false false e = sym e

-- what holds of each revision, and of none
pub of_revision_by : (P : Verdict → Type 0) (r : Option RevisionRow) (done : RevisionRow → Verdict) → P unreached → ((row : RevisionRow) → P (done row)) → P (of_revision r done)
of_revision_by P None done none each = none
of_revision_by P (Some row) done none each = each row

-- what holds of each user, and of none
pub of_user_by : (P : Verdict → Type 0) (u : Option UserRow) (done : UserRow → Verdict) → P unreached → ((user : UserRow) → P (done user)) → P (of_user u done)
of_user_by P None done none each = none
of_user_by P (Some user) done none each = each user

-- what holds of whatever an issue, a withdrawal or an adoption is told as, and of none
pub done_to_by : (P : Verdict → Type 0) (r : Option RevisionRow) (act : RevisionAct) (e : Event) → P unreached → ((told : Reply) → P (accepted told (Some e))) → P (done_to r act e)
done_to_by P r Issue e none each = of_revision_by P r (λ row. accepted (reply.Issued row.digest) (Some e)) none (λ row. each (reply.Issued row.digest))
done_to_by P r _ e none each = each reply.Nothing

-- the revision is there to which something is done
pub revision_there : (h : History) (caller : Option UserRow) (act : RevisionAct) (p : ProfileName) (n : ℕ)
    → first_denial (rules_of h caller (ask.ActOnRevision act p n)) ≡ Ok tt → is_none (state_in (revision_of h p n)) ≡ false
revision_there h caller Issue p n e =
    (none_refuses 1 (behind_caller (is_none caller) (issue_rules (issue_facts caller (revision_of h p n) (is_author h p (name_of caller)) (tally_at h p n) (need_at h p n) (is_held h p)))) e).1.1.0
revision_there h caller Withdraw p n e = (none_refuses 1 (behind_caller (is_none caller) (withdraw_rules (withdraw_facts caller p.team (revision_of h p n)))) e).1.1.1.0
revision_there h caller Adopt p n e = (none_refuses 1 (behind_caller (is_none caller) (adopt_rules (adopt_facts caller (revision_of h p n) (is_author h p (name_of caller))))) e).1.1.0

-- the caller is the user of that name
known_caller : (h : History) (digest : List ℕ) → is_none (user_showing h digest) ≡ false → user_of h (name_of (user_showing h digest)) ≡ user_showing h digest
known_caller h digest known = by_user (user_showing h digest) refl known
  where
    by_user : (u : Option UserRow) → user_showing h digest ≡ u → is_none u ≡ false → user_of h (name_of u) ≡ u
    by_user None is known = absurd (cc)
    by_user (Some u) is known = (showing_is h digest u is).0

module _ (h : History) (caller : Option UserRow) (named : is_none caller ≡ false → user_of h (name_of caller) ≡ caller) where
  -- the role that the rules ask for is held under the caller's name
  role_held : (role : Role) → is_none caller ≡ false → not (holds_role caller role) ≡ false → holds_role (user_of h (name_of caller)) role ≡ true
  role_held role known has = subst (λ u. holds_role u role ≡ true) (sym (named known)) (not_false (holds_role caller role) has)

  submission_follows : (p : ProfileName) (bytes : List ℕ) (reading : Result Profile DocFault) → reading_of bytes ≡ reading → holds_role (user_of h (name_of caller)) Author ≡ true
      → is_text_of (canonical reading) (if_open (last_revision h p)) ≡ false → nat_le max_revisions (revision_count h p) ≡ false → FollowsIn h (new_revision h caller p reading)
  submission_follows p bytes (Ok profile) read author fresh room =
      record { author = author; fresh = fresh; room = room; profile = profile; reads = read_again bytes profile read; canonical = refl }
  submission_follows p bytes (Err f) read author fresh room = tt

  -- what is done where no rule refuses follows
  done_follows : (a : Ask) → first_denial (rules_of h caller a) ≡ Ok tt → FollowsIn h (done_of h caller a)
  done_follows (ask.Enrol user team roles digest) e =
      let none = none_refuses 1 (behind_caller (is_none caller) (enrol_rules (enrol_facts caller (user_of h user) (user_showing h digest) user team))) e in
      record { same_team = none.1.1.1.0; free_token = none.1.1.1.1.0 }
  done_follows (ask.Submit p document) e =
      let none = none_refuses 1 (behind_caller (is_none caller) (submit_rules (submit_facts caller p.team (reading_of document.items) (last_revision h p) (revision_count h p)))) e in
      submission_follows p document.items (reading_of document.items) refl (role_held Author none.0 none.1.0) none.1.1.1.1.0 none.1.1.1.1.1.0
  done_follows (ask.Vote p n digest approve) e =
      let none = none_refuses 1 (behind_caller (is_none caller) (vote_rules (vote_facts caller (revision_of h p n) (is_author h p (name_of caller)) digest))) e in
      record {
        reviewer = role_held Reviewer none.0 none.1.0;
        no_author = none.1.1.1.0;
        still_open = not_false (is_open (state_in (revision_of h p n))) none.1.1.1.1.0;
        named = not_false (has_digest (revision_of h p n) digest) none.1.1.1.1.1.0;
      }
  done_follows (ask.ActOnRevision Issue p n) e =
      let none = none_refuses 1 (behind_caller (is_none caller) (issue_rules (issue_facts caller (revision_of h p n) (is_author h p (name_of caller)) (tally_at h p n) (need_at h p n) (is_held h p)))) e in
      of_revision_by (FollowsIn h) (revision_of h p n) (λ r. accepted (reply.Issued r.digest) (Some (issued (name_of caller) p n))) tt (λ r. record {
        issuer = role_held Issuer none.0 none.1.0;
        there = none.1.1.0;
        no_author = none.1.1.1.0;
        still_open = not_false (is_open (state_in (revision_of h p n))) none.1.1.1.1.0;
        none_rejects = none.1.1.1.1.1.0;
        enough = none.1.1.1.1.1.1.0;
        secured = none.1.1.1.1.1.1.1.0;
        free = none.1.1.1.1.1.1.1.1.0;
      })
  done_follows (ask.ActOnRevision Withdraw p n) e =
      let none = none_refuses 1 (behind_caller (is_none caller) (withdraw_rules (withdraw_facts caller p.team (revision_of h p n)))) e in
      record { there = none.1.1.1.0; standing = not_false (is_standing (state_in (revision_of h p n))) none.1.1.1.1.0 }
  done_follows (ask.ActOnRevision Adopt p n) e =
      let none = none_refuses 1 (behind_caller (is_none caller) (adopt_rules (adopt_facts caller (revision_of h p n) (is_author h p (name_of caller))))) e in
      record {
        security = role_held Security none.0 none.1.0;
        there = none.1.1.0;
        no_author = none.1.1.1.0;
        issued = not_false (is_issued (state_in (revision_of h p n))) none.1.1.1.1.0;
      }
  done_follows (ask.SeeRevision view p n) e = of_revision_by (FollowsIn h) (revision_of h p n) (λ r. accepted (seen_of h p view r) None) tt (λ r. tt)
  done_follows (ask.List team) e = tt
  done_follows (ask.ActOnProfile act p) e = tt
  done_follows (ask.SeeProfile view p) e = of_revision_by (FollowsIn h) (issued_revision h p) (λ r. accepted (given_of view r) None) tt (λ r. tt)
  done_follows ask.Me e = of_user_by (FollowsIn h) caller (λ u. accepted (reply.Me u.name u.team u.roles) None) tt (λ u. tt)
  done_follows (ask.Revisions p before) e = tt

  -- the event of every verdict is one that the policy's leave speaks of
  verdict_of_follows : (a : Ask) → FollowsIn h (verdict_of h caller a)
  verdict_of_follows a =
      elim (first_denial (rules_of h caller a)) as (λ r. first_denial (rules_of h caller a) ≡ r → FollowsIn h (judged h caller a r)) [
        | Ok u ↦ λ e. done_follows a e
        | Err d ↦ λ e. tt
      ] refl

-- what the event of a verdict follows
pub event_follows : (h : History) (r : Request) (reply : Reply) (e : Event) → verdict h r ≡ accepted reply (Some e) → Follows h e
event_follows h r reply e is =
    let token = digest_of r.token in
    subst (FollowsIn h) is (verdict_of_follows h (user_showing h token) (known_caller h token) r.ask)

-- what an allowed event follows
pub allowed_follows : (h : History) (e : Event) → IsAllowed h e → Follows h e
allowed_follows h e is = subst (FollowsIn h) is.allowed (verdict_of_follows h (Some is.caller) (λ there. is.enrolled) is.ask)

abbrev IsDenied : Verdict → Type 0
IsDenied (accepted r e) = ⊥
IsDenied (denied d f) = Unit {0}

-- who is no user is denied whatever is asked
stranger_denied : (h : History) (a : Ask) → IsDenied (verdict_of h None a)
stranger_denied h a = tt

-- the event of an accepted request is allowed, to the user that shows its token
pub requested_allowed : (h : History) (e : Event) → IsRequested h e → IsAllowed h e
requested_allowed h e is = by_caller (user_showing h token) refl is.allowed
  where
    token : List ℕ
    token = digest_of is.request.token

    by_caller : (u : Option UserRow) → user_showing h token ≡ u → verdict_of h u is.request.ask ≡ accepted is.reply (Some e) → IsAllowed h e
    by_caller None shown allowed = absurd (subst IsDenied allowed (stranger_denied h is.request.ask))
    by_caller (Some u) shown allowed = record {
      caller = u;
      enrolled = (showing_is h token u shown).0;
      ask = is.request.ask;
      forms = is.formed.forms;
      number = is.formed.number;
      reply = is.reply;
      allowed = allowed;
    }

-- a lawful history goes on lawfully by the event of an accepted request
pub lawful_more : (h : History) (e : Event) → IsLawfulHistory h → IsRequested h e → IsLawfulHistory (e ∷ h)
lawful_more [] e lawful is = absurd lawful
lawful_more (f ∷ h) e lawful is = (requested_allowed (f ∷ h) e is, lawful)

-- users stay apart where one is enrolled under a digest of no other
apart_enrolled : (h : History) → AreApart h → (c n t : List ℕ) (r : ℕ) (d : List ℕ) → EnrolAllowed h n t d → AreApart (enrolled c n t r d ∷ h)
apart_enrolled h apart c n t r d is a b u v at_a at_b same =
    elim (bytes_eq a n) as (λ x. bytes_eq a n ≡ x → cond x (Some new) (user_of h a) ≡ Some u → a ≡ b) [
      | true ↦ λ a_new at_a. elim (bytes_eq b n) as (λ y. bytes_eq b n ≡ y → cond y (Some new) (user_of h b) ≡ Some v → a ≡ b) [
        | true ↦ λ b_new at_b. same_bytes a n a_new ∙ sym (same_bytes b n b_new)
        | false ↦ λ b_old at_b. let row : new ≡ u = cc in same_bytes a n a_new ∙ sym (taken b v at_b (sym same ∙ sym (ap (λ r. r.digest) row)))
      ] refl at_b
      | false ↦ λ a_old at_a. elim (bytes_eq b n) as (λ y. bytes_eq b n ≡ y → cond y (Some new) (user_of h b) ≡ Some v → a ≡ b) [
        | true ↦ λ b_new at_b. let row : new ≡ v = cc in taken a u at_a (same ∙ sym (ap (λ r. r.digest) row)) ∙ sym (same_bytes b n b_new)
        | false ↦ λ b_old at_b. apart a b u v at_a at_b same
      ] refl at_b
    ] refl at_a
  where
    new : UserRow
    new = record { name = n; team = t; roles = r; digest = d }

    -- a user that shows the new digest has the name that is enrolled
    taken : (x : List ℕ) (w : UserRow) → user_of h x ≡ Some w → w.digest ≡ d → x ≡ n
    taken x w at shows =
        let named = user_named h x w at in
        let found : user_showing h d ≡ Some w = showing_one h apart d w (ap (user_of h) named ∙ at) shows in
        let free : not (bytes_eq w.name n) ≡ false = subst (λ user. is_another user n ≡ false) found is.free_token in
        sym named ∙ same_bytes w.name n (not_false (bytes_eq w.name n) free)

-- the first user is alone
apart_founded : (n t d : List ℕ) (l : ℕ) → AreApart (founded n t d l ∷ [])
apart_founded n t d l a b u v at_a at_b same = alone a u at_a ∙ sym (alone b v at_b)
  where
    alone : (x : List ℕ) (w : UserRow) → user_of (founded n t d l ∷ []) x ≡ Some w → x ≡ n
    alone x w at =
        elim (bytes_eq x n) as (λ y. bytes_eq x n ≡ y → cond y (Some (record { name = n; team = t; roles = registrar_alone; digest = d })) None ≡ Some w → x ≡ n) [
          | true ↦ λ is at. same_bytes x n is
          | false ↦ λ is at. absurd (cc)
        ] refl at

apart_more : (h : History) (e : Event) → Follows h e → AreApart h → AreApart (e ∷ h)
apart_more h (founded n t d l) is apart = absurd is
apart_more h (enrolled c n t r d) is apart = apart_enrolled h apart c n t r d is
apart_more h _ is apart = apart

-- no two users of a lawful history show one digest
pub lawful_apart : (h : History) → IsLawfulHistory h → AreApart h
lawful_apart [] lawful = absurd lawful
lawful_apart (founded n t d l ∷ []) lawful = apart_founded n t d l
lawful_apart (_ ∷ []) lawful = absurd lawful
lawful_apart (e ∷ f ∷ h) lawful = apart_more (f ∷ h) e (allowed_follows (f ∷ h) e lawful.0) (lawful_apart (f ∷ h) lawful.1)

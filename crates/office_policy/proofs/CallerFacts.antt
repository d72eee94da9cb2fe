-- What is accepted is for a caller who may ask it.
use Rattle.std.proofs.Common.{◌≡◌, ◌∙◌, ◌&&◌, ℕ, suc, List, [], ◌∷◌, Bool, true, false, Some, None, Option, Ok, Err, refl, sym, ap, subst, rules}
use Rattle.std.specs.Prelude.{Result, is_ok}
use Rattle.profile_text.specs.Digest.{digest_of}
use Rattle.profile_text.specs.Reading.{reading_of}
use Rattle.profile_text.specs.declared.profile.Profile.{Profile}
use Rattle.profile_text.specs.declared.fault.DocFault.{DocFault}
use Rattle.office_words.specs.declared.name.ProfileName.{ProfileName}
use Rattle.review_policy.specs.declared.ask.Ask.{Ask}
use Rattle.review_policy.specs.declared.ask.Ask.TheVariants as ask
use Rattle.review_policy.specs.declared.ask.Request.{Request}
use Rattle.review_policy.specs.declared.answer.Reply.{Reply}
use Rattle.review_policy.specs.declared.answer.Reply.TheVariants as reply
use Rattle.review_policy.specs.declared.denial.Rule.{Rule}
use Rattle.review_policy.specs.Rules.{first_from, first_denial}
use Rattle.office_words.specs.declared.row.UserRow.{UserRow}
use Rattle.office_policy.specs.History.{Event, on_revision, History}
use Rattle.office_policy.specs.Users.{user_showing, name_of}
use Rattle.office_policy.specs.Revisions.{revision_of, issued_revision}
use Rattle.office_policy.specs.Verdict.{Verdict, accepted, denied, new_revision, rules_of, done_of, given_of, seen_of, verdict}
use Rattle.office_policy.specs.Callers.{is_of_caller, of_caller, may_ask, caller_of, IsAskedBy, IsForCaller}
use Rattle.office_policy.specs.CallerTable.{decided}
use Rattle.office_policy.specs.Lawful.{IsAllowed}
use Rattle.office_policy.proofs.UserFacts.{showing_is}
use Rattle.office_policy.proofs.LawFacts.{done_to_by, of_revision_by, of_user_by}
use Rattle.office_policy.proofs.GivenOut.{IsCarriedOut, carried_out_of, carried_out}

-- where no rule refuses, none of those that ask who the caller is does
none_of_caller : (n : ℕ) (rules : List (Rule × Bool)) → first_from n rules ≡ Ok tt → first_from n (of_caller rules) ≡ Ok tt
none_of_caller n [] e = refl
none_of_caller n ((rule, true) ∷ rules) e = absurd (cc)
none_of_caller n ((rule, false) ∷ rules) e =
    elim (is_of_caller rule) as (λ b. first_from n ((rule, b && false) ∷ of_caller rules) ≡ Ok tt) [
      | true ↦ none_of_caller (suc n) rules e
      | false ↦ none_of_caller (suc n) rules e
    ]

-- whom those rules let through
pub let_through : (h : History) (user : UserRow) (a : Ask) → is_ok (decided h (Some user) a) ≡ may_ask user a
let_through h user a = search rules

true_is_false : true ≡ false → ⊥
true_is_false e = cc

-- what a verdict does is asked for by this user
abbrev IsDoneBy : List ℕ → Verdict → Type 0
IsDoneBy name (accepted reply e) = IsAskedBy name e
IsDoneBy name (denied d fault) = Unit {0}

new_by : (h : History) (caller : Option UserRow) (p : ProfileName) (reading : Result Profile DocFault) → IsDoneBy (name_of caller) (new_revision h caller p reading)
new_by h caller p (Ok profile) = refl
new_by h caller p (Err f) = tt

done_by : (h : History) (caller : Option UserRow) (a : Ask) → IsDoneBy (name_of caller) (done_of h caller a)
done_by h caller (ask.Enrol user team roles digest) = refl
done_by h caller (ask.Submit p document) = new_by h caller p (reading_of document.items)
done_by h caller (ask.Vote p n digest approve) = refl
done_by h caller (ask.ActOnRevision act p n) = done_to_by (IsDoneBy (name_of caller)) (revision_of h p n) act (on_revision (name_of caller) act p n) tt (λ told. refl)
done_by h caller (ask.SeeRevision view p n) = of_revision_by (IsDoneBy (name_of caller)) (revision_of h p n) (λ r. accepted (seen_of h p view r) None) tt (λ r. tt)
done_by h caller (ask.List team) = tt
done_by h caller (ask.ActOnProfile act p) = refl
done_by h caller (ask.SeeProfile view p) = of_revision_by (IsDoneBy (name_of caller)) (issued_revision h p) (λ r. accepted (given_of view r) None) tt (λ r. tt)
done_by h caller ask.Me = of_user_by (IsDoneBy (name_of caller)) caller (λ u. accepted (reply.Me u.name u.team u.roles) None) tt (λ u. tt)
done_by h caller (ask.Revisions p before) = tt

-- nobody who is no user is let through
stranger_out : (h : History) (a : Ask) → is_ok (decided h None a) ≡ false
stranger_out h a = search rules

-- what is carried out is let through by those rules
pub is_let_through : (h : History) (caller : Option UserRow) (a : Ask) → first_denial (rules_of h caller a) ≡ Ok tt → is_ok (decided h caller a) ≡ true
is_let_through h caller a none = ap is_ok (none_of_caller 1 (rules_of h caller a) none)

module _ (h : History) (e : Event) (is : IsAllowed h e) where
  -- what is carried out for the caller
  done : IsCarriedOut h (Some is.caller) is.ask is.reply (Some e)
  done = carried_out_of h (Some is.caller) is.ask is.reply (Some e) is.allowed

  -- an allowed event has the name of the caller, who may ask it
  pub allowed_by : caller_of e ≡ Some is.caller.name
  allowed_by = subst (IsDoneBy is.caller.name) done.done (done_by h (Some is.caller) is.ask)

  pub allowed_may : may_ask is.caller is.ask ≡ true
  allowed_may = sym (let_through h is.caller is.ask) ∙ is_let_through h (Some is.caller) is.ask done.none_refuses

pub for_caller : (h : History) (r : Request) (reply : Reply) (e : Option Event) → verdict h r ≡ accepted reply e → IsForCaller h r e
for_caller h r reply e is = by_user (user_showing h (digest_of r.token)) refl (carried_out h r r.ask reply e refl is)
  where
    by_user : (u : Option UserRow) → user_showing h (digest_of r.token) ≡ u → IsCarriedOut h u r.ask reply e → IsForCaller h r e
    by_user None shown done = absurd (true_is_false (sym (is_let_through h None r.ask done.none_refuses) ∙ stranger_out h r.ask))
    by_user (Some u) shown done = record {
      caller = u;
      enrolled = (showing_is h (digest_of r.token) u shown).0;
      shows = (showing_is h (digest_of r.token) u shown).1;
      may = sym (let_through h u r.ask) ∙ is_let_through h (Some u) r.ask done.none_refuses;
      asked = subst (IsDoneBy u.name) done.done (done_by h (Some u) r.ask);
    }

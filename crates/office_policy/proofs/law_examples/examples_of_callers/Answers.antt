use Rattle.std.proofs.Common.{◌≡◌, ◌∙◌, ℕ, List, [], ◌∷◌, true, false, Some, length, refl, sym, ap, subst, arith}
use Rattle.sha2.proofs.Facts256.{length-sha256}
use Rattle.profile_text.specs.Digest.{digest_of}
use Rattle.review_policy.specs.declared.act.ProfileAct.TheVariants.{Hold}
use Rattle.review_policy.specs.declared.ask.Ask.TheVariants as ask
use Rattle.review_policy.specs.declared.ask.Request.{Request}
use Rattle.office_words.specs.declared.row.UserRow.{UserRow}
use Rattle.office_policy.specs.Callers.{IsForCaller, caller_of, may_ask}
use Rattle.office_policy.specs.Examples.{desk, blue, ann, sue, web, office}
use Rattle.office_policy.specs.History.{Event, History, on_profile}
use Rattle.office_policy.specs.LawExamples.{sue_shows, asks_hold}
use Rattle.office_policy.specs.Users.{user_of}
use Rattle.office_policy.proofs.law_examples.examples_of_callers.Goals as goal

false_is_true : false ≡ true → ⊥
false_is_true e = cc

same : {A : Type 0} (x y : A) → Some x ≡ Some y → x ≡ y
same x y is = cc

-- the caller is the user of the name that the event has
caller_is : (h : History) (r : Request) (e : Event) (name : List ℕ) (user : UserRow) → caller_of e ≡ Some name → user_of h name ≡ Some user → (is : IsForCaller h r (Some e)) → user ≡ is.caller
caller_is h r e name user of enrolled is =
    let named : name ≡ is.caller.name = same name is.caller.name (sym of ∙ is.asked) in
    same user is.caller (sym enrolled ∙ ap (user_of h) named ∙ is.enrolled)

pub returns-clause-security : goal.returns-clause-security
returns-clause-security c = λ token. record {
  caller = record { name = sue; team = desk; roles = 8; digest = digest_of token };
  enrolled = refl;
  shows = refl;
  may = refl;
  asked = refl;
}

pub returns-clause-other_role : goal.returns-clause-other_role
returns-clause-other_role c = λ token is.
    let user : UserRow = record { name = sue; team = desk; roles = 4; digest = digest_of token } in
    let called = caller_is (sue_shows 4 token) (asks_hold token) (on_profile sue Hold web) sue user refl refl is in
    false_is_true (subst (λ (u : UserRow). may_ask u (ask.ActOnProfile Hold web) ≡ true) (sym called) is.may)

-- one byte is no digest
no_digest : (token : List ℕ) → (5 ∷ []) ≡ digest_of token → ⊥
unfolding digest_of
no_digest token is = let k : 1 ≡ 32 = ap length is ∙ length-sha256 token in absurd (omega (arith, k))

pub returns-clause-other_token : goal.returns-clause-other_token
returns-clause-other_token c = λ token is.
    let user : UserRow = record { name = sue; team = desk; roles = 12; digest = 5 ∷ [] } in
    let called = caller_is office (asks_hold token) (on_profile sue Hold web) sue user refl refl is in
    no_digest token (ap (λ (u : UserRow). u.digest) called ∙ is.shows)

pub returns-clause-other_caller : goal.returns-clause-other_caller
returns-clause-other_caller c = λ token is.
    let user : UserRow = record { name = ann; team = blue; roles = 2; digest = 1 ∷ [] } in
    let called = caller_is (sue_shows 8 token) (asks_hold token) (on_profile ann Hold web) ann user refl refl is in
    false_is_true (subst (λ (u : UserRow). may_ask u (ask.ActOnProfile Hold web) ≡ true) (sym called) is.may)

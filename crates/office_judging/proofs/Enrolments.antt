-- How an enrolment meets its verdict.
use Rattle.std.proofs.Common.{◌≡◌, ◌∙◌, ℕ, List, Bool, true, false, not, Option, Some, None, Err, Ok, IfSome, sym, ap, subst}
use Rattle.std.specs.Prelude.{Result, ⊤, is_some}
use Rattle.review_policy.specs.declared.ask.Ask.TheVariants as ask
use Rattle.review_policy.specs.declared.answer.Reply.TheVariants.{Nothing}
use Rattle.review_policy.specs.declared.denial.Denial.{Denial}
use Rattle.review_policy.specs.declared.facts.TheConstants.EnrolFacts.{PASSING}
use Rattle.office_words.specs.declared.role.Role.TheVariants.{Registrar}
use Rattle.review_policy.specs.Rules.{enrol_rules, known_denial}
use Rattle.office_words.specs.declared.row.UserRow.{UserRow}
use Rattle.office_words.specs.Tables.{Tables}
use Rattle.office_words.specs.Reads.{IsUserShowing}
use Rattle.office_words.specs.Lists.{holds_role}
use Rattle.office_policy.specs.History.{enrolled, History}
use Rattle.office_policy.specs.Users.{user_of, user_showing, is_named}
use Rattle.office_policy.specs.Facts.{enrol_facts, is_elsewhere, is_another}
use Rattle.office_policy.specs.Verdict.{accepted, denied, verdict_of}
use Rattle.office_policy.specs.LooksBack.{LooksBack}
use Rattle.office_policy.proofs.LawFacts.{lawful_apart}
use Rattle.office_policy.proofs.LookUps.{shower_is}
use Rattle.office_policy.proofs.UserFacts.{showing_one, user_named}
use Rattle.office_judging.proofs.Verdicts.{denied_is, allowed_is}

by_caller : (missing own fixed taken : Bool) (d : Denial)
    → known_denial (enrol_rules (record PASSING { role_missing = missing; own_row = own })) ≡ Err d
    → known_denial (enrol_rules (record { role_missing = missing; own_row = own; team_fixed = fixed; token_taken = taken })) ≡ Err d
by_caller true own fixed taken d e = e
by_caller false true fixed taken d e = e
by_caller false false fixed taken d e = absurd cc

-- what was found in the tables is what looking back finds
pub users_found : (user digest : List ℕ) (known shower : Option UserRow) (t : Tables) → known ≡ t.users user → IsUserShowing t digest shower
    → LooksBack {A = Option UserRow × Option UserRow} (λ h. (user_of h user, user_showing h digest)) t (known, shower)
users_found user digest known shower t known_is showing h lawful is =
    let named : known ≡ user_of h user = known_is ∙ ap (λ (t : Tables). t.users user) is in
    let shown = shower_is h lawful digest shower (subst (λ t. IsUserShowing t digest shower) is showing) in
    λ i. (named i, shown i)

-- a user of that name who shows the digest is the one that shows it
pub itself_found : (user digest : List ℕ) (known itself : Option UserRow) (t : Tables) → known ≡ t.users user
    → IfSome itself (λ shower. (known ≡ Some shower) × (shower.digest ≡ digest)) → is_some itself ≡ true
    → LooksBack {A = Option UserRow × Option UserRow} (λ h. (user_of h user, user_showing h digest)) t (known, itself)
itself_found user digest known None t known_is shows there h lawful is = absurd cc
itself_found user digest known (Some shower) t known_is shows there h lawful is =
    let named : known ≡ user_of h user = known_is ∙ ap (λ (t : Tables). t.users user) is in
    let at : user_of h user ≡ Some shower = sym named ∙ shows.0 in
    let own : user_of h shower.name ≡ Some shower = ap (user_of h) (user_named h user shower at) ∙ at in
    let shown = sym (showing_one h (lawful_apart h lawful) digest shower own shows.1) in
    λ i. (named i, shown i)

-- the rules of an enrolment by what was found: the user that has the name, and the one that shows the digest
abbrev Decides : UserRow → (user team : List ℕ) → Option UserRow × Option UserRow → Result ⊤ Denial → Type 0
Decides caller user team found decision = known_denial (enrol_rules (enrol_facts (Some caller) found.0 found.1 user team)) ≡ decision

module _ (h : History) (caller : UserRow) (user team : List ℕ) (roles : ℕ) (digest : List ℕ) where
  -- a caller that has no role for it, or whose own row it is, is refused whoever is enrolled
  pub refused_early : (d : Denial)
      → known_denial (enrol_rules (record PASSING {
        role_missing = not (holds_role (Some caller) Registrar);
        own_row = is_named (Some caller) user;
      })) ≡ Err d
      → verdict_of h (Some caller) (ask.Enrol user team roles digest) ≡ denied d None
  refused_early d e =
      denied_is h (Some caller) (ask.Enrol user team roles digest) d
      (by_caller (not (holds_role (Some caller) Registrar)) (is_named (Some caller) user)
      (is_elsewhere (user_of h user) team) (is_another (user_showing h digest) user) d e)

  module _ (found : Option UserRow × Option UserRow) (is : found ≡ (user_of h user, user_showing h digest)) where
    -- and one whom the users refuse
    pub refused : (d : Denial) → Decides caller user team found (Err d)
        → verdict_of h (Some caller) (ask.Enrol user team roles digest) ≡ denied d None
    refused d e = denied_is h (Some caller) (ask.Enrol user team roles digest) d (subst (λ f. Decides caller user team f (Err d)) is e)

    -- none refuses it
    pub accepts : Decides caller user team found (Ok tt)
        → verdict_of h (Some caller) (ask.Enrol user team roles digest) ≡ accepted Nothing (Some (enrolled caller.name user team roles digest))
    accepts e = allowed_is h (Some caller) (ask.Enrol user team roles digest) (subst (λ f. Decides caller user team f (Ok tt)) is e)

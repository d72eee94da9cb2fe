use Rattle.std.proofs.Common.{◌≡◌, ◌∙◌, ◌||◌, ℕ, List, ◌∷◌, ◌++◌, Bool, true, false, refl, sym, ap, subst}
use Rattle.std.specs.List.{list_any}
use Rattle.std.proofs.lemmas.List.Folds.{list_any-append}
use Rattle.review_policy.specs.declared.act.ProfileView.TheVariants as views
use Rattle.review_policy.specs.declared.ask.Ask.TheVariants as ask
use Rattle.office_words.specs.declared.name.ProfileName.{ProfileName}
use Rattle.office_policy.specs.Examples.{issues, web}
use Rattle.office_policy.specs.History.{History, issued}
use Rattle.office_policy.specs.Revisions.{issues as issues_this}
use Rattle.example_tests.specs.Examples.{approved}
use Rattle.example_tests.proofs.Duties.{false_is_true}
use Rattle.example_tests.proofs.examples.laws.examples_of_numbers_that_are_given_out.Goals as goal

or_true : (b : Bool) → (b || true) ≡ true
or_true true = refl
or_true false = refl

-- the second revision was issued nowhere
never_second : (since before : History) (issuer : List ℕ) → issues 1 ∷ approved ≡ since ++ issued issuer web 2 ∷ before → ⊥
never_second since before issuer is =
    let there : list_any (issues_this web 2) (since ++ issued issuer web 2 ∷ before) ≡ true =
    list_any-append (issues_this web 2) since (issued issuer web 2 ∷ before) ∙ or_true (list_any (issues_this web 2) since) in
    let none : list_any (issues_this web 2) (issues 1 ∷ approved) ≡ false = refl in
    false_is_true (sym none ∙ ap (λ (h : History). list_any (issues_this web 2) h) is ∙ there)

never_second_of : (p : ProfileName) (since before : History) (issuer : List ℕ) → web ≡ p → issues 1 ∷ approved ≡ since ++ issued issuer p 2 ∷ before → ⊥
never_second_of p since before issuer same is =
    never_second since before issuer (subst (λ (p : ProfileName). issues 1 ∷ approved ≡ since ++ issued issuer p 2 ∷ before) (sym same) is)

pub returns-clause-fetched : goal.returns-clause-fetched
returns-clause-fetched c = λ token was.
    let k : ask.SeeProfile views.Fetch web ≡ ask.SeeProfile views.Fetch was.profile = was.asked in
    let same : web ≡ was.profile = cc in
    never_second_of was.profile was.since was.before was.issuer same was.issue

pub returns-clause-told : goal.returns-clause-told
returns-clause-told c = λ token named.
    let was = named.was_approved in
    let k : ask.SeeProfile views.Issued web ≡ ask.SeeProfile views.Issued named.profile = named.asked in
    let first : web ≡ named.profile = cc in
    let j : ask.SeeProfile views.Fetch named.profile ≡ ask.SeeProfile views.Fetch was.profile = was.asked in
    let second : named.profile ≡ was.profile = cc in
    never_second_of was.profile was.since was.before was.issuer (first ∙ second) was.issue

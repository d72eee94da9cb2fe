use Rattle.std.proofs.Common.{◌≡◌, ℕ, List, Option, Some, None, refl, ap, arith, slice_index_or}
use Rattle.review_policy.specs.declared.act.ProfileView.TheVariants.{Fetch}
use Rattle.review_policy.specs.declared.act.ProfileView.TheVariants as views
use Rattle.review_policy.specs.declared.ask.Ask.TheVariants as ask
use Rattle.office_policy.specs.Examples.{text, web}
use Rattle.office_policy.specs.Revisions.{Submission}
use Rattle.example_tests.proofs.Approved.{by_no_author, is_approved, never_approved, never_issued, never_other, was_approved}
use Rattle.example_tests.proofs.examples.approvals.examples_of_what_is_given_out.Goals as goal

pub returns-clause-fetched : goal.returns-clause-fetched
returns-clause-fetched c = λ token. was_approved

pub returns-clause-issued : goal.returns-clause-issued
returns-clause-issued c = λ token is. record { profile = web; number = 1; asked = refl; text = text; of_its_text = refl; approved = is_approved _ is }

pub returns-clause-issued_now : goal.returns-clause-issued_now
returns-clause-issued_now c = λ token. record { profile = web; asked = refl; text = text; was_approved = was_approved }

pub returns-clause-issued_now_of_nothing : goal.returns-clause-issued_now_of_nothing
returns-clause-issued_now_of_nothing c = λ r digest n told.
    let fetch = told.was_approved in
    never_issued fetch.since fetch.before fetch.issuer fetch.profile n fetch.issue

pub returns-clause-issued_now_unasked : goal.returns-clause-issued_now_unasked
returns-clause-issued_now_unasked c = λ token digest n told. let k : ask.SeeProfile Fetch web ≡ ask.SeeProfile views.Issued told.profile = told.asked in cc

pub returns-clause-issued_by_its_author : goal.returns-clause-issued_by_its_author
returns-clause-issued_by_its_author c = λ token is issue. by_no_author _ issue.profile issue.number is issue.asked issue.approved.issuer_no_author

pub returns-clause-issued_of_nothing : goal.returns-clause-issued_of_nothing
returns-clause-issued_of_nothing c = λ r digest issue.
    let none : ◌≡◌ {A = Option Submission} None (Some (record { author = issue.approved.author; text = issue.text })) = issue.approved.submitted in
    cc

pub returns-clause-fetched_of_nothing : goal.returns-clause-fetched_of_nothing
returns-clause-fetched_of_nothing c = λ r digest bytes n fetch. never_issued fetch.since fetch.before fetch.issuer fetch.profile n fetch.issue

pub returns-clause-unapproved : goal.returns-clause-unapproved
returns-clause-unapproved c = λ r digest bytes n fetch. never_approved fetch.since fetch.before fetch.issuer fetch.profile n fetch.issue fetch.approved.count

pub returns-clause-other_text : goal.returns-clause-other_text
returns-clause-other_text c = λ token fetch.
    let same = never_other fetch.since fetch.before fetch.issuer _ fetch.approved.author fetch.profile fetch.asked fetch.issue fetch.approved.submitted in
    let k : ◌≡◌ {A = ℕ} 1 2 = ap (λ (l : List ℕ). slice_index_or l 0 0) same in
    omega (arith, k)

pub returns-clause-not_asked : goal.returns-clause-not_asked
returns-clause-not_asked c = λ token digest bytes n fetch. let k : ask.Me ≡ ask.SeeProfile Fetch fetch.profile = fetch.asked in cc

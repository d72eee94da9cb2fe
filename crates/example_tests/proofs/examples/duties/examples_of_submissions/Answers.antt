use Rattle.std.proofs.Common.{◌≡◌, ◌∙◌, ℕ, suc, Option, Some, None, Ok, Err, refl, sym, ap, arith}
use Rattle.profile_text.specs.Reading.{reading_of}
use Rattle.profile_text.specs.Text.{text_of}
use Rattle.review_policy.specs.declared.ask.Ask.TheVariants as ask
use Rattle.office_words.specs.declared.name.ProfileName.{ProfileName}
use Rattle.office_policy.specs.Examples.{office, web}
use Rattle.office_policy.specs.History.{Event}
use Rattle.office_policy.specs.Revisions.{revision_count}
use Rattle.example_tests.proofs.Duties.{nothing_is_no_digest}
use Rattle.example_tests.proofs.examples.duties.examples_of_submissions.Goals as goal

pub returns-clause-first : goal.returns-clause-first
returns-clause-first c = λ document p reads. record {
  profile = web;
  document = document;
  asked = refl;
  read = p;
  reads = reads;
  of_its_text = refl;
  next = refl;
  happened = refl;
}

pub returns-clause-other_number : goal.returns-clause-other_number
returns-clause-other_number c = λ document digest e is.
    let k : ask.Submit web document ≡ ask.Submit is.profile is.document = is.asked in
    let same : web ≡ is.profile = cc in
    let next : ◌≡◌ {A = ℕ} 2 1 = is.next ∙ ap (λ (p : ProfileName). suc (revision_count office p)) (sym same) in
    omega (arith, next)

pub returns-clause-no_digest : goal.returns-clause-no_digest
returns-clause-no_digest c = λ document n e is. nothing_is_no_digest (text_of is.read) is.of_its_text

pub returns-clause-unread : goal.returns-clause-unread
returns-clause-unread c = λ document fault digest n e unread is.
    let k : ask.Submit web document ≡ ask.Submit is.profile is.document = is.asked in
    let same : document ≡ is.document = cc in
    let both : Err fault ≡ Ok is.read = sym unread ∙ ap (λ d. reading_of d.items) same ∙ is.reads in
    cc

pub returns-clause-nothing_happens : goal.returns-clause-nothing_happens
returns-clause-nothing_happens c = λ document digest n is. let k = is.happened in cc

pub returns-clause-not_asked : goal.returns-clause-not_asked
returns-clause-not_asked c = λ digest n e is. let k : ask.Me ≡ ask.Submit is.profile is.document = is.asked in cc

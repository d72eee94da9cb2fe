use Rattle.std.proofs.Common.{◌≡◌, ◌<◌, ◌^◌, ℕ, [], ◌∷◌, true, false, codes, replicate, refl, lit<}
use Rattle.std.proofs.lemmas.List.Elements.{All-replicate}
use Rattle.office_words.specs.Words.{is_word}
use Rattle.review_policy.specs.declared.act.ProfileAct.TheVariants.{Hold}
use Rattle.review_policy.specs.declared.ask.Ask.TheVariants as asks
use Rattle.review_policy.specs.declared.answer.Reply.TheVariants as replies
use Rattle.office_policy.specs.History.{founded, voted, issued}
use Rattle.office_policy.specs.Formed.{HasForms}
use Rattle.office_policy.specs.Examples.{blue, desk, root, ann, ben, sue, web, listed, office, one_submitted, both_submitted}
use Rattle.office_policy.proofs.LawFacts.{allowed_follows}
use Rattle.office_policy.proofs.law_examples.examples_of_allowed_events.Goals as goal

enrol_forms : HasForms (asks.Enrol ann blue 2 (replicate 32 1))
unfolding is_word
enrol_forms = (refl, refl, lit< tt, (refl, All-replicate (λ (byte : ℕ). byte < 2 ^ 8) 32 1 (lit< tt)))

hold_forms : HasForms (asks.ActOnProfile Hold web)
unfolding is_word
hold_forms = (refl, refl)

false_is_true : false ≡ true → ⊥
false_is_true e = cc

true_is_false : true ≡ false → ⊥
true_is_false e = cc

pub returns-clause-enrolment : goal.returns-clause-enrolment
returns-clause-enrolment c = record {
  caller = record { name = root; team = desk; roles = 1; digest = 0 ∷ [] };
  enrolled = refl;
  ask = asks.Enrol ann blue 2 (replicate 32 1);
  forms = enrol_forms;
  number = tt;
  reply = replies.Nothing;
  allowed = refl;
}

pub returns-clause-hold : goal.returns-clause-hold
returns-clause-hold c = record {
  caller = record { name = sue; team = desk; roles = 12; digest = 5 ∷ [] };
  enrolled = refl;
  ask = asks.ActOnProfile Hold web;
  forms = hold_forms;
  number = tt;
  reply = replies.Nothing;
  allowed = refl;
}

pub returns-clause-nobody : goal.returns-clause-nobody
returns-clause-nobody c = λ is. false_is_true (allowed_follows one_submitted (issued (codes "nobody") web 1) is).issuer

pub returns-clause-author : goal.returns-clause-author
returns-clause-author c = λ is. true_is_false (allowed_follows both_submitted (voted ben web 2 (9 ∷ []) true) is).no_author

pub returns-clause-second_founding : goal.returns-clause-second_founding
returns-clause-second_founding c = λ is. allowed_follows office (founded root desk (0 ∷ []) listed) is

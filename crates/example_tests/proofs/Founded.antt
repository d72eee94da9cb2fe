-- The founding of an office, and what is allowed behind it.
use Rattle.std.proofs.Common.{◌<◌, ◌^◌, ℕ, replicate, codes, refl, lit<}
use Rattle.std.proofs.lemmas.List.Elements.{All-replicate}
use Rattle.office_words.specs.Words.{is_word}
use Rattle.review_policy.specs.declared.ask.Ask.TheVariants as asks
use Rattle.review_policy.specs.declared.answer.Reply.TheVariants as replies
use Rattle.office_policy.specs.Formed.{HasForms}
use Rattle.office_policy.specs.Lawful.{IsAllowed, IsFounding, IsLawfulHistory}
use Rattle.office_policy.proofs.LawFacts.{allowed_follows}
use Rattle.example_tests.specs.Examples.{desk, digest, enrolment, enrols, founding, founds, root}

pub is_founding : IsFounding (founds 5)
unfolding is_word
is_founding = (refl, refl, (refl, All-replicate (λ (byte : ℕ). byte < 2 ^ 8) 32 7 (lit< tt)), lit< tt)

pub is_lawful : IsLawfulHistory founding
is_lawful = is_founding

enrol_forms : HasForms (asks.Enrol (codes "ann") (codes "blue") 2 (replicate 32 1))
unfolding is_word
enrol_forms = (refl, refl, lit< tt, (refl, All-replicate (λ (byte : ℕ). byte < 2 ^ 8) 32 1 (lit< tt)))

pub enrols_allowed : IsAllowed founding enrols
enrols_allowed = record {
  caller = record { name = root; team = desk; roles = 1; digest = digest };
  enrolled = refl;
  ask = asks.Enrol (codes "ann") (codes "blue") 2 (replicate 32 1);
  forms = enrol_forms;
  number = tt;
  reply = replies.Nothing;
  allowed = refl;
}

pub enrolment_lawful : IsLawfulHistory enrolment
enrolment_lawful = (enrols_allowed, is_founding)

-- an office is founded once
pub founded_once : IsAllowed founding (founds 5) → ⊥
founded_once is = allowed_follows founding (founds 5) is

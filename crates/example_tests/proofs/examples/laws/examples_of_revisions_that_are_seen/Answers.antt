use Rattle.std.proofs.Common.{◌≡◌, ℕ, Bool, true, false, length, refl, sym, ap, arith}
use Rattle.review_policy.specs.declared.answer.Reply.{Reply}
use Rattle.review_policy.specs.declared.answer.Reply.TheVariants as reply
use Rattle.example_tests.proofs.Duties.{true_is_false}
use Rattle.example_tests.proofs.examples.laws.examples_of_revisions_that_are_seen.Goals as goal

abbrev how_many : Reply → ℕ
how_many (reply.Revisions told more) = length told
how_many _ = 0

abbrev has_more : Reply → Bool
has_more (reply.Revisions told more) = more
has_more _ = false

abbrev is_sheet : Reply → Bool
is_sheet (reply.Sheet told) = true
is_sheet _ = false

pub returns-clause-all : goal.returns-clause-all
returns-clause-all c = refl

pub returns-clause-below : goal.returns-clause-below
returns-clause-below c = refl

pub returns-clause-left_out : goal.returns-clause-left_out
returns-clause-left_out c = λ is. let k : ◌≡◌ {A = ℕ} 1 2 = ap how_many is in omega (arith, k)

pub returns-clause-not_below : goal.returns-clause-not_below
returns-clause-not_below c = λ is. let k : ◌≡◌ {A = ℕ} 2 1 = ap how_many is in omega (arith, k)

pub returns-clause-none_more : goal.returns-clause-none_more
returns-clause-none_more c = λ is. true_is_false (ap has_more is)

pub returns-clause-nothing : goal.returns-clause-nothing
returns-clause-nothing c = λ is. let k : ◌≡◌ {A = ℕ} 0 2 = ap how_many is in omega (arith, k)

pub returns-clause-no_sheet : goal.returns-clause-no_sheet
returns-clause-no_sheet c = λ is. true_is_false (sym (ap is_sheet is.2))

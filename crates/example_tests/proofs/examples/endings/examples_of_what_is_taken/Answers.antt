use Rattle.std.proofs.Common.{inl, inr, refl, arith}
use Rattle.example_tests.specs.EdgeExamples.{at_five, moment, never_set, shows_either, waits_for}
use Rattle.example_tests.proofs.Endings.{counts_on, is_either, is_just, keeps_longer, keeps_unset, none_left_over, takes_none, unseen, shows_just, shows_one, taken_all, taken_most, taken_until}
use Rattle.example_tests.proofs.examples.endings.examples_of_what_is_taken.Goals as goal

pub returns-clause-all : goal.returns-clause-all
returns-clause-all c = taken_all

pub returns-clause-most : goal.returns-clause-most
returns-clause-most c = taken_most

pub returns-clause-timed_out : goal.returns-clause-timed_out
returns-clause-timed_out c = taken_until

pub returns-clause-no_clock : goal.returns-clause-no_clock
returns-clause-no_clock c = λ e. inr (refl, (e, inl (inl refl)))

pub returns-clause-last_second : goal.returns-clause-last_second
returns-clause-last_second c = λ e kind. inr (refl, (e, inl (inr (moment 18446744073709551615 0, refl, (λ fits. omega (arith, fits)), kind))))

pub returns-clause-unsaid : goal.returns-clause-unsaid
returns-clause-unsaid c = λ e. inr (refl, (e, inr refl))

pub returns-clause-too_few : goal.returns-clause-too_few
returns-clause-too_few c = none_left_over (shows_either (moment 5 0) (moment 5 999999999)) (shows_one _ _) (is_either _ _ (omega arith) (omega arith)) 3 2
    (λ same. omega (arith, same)) (λ same. omega (arith, same)) (λ same. omega (arith, same))

pub returns-clause-too_many : goal.returns-clause-too_many
returns-clause-too_many c = none_left_over at_five shows_just is_just 20000 9999
    (λ same. omega (arith, same)) (λ same. omega (arith, same)) (λ same. omega (arith, same))

pub returns-clause-countable : goal.returns-clause-countable
returns-clause-countable c = counts_on

pub returns-clause-not_asked : goal.returns-clause-not_asked
returns-clause-not_asked c = unseen

pub returns-clause-waiting_longer : goal.returns-clause-waiting_longer
returns-clause-waiting_longer c = λ taken. let same = takes_none (waits_for (moment 2 0)) at_five keeps_longer 3 2 taken in omega (arith, same)

pub returns-clause-waiting_unset : goal.returns-clause-waiting_unset
returns-clause-waiting_unset c = λ e taken. let same = takes_none (never_set e) at_five (keeps_unset e) 3 2 taken in omega (arith, same)

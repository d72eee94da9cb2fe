use Rattle.std.proofs.Common.{◌≡◌, ℕ, true, false, length, sym, ap, arith}
use Rattle.example_tests.specs.Examples.{founding}
use Rattle.example_tests.specs.JournalExamples.{Pages}
use Rattle.example_tests.proofs.Causes.{other_history}
use Rattle.example_tests.proofs.Replays.{founded_of}
use Rattle.example_tests.proofs.Taken.{is_stray}
use Rattle.example_tests.proofs.examples.strikes.examples_of_strays.Goals as goal

pub returns-clause-left : goal.returns-clause-left
returns-clause-left c = is_stray

pub returns-clause-no_stray : goal.returns-clause-no_stray
returns-clause-no_stray c = λ r told is. let k : false ≡ true = is.stray in cc

pub returns-clause-struck : goal.returns-clause-struck
returns-clause-struck c = λ r told is. let k : ◌≡◌ {A = ℕ} 3 2 = ap (λ (j : Pages). length j.bodies) is.journal in omega (arith, k)

pub returns-clause-happened : goal.returns-clause-happened
returns-clause-happened c = λ r told is. other_history (sym (is.again.leaves.office founding (founded_of 0)).1)

use Rattle.std.proofs.Common.{◌≤◌, ℕ, arith}
use Rattle.example_tests.proofs.Limits.{number_in}
use Rattle.example_tests.proofs.examples.limits.examples_of_numbers_of_evidence.Goals as goal

pub returns-clause-in_limits : goal.returns-clause-in_limits
returns-clause-in_limits c = λ rows words journal team profile line revision. record {
  journal = journal;
  team = team;
  profile = profile;
  revision = revision;
  line = line;
}

pub returns-clause-behind_them : goal.returns-clause-behind_them
returns-clause-behind_them c = λ rows words is has. omega (arith, is, (number_in 1 9999 words.revision _ has.revision).1)

pub returns-clause-none : goal.returns-clause-none
returns-clause-none c = λ rows words is has. omega (arith, is, (number_in 1 9999 words.revision _ has.revision).0)

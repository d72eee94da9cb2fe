use Rattle.std.proofs.Common.{◌≡◌, ◌∙◌, true, false, Bool, Option, Some, None, if◌then◌else◌, ℕ, refl, ap}
use Rattle.std.specs.Prelude.{Ok}
use Rattle.command_host.specs.Marks.{mark_of_lines}
use Rattle.example_tests.proofs.examples.servings.examples_of_offices_that_are_closed_with_journals.Goals as goal

pub returns-clause-marked : goal.returns-clause-marked
returns-clause-marked g c = λ x settled is_open lines. record {
  last = x;
  came = Ok tt;
  settled = settled;
  closed = ap (λ (b : Bool). if b then Some (mark_of_lines x.journal.lines) else None) is_open ∙ ap (λ (n : ℕ). Some (mark_of_lines n)) lines;
}

pub returns-clause-shut : goal.returns-clause-shut
returns-clause-shut g c = λ x settled shut. record {
  last = x;
  came = Ok tt;
  settled = settled;
  closed = ap (λ (b : Bool). if b then Some (mark_of_lines x.journal.lines) else None) shut;
}

pub returns-clause-unsettled : goal.returns-clause-unsettled
returns-clause-unsettled g c = λ x never is. never is.last is.came is.settled

pub returns-clause-not_closed : goal.returns-clause-not_closed
returns-clause-not_closed g c = λ x is. is.closed

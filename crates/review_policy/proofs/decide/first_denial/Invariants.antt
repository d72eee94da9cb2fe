use Rattle.std.proofs.Common.{◌≡◌, ◌+◌, drop}
use Rattle.review_policy.specs.Rules.{first_from, known_denial}
use Rattle.review_policy.proofs.decide.first_denial.Given as goal

abbrev pub invariant-loop-rule : goal.invariant-loop-rule
invariant-loop-rule l =
    (l.number ≡ l.rule-index + 1)
    × (known_denial l.rules ≡ first_from (l.rule-index + 2) (drop l.rule-index l.rules))

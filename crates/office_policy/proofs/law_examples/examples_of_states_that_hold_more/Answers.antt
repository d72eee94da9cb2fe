use Rattle.std.proofs.Common.{refl}
use Rattle.cap_sets.proofs.Bits.{none_in_zero}
use Rattle.office_policy.proofs.law_examples.examples_of_states_that_hold_more.Goals as goal

pub returns-clause-same : goal.returns-clause-same
returns-clause-same c = record { effective = λ n has. has; permitted = λ n has. has; inheritable = λ n has. has; bounding = λ n has. has; ambient = λ n has. has }

pub returns-clause-effective : goal.returns-clause-effective
returns-clause-effective c = λ no_more. absurd (none_in_zero 2 (no_more.effective 2 refl))

pub returns-clause-permitted : goal.returns-clause-permitted
returns-clause-permitted c = λ no_more. absurd (none_in_zero 2 (no_more.permitted 2 refl))

pub returns-clause-inheritable : goal.returns-clause-inheritable
returns-clause-inheritable c = λ no_more. absurd (none_in_zero 2 (no_more.inheritable 2 refl))

pub returns-clause-bounding : goal.returns-clause-bounding
returns-clause-bounding c = λ no_more. absurd (none_in_zero 2 (no_more.bounding 2 refl))

pub returns-clause-ambient : goal.returns-clause-ambient
returns-clause-ambient c = λ no_more. absurd (none_in_zero 2 (no_more.ambient 2 refl))

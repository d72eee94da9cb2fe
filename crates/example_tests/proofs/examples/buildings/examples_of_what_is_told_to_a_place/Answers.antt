use Rattle.std.proofs.Common.{◌≡◌, ℕ, List, [], Option, Some, None, refl}
use Rattle.example_tests.proofs.Built.{never_further, never_left, never_told_before, never_unsealed, told_first_place, told_second_place}
use Rattle.example_tests.proofs.examples.buildings.examples_of_what_is_told_to_a_place.Goals as goal

pub returns-clause-held : goal.returns-clause-held
returns-clause-held c = told_first_place

pub returns-clause-stands : goal.returns-clause-stands
returns-clause-stands c = told_second_place

pub returns-clause-held_and_stands : goal.returns-clause-held_and_stands
returns-clause-held_and_stands c = never_told_before

pub returns-clause-more_taken : goal.returns-clause-more_taken
returns-clause-more_taken c = never_further _ [] refl

pub returns-clause-unsealed : goal.returns-clause-unsealed
returns-clause-unsealed c = never_unsealed _ [] refl

pub returns-clause-more_left : goal.returns-clause-more_left
returns-clause-more_left c = never_left

pub returns-clause-unknown : goal.returns-clause-unknown
returns-clause-unknown c = λ begun. let none : ◌≡◌ {A = Option (List ℕ)} None (Some begun.rest) = begun.left in cc

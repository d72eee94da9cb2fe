use Rattle.std.proofs.Common.{◌≡◌, ◌++◌, ℕ, List, [], ◌∷◌, length, slice_index_or, refl, ap, arith, length-append}
use Rattle.sealed_log.specs.Sealed.{before_body, sealed_text}
use Rattle.office_policy.specs.History.{Event}
use Rattle.journal.specs.Begun.{with_event}
use Rattle.journal.specs.Lines.{happened, strike, text_of}
use Rattle.example_tests.specs.JournalExamples.{first_line, second_lines}
use Rattle.example_tests.proofs.Leavings.{none_in_front, nothing_left, part_left, whole_left}
use Rattle.example_tests.proofs.examples.strikes.examples_of_events_that_are_unstruck.Goals as goal

pub returns-clause-nothing : goal.returns-clause-nothing
returns-clause-nothing c = record { before = first_line; left = nothing_left second_lines [] (text_of strike) }

pub returns-clause-part : goal.returns-clause-part
returns-clause-part c = record { before = first_line; left = part_left second_lines (text_of strike) }

pub returns-clause-whole : goal.returns-clause-whole
returns-clause-whole c = record { before = first_line; left = whole_left second_lines (text_of strike) }

pub returns-clause-no_line : goal.returns-clause-no_line
returns-clause-no_line c = λ e has.
    let size = ap (λ (l : List (List ℕ)). length l) (none_in_front (with_event has.before e) has.left.tail has.left.is) in
    omega (arith, size, length-append has.before (text_of (happened e) ∷ []))

-- the first byte of a line is no zero
first_byte : (before : List (List ℕ)) (e : Event) (tail : List ℕ) → 0 ∷ [] ≡ sealed_text (with_event before e) ++ tail → ⊥
unfolding before_body
first_byte [] e tail is = let k : ◌≡◌ {A = ℕ} 0 123 = ap (λ (l : List ℕ). slice_index_or l 0 0) is in absurd (omega (arith, k))
first_byte (body ∷ before) e tail is = let k : ◌≡◌ {A = ℕ} 0 123 = ap (λ (l : List ℕ). slice_index_or l 0 0) is in absurd (omega (arith, k))

pub returns-clause-other_bytes : goal.returns-clause-other_bytes
returns-clause-other_bytes c = λ e has. first_byte has.before e has.left.tail has.left.is

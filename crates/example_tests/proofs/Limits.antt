-- How often a file was read.
use Rattle.std.proofs.Common.{◌≡◌, ◌≤◌, ℕ, zero, suc, List, [], Option, Some, None, Ok, refl, arith}
use Rattle.clap.specs.Words.{Text}
use Rattle.command_line.specs.Meaning.{IsNumberIn}
use Rattle.reading_commands.specs.Reading.{AreCalls}
use Rattle.example_tests.specs.Limits.{gives_times}

-- a number within limits is
pub number_in : (low high n : ℕ) (given : Option Text) → IsNumberIn low high n given → (low ≤ n) × (n ≤ high)
number_in low high n None is = absurd is
number_in low high n (Some text) is = (omega (arith, is.1, is.0.2), omega (arith, is.1, is.0.3))

-- a file that gives so many times is read so often
pub read_times : (most count : ℕ) → count ≤ most → AreCalls (gives_times most) count 0 count
unfolding AreCalls
read_times most zero few = refl
read_times most (suc count) few = (count, read_times most count (omega (arith, few)), (Ok 0, [], (refl, few)))

-- and one that was read gave as often
pub gave_times : (most count first last : ℕ) → AreCalls (gives_times most) (suc count) first last → suc count ≤ most
unfolding AreCalls
gave_times most count first last calls = let all = counted (suc count) first last calls in omega (arith, all, calls.2.2.1)
  where
    counted : (count first last : ℕ) → AreCalls (gives_times most) count first last → count ≤ last
    counted zero first last calls = omega arith
    counted (suc count) first last calls = let before = counted count first calls.0 calls.1 in omega (arith, before, calls.2.2.0)

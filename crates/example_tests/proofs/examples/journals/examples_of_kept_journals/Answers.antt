use Rattle.std.proofs.Common.{◌≡◌, ℕ, List, [], ◌∷◌, true, false, Option, Some, None, length, slice_index_or, drop, refl, ap, arith}
use Rattle.office_policy.specs.History.{Event}
use Rattle.journal.specs.Journals.{struck_bodies, struck_none}
use Rattle.journal.specs.Lines.{happened, strike, text_of}
use Rattle.example_tests.specs.Examples.{enrols}
use Rattle.example_tests.specs.JournalExamples.{one, two}
use Rattle.example_tests.proofs.Struck.{never_one}
use Rattle.example_tests.proofs.examples.journals.examples_of_kept_journals.Goals as goal

false_is_true : false ≡ true → ⊥
false_is_true e = cc

-- bodies that begin otherwise
two_is_one : (xs ys : List (List ℕ)) → two ∷ xs ≡ one ∷ ys → ⊥
two_is_one xs ys is = let k : ◌≡◌ {A = ℕ} 2 1 = ap (λ (l : List (List ℕ)). slice_index_or (slice_index_or l 0 []) 0 0) is in absurd (omega (arith, k))

-- one more is none that is struck out
never_more : (body : List ℕ) (events : List (Option ℕ × Event)) → one ∷ body ∷ [] ≡ one ∷ struck_bodies events → ⊥
never_more body events is = never_one events body (ap (drop 1) is)

pub returns-clause-same : goal.returns-clause-same
returns-clause-same c = λ goes. (refl, struck_none (one ∷ two ∷ []))

pub returns-clause-struck : goal.returns-clause-struck
returns-clause-struck c = λ goes. (refl, record { events = (None, enrols) ∷ []; is = refl })

pub returns-clause-settled : goal.returns-clause-settled
returns-clause-settled c = λ goes. (refl, record { events = (Some 1, enrols) ∷ []; is = refl })

pub returns-clause-ended : goal.returns-clause-ended
returns-clause-ended c = λ goes. absurd (false_is_true goes)

pub returns-clause-missing : goal.returns-clause-missing
returns-clause-missing c = λ keeps.
    let has = (keeps refl).1 in
    let k : 1 ≡ length (one ∷ two ∷ struck_bodies has.events) = ap (λ (l : List (List ℕ)). length l) has.is in
    omega (arith, k)

pub returns-clause-changed : goal.returns-clause-changed
returns-clause-changed c = λ keeps. let has = (keeps refl).1 in two_is_one [] (struck_bodies has.events) has.is

pub returns-clause-swapped : goal.returns-clause-swapped
returns-clause-swapped c = λ keeps. let has = (keeps refl).1 in two_is_one (one ∷ []) (two ∷ struck_bodies has.events) has.is

pub returns-clause-unstruck : goal.returns-clause-unstruck
returns-clause-unstruck c = λ keeps. let has = (keeps refl).1 in never_more (text_of (happened enrols)) has.events has.is

pub returns-clause-strike_alone : goal.returns-clause-strike_alone
returns-clause-strike_alone c = λ keeps. let has = (keeps refl).1 in never_more (text_of strike) has.events has.is

pub returns-clause-ended_before : goal.returns-clause-ended_before
returns-clause-ended_before c = λ keeps. false_is_true (keeps refl).0

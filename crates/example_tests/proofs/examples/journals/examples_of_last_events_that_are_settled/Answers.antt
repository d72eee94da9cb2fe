use Rattle.std.proofs.Common.{◌≡◌, ◌≤◌, ◌-◌, ◌^◌, inl, inr, ℕ, List, [], true, false, length, slice_index_or, refl, sym, ap, subst, arith, lit<}
use Rattle.sealed_log.specs.Sealed.{no_seal}
use Rattle.journal.specs.Journals.{IsOf}
use Rattle.journal.specs.Lines.{happened, done, text_of}
use Rattle.journal.specs.Writing.{IsLeftIn}
use Rattle.journal.proofs.JournalFacts.{no_line}
use Rattle.journal.proofs.Lengths.{allowed_entry, done_entry}
use Rattle.journal.proofs.Settling.{no_text, written}
use Rattle.example_tests.specs.Examples.{enrols, founding, founds, quiet, Sketch}
use Rattle.example_tests.specs.JournalExamples.{failing, first_line, first_lines, paged, with_bodies, with_unsettled}
use Rattle.example_tests.proofs.Founded.{enrols_allowed}
use Rattle.example_tests.proofs.Leavings.{never_ending_nothing, whole_left}
use Rattle.example_tests.proofs.Lines.{enrols_forms, first_says, founds_forms, other_texts}
use Rattle.example_tests.proofs.Replays.{founded_of}
use Rattle.example_tests.proofs.examples.journals.examples_of_last_events_that_are_settled.Goals as goal

pub returns-clause-done : goal.returns-clause-done
returns-clause-done c =
    written quiet paged (with_unsettled first_line) refl 1 (record { unsaid = refl; counted = refl; few = λ same. omega (arith, same) }) (lit< tt) (text_of (done 1)) refl (with_bodies first_lines).journal
    (record { clean = λ clean. clean; counts = omega arith; closes = λ clean is_open. inl is_open; written = (refl, λ clean. refl); crash = λ clean left may. inr (record { is_open = refl; left = subst (IsLeftIn first_line [] (text_of (done 1))) (sym may) (whole_left first_line (text_of (done 1))) }) })

pub returns-clause-no_memory : goal.returns-clause-no_memory
returns-clause-no_memory c = no_text quiet paged (with_unsettled first_line) refl refl

pub returns-clause-untried : goal.returns-clause-untried
returns-clause-untried c = λ is. elim (is.settled refl).1 [
  | inl said ↦ let k : false ≡ true = said in cc
  | inr many ↦ let k : 2 ^ 64 - 1 ≤ 1 = many in omega (arith, k)
]

pub returns-clause-other_line : goal.returns-clause-other_line
returns-clause-other_line c = λ is. elim (is.bodies tt refl) [
  | inl same ↦ let k : ◌≡◌ {A = ℕ} 2 1 = ap (λ (l : List (List ℕ)). length l) same in absurd (omega (arith, k))
  | inr said ↦ other_texts (happened enrols) (done 1) (allowed_entry founding enrols enrols_allowed enrols_forms) (done_entry 1 (lit< tt)) (λ same. cc) (ap (λ (l : List (List ℕ)). slice_index_or l 1 []) said)
]

pub returns-clause-other_office : goal.returns-clause-other_office
returns-clause-other_office c = λ is. let k : ◌≡◌ {A = ℕ} 3 0 = ap (λ (x : Sketch). x.faults) is.office in absurd (omega (arith, k))

pub returns-clause-after_a_fault : goal.returns-clause-after_a_fault
returns-clause-after_a_fault c = λ is. let k : ◌≡◌ {A = ℕ} 2 1 = ap (λ (l : List (List ℕ)). length l) (is.failed tt refl) in absurd (omega (arith, k))

pub returns-clause-forgotten : goal.returns-clause-forgotten
returns-clause-forgotten c = λ is. let k : 1 ≤ 0 = is.survives.counts in omega (arith, k)

of_founding : IsOf quiet failing founding (with_unsettled first_line)
of_founding = record { office = founded_of 0; says = λ clean goes. first_says; ends = λ clean goes unsaid. record { before = []; event = founds 5; forms = founds_forms; is = refl } }

pub returns-clause-lost : goal.returns-clause-lost
returns-clause-lost c = λ is. elim (is.crash (tt, tt) (founding, []) (inl refl, refl)) [
  | inl before ↦ no_line no_seal (text_of (happened (founds 5))) [] before.1
  | inr ending ↦ never_ending_nothing (ending.1 founding of_founding)
]

use Rattle.std.proofs.Common.{◌≡◌, ◌≤◌, inl, inr, true, false, Option, Some, None, refl, sym, ap, arith}
use Rattle.review_policy.specs.declared.answer.Answer.{Answer}
use Rattle.review_policy.specs.declared.answer.Answer.TheVariants.{Fault}
use Rattle.review_policy.specs.declared.ask.Request.{Request}
use Rattle.office_words.specs.declared.fault.Fault.{Fault as TheFault}
use Rattle.office_words.specs.declared.fault.Fault.TheVariants.{NoMemory, Disk, Full, NotAnOffice}
use Rattle.office_policy.specs.Handled.{HasRisen}
use Rattle.office_policy.proofs.SurvivalFacts.{left_itself}
use Rattle.journal.specs.Journals.{IsStruckOr}
use Rattle.journal.specs.Writing.{IsMet}
use Rattle.example_tests.specs.Examples.{counting, founding, quiet}
use Rattle.example_tests.specs.JournalExamples.{Pages, failing, paged, second_lines, with_shut, with_stray, with_unsettled}
use Rattle.example_tests.proofs.Causes.{unmet}
use Rattle.example_tests.proofs.Replays.{founded_of, stands_founded}
use Rattle.example_tests.proofs.Taken.{is_stray}
use Rattle.example_tests.proofs.examples.strikes.examples_of_events_that_are_taken_back.Goals as goal

pub returns-clause-struck : goal.returns-clause-struck
returns-clause-struck c = λ r. record {
  leaves = left_itself quiet (counting 0);
  clean = λ clean. clean;
  counts = omega arith;
  journal = record { stands = λ h of clean. stands_founded 0 h of; no_stray = refl; settled = refl; is_open = refl; bodies = λ clean. refl };
}

pub returns-clause-half_struck : goal.returns-clause-half_struck
returns-clause-half_struck c = λ r. record {
  leaves = left_itself quiet (counting 0);
  clean = λ clean. clean;
  counts = omega arith;
  journal = inr (
    Disk,
    refl,
    record {
      stands = λ h of clean. stands_founded 0 h of;
      stray = refl;
      append = record {
        clean = λ clean. clean;
        counts = omega arith;
        closes = λ clean is_open. inr (omega arith);
        written = (λ clean is_open. refl, λ clean is_open. (refl, omega arith));
        crash = λ clean left may. inl may;
      };
    },
  );
}

pub returns-clause-stray : goal.returns-clause-stray
returns-clause-stray c = λ r. record { leaves = left_itself quiet (counting 0); clean = λ clean. clean; counts = omega arith; journal = inl (is_stray r) }

false_is_true : false ≡ true → ⊥
false_is_true e = cc

none_risen : HasRisen 0 0 → ⊥
none_risen risen = omega (arith, risen)

pub returns-clause-untried : goal.returns-clause-untried
returns-clause-untried c = λ r told taken. by r told taken.journal
  where
    by : (r : Request) (told : Option Answer) → IsStruckOr quiet paged r (with_unsettled second_lines) (with_unsettled second_lines) told → ⊥
    by r None struck = false_is_true struck.settled
    by r (Some told) (inl stray) = false_is_true stray.stray
    by r (Some told) (inr half) = false_is_true half.2.stray

pub returns-clause-unstruck : goal.returns-clause-unstruck
returns-clause-unstruck c = λ r taken. false_is_true (sym taken.journal.no_stray)

-- no call of this journal fails
unmet_disk : (fault : TheFault) → Fault Disk ≡ Fault fault → IsMet paged (with_unsettled second_lines).journal (with_stray second_lines).journal fault → ⊥
unmet_disk (NoMemory none) is met = let k : Fault Disk ≡ Fault (NoMemory none) = is in cc
unmet_disk Disk is met = none_risen (met refl).1
unmet_disk Full is met = none_risen met.1
unmet_disk NotAnOffice is met = met

pub returns-clause-uncalled : goal.returns-clause-uncalled
returns-clause-uncalled c = λ r taken. elim taken.journal [
  | inl stray ↦ unmet (counting 0) (counting 0) founding r Disk none_risen (stray.again.handled.cause founding (founded_of 0) tt refl)
  | inr half ↦ unmet_disk half.0 half.1 (half.2.append.written.1 tt)
]

pub returns-clause-untold : goal.returns-clause-untold
returns-clause-untold c = λ r taken. false_is_true (sym taken.journal.no_stray)

-- it is a call for the disk that failed
unmet_full : (fault : TheFault) → Fault Full ≡ Fault fault → IsMet failing (with_unsettled second_lines).journal (with_shut second_lines).journal fault → ⊥
unmet_full (NoMemory none) is met = let k : Fault Full ≡ Fault (NoMemory none) = is in cc
unmet_full Disk is met = let k : Fault Full ≡ Fault Disk = is in cc
unmet_full Full is met = let k : Full ≡ Disk = met.0 in cc
unmet_full NotAnOffice is met = met

pub returns-clause-other_call : goal.returns-clause-other_call
returns-clause-other_call c = λ r taken. elim taken.journal [
  | inl stray ↦ false_is_true (ap (λ (j : Pages). j.is_open) stray.journal)
  | inr half ↦ unmet_full half.0 half.1 (half.2.append.written.1 tt)
]

pub returns-clause-fault_of_the_office : goal.returns-clause-fault_of_the_office
returns-clause-fault_of_the_office c = λ r told taken. let k : 1 ≤ 0 = taken.leaves.survives.counts in omega (arith, k)

pub returns-clause-fault_of_the_journal : goal.returns-clause-fault_of_the_journal
returns-clause-fault_of_the_journal c = λ r told taken. let k : 1 ≤ 0 = taken.counts in omega (arith, k)

pub returns-clause-unclean : goal.returns-clause-unclean
returns-clause-unclean c = λ r told taken. false_is_true (taken.clean refl)

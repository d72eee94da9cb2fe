use Rattle.std.proofs.Common.{◌≡◌, inl, inr, true, false, refl, arith}
use Rattle.office_words.specs.declared.fault.Fault.{Fault}
use Rattle.office_words.specs.declared.fault.Fault.TheVariants.{Disk, Full}
use Rattle.office_policy.specs.Handled.{HasRisen}
use Rattle.example_tests.specs.Examples.{founding}
use Rattle.example_tests.proofs.Replays.{founded_of, stands_founded}
use Rattle.example_tests.proofs.examples.strikes.examples_of_events_that_are_half_struck.Goals as goal

false_is_true : false ≡ true → ⊥
false_is_true e = cc

none_risen : HasRisen 0 0 → ⊥
none_risen risen = omega (arith, risen)

pub returns-clause-disk : goal.returns-clause-disk
returns-clause-disk c = record {
  stands = λ h of clean. stands_founded 0 h of;
  stray = refl;
  append = record {
    clean = λ clean. clean;
    counts = omega arith;
    closes = λ clean is_open. inr (omega arith);
    written = (λ clean is_open. refl, λ clean is_open. (refl, omega arith));
    crash = λ clean left may. inl may;
  };
}

pub returns-clause-no_stray : goal.returns-clause-no_stray
returns-clause-no_stray c = λ is. false_is_true is.stray

pub returns-clause-other_call : goal.returns-clause-other_call
returns-clause-other_call c = λ is. let k : ◌≡◌ {A = Fault} Full Disk = (is.append.written.1 tt).0 in cc

pub returns-clause-no_call : goal.returns-clause-no_call
returns-clause-no_call c = λ is. none_risen (is.append.written.1 tt refl).1

pub returns-clause-office_shut : goal.returns-clause-office_shut
returns-clause-office_shut c = λ is. false_is_true (is.stands founding (founded_of 0) tt).is_open

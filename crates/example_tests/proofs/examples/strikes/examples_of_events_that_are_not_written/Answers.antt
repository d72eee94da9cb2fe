use Rattle.std.proofs.Common.{◌≡◌, inl, inr, Bool, true, false, refl, arith}
use Rattle.office_words.specs.declared.fault.Fault.{Fault as TheFault}
use Rattle.office_words.specs.declared.fault.Fault.TheVariants.{Disk, Full}
use Rattle.office_policy.specs.Handled.{HasRisen}
use Rattle.example_tests.proofs.examples.strikes.examples_of_events_that_are_not_written.Goals as goal

none_risen : HasRisen 0 0 → ⊥
none_risen risen = omega (arith, risen)

pub returns-clause-disk : goal.returns-clause-disk
returns-clause-disk c = λ r. inl (
  record {
    stray = refl;
    office = refl;
    append = λ is. record {
      clean = λ clean. clean;
      counts = omega arith;
      closes = λ clean is_open. inr (omega arith);
      written = (λ clean is_open. refl, λ clean is_open. (refl, omega arith));
      crash = λ clean left may. inl may;
    };
  },
  refl,
)

pub returns-clause-other_call : goal.returns-clause-other_call
returns-clause-other_call c = λ r is undone. elim undone [
  | inl none ↦ let k : ◌≡◌ {A = TheFault} Full Disk = ((none.0.append is).written.1 tt).0 in cc
  | inr back ↦ let k : ◌≡◌ {A = Bool} true false = back.2.journal.no_stray in cc
]

pub returns-clause-no_call : goal.returns-clause-no_call
returns-clause-no_call c = λ r is undone. elim undone [
  | inl none ↦ none_risen ((none.0.append is).written.1 tt refl).1
  | inr back ↦ let k : ◌≡◌ {A = Bool} true false = back.2.journal.no_stray in cc
]

use Rattle.example_tests.proofs.HandedBack.{mark_above, never_clean, never_changed, never_forgotten, never_lost, never_no_line, never_others, never_uncalled, never_uncaused, never_unsealed, never_written, no_memory, unsealed}
use Rattle.example_tests.proofs.examples.openings.examples_of_what_is_handed_back.Goals as goal

pub returns-clause-no_memory : goal.returns-clause-no_memory
returns-clause-no_memory g c = λ old log. no_memory g.S.Store g.D.Disk old log

pub returns-clause-unsealed : goal.returns-clause-unsealed
returns-clause-unsealed g c = λ old log. unsealed g.S.Store g.D.Disk old log

pub returns-clause-mark_above : goal.returns-clause-mark_above
returns-clause-mark_above g c = λ old log. mark_above g.S.Store g.D.Disk old log

pub returns-clause-forgotten : goal.returns-clause-forgotten
returns-clause-forgotten g c = λ old office log after why. never_forgotten g.S.Store g.D.Disk old log office after why

pub returns-clause-clean_again : goal.returns-clause-clean_again
returns-clause-clean_again g c = λ old office log after why. never_clean g.S.Store g.D.Disk old log office after why

pub returns-clause-sealed : goal.returns-clause-sealed
returns-clause-sealed g c = λ old office log after. never_unsealed g.S.Store g.D.Disk old log office after

pub returns-clause-not_changed : goal.returns-clause-not_changed
returns-clause-not_changed g c = λ old office log after at. never_changed g.S.Store g.D.Disk old log office after at

pub returns-clause-no_lines : goal.returns-clause-no_lines
returns-clause-no_lines g c = λ old office log after. never_no_line g.S.Store g.D.Disk old log office after

pub returns-clause-own : goal.returns-clause-own
returns-clause-own g c = λ old office log after. never_others g.S.Store g.D.Disk old log office after

pub returns-clause-written : goal.returns-clause-written
returns-clause-written g c = λ old office log after. never_written g.S.Store g.D.Disk old log office after

pub returns-clause-no_cause : goal.returns-clause-no_cause
returns-clause-no_cause g c = λ old office log after. never_uncaused g.S.Store g.D.Disk old log office after

pub returns-clause-no_call : goal.returns-clause-no_call
returns-clause-no_call g c = λ old office log after. never_uncalled g.S.Store g.D.Disk old log office after

pub returns-clause-lost : goal.returns-clause-lost
returns-clause-lost g c = λ old office log after why. never_lost g.S.Store g.D.Disk old log office after why

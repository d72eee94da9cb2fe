use Rattle.std.proofs.Common.{inl, inr, ◌∷◌, [], refl, arith}
use Rattle.journal.specs.Lines.{happened, text_of}
use Rattle.journal_office.proofs.MendFacts.{left_ours}
use Rattle.example_tests.specs.Examples.{enrols, founding, founds}
use Rattle.example_tests.specs.JournalExamples.{first_line}
use Rattle.example_tests.proofs.Founded.{enrols_allowed, is_lawful}
use Rattle.example_tests.proofs.Lines.{enrols_forms, first_says}
use Rattle.example_tests.proofs.Openings.{is_others}
use Rattle.example_tests.proofs.examples.openings.examples_of_journals_of_others.Goals as goal

pub returns-clause-mark_above : goal.returns-clause-mark_above
returns-clause-mark_above c = inl (omega arith)

pub returns-clause-other_founding : goal.returns-clause-other_founding
returns-clause-other_founding c = inr is_others

pub returns-clause-own : goal.returns-clause-own
returns-clause-own c = left_ours 1 founding first_line is_lawful (inl first_says) (omega arith)

pub returns-clause-one_more : goal.returns-clause-one_more
returns-clause-one_more c = left_ours 1 founding (text_of (happened (founds 5)) ∷ text_of (happened enrols) ∷ []) is_lawful
    (inr (enrols, record { before = first_line; says = first_says; allowed = enrols_allowed; forms = enrols_forms; is = refl })) (omega arith)

-- An office that is a history, whose last event is taken back.
use Rattle.std.proofs.Common.{inl, refl}
use Rattle.review_policy.specs.declared.ask.Request.{Request}
use Rattle.review_policy.specs.declared.answer.Answer.TheVariants.{Fault}
use Rattle.office_words.specs.declared.fault.Fault.TheVariants.{NoMemory}
use Rattle.office_policy.specs.Handled.{IsHandled}
use Rattle.office_policy.specs.Judging.{IsAnswered}
use Rattle.office_policy.proofs.SurvivalFacts.{left_itself, survives_none}
use Rattle.journal.specs.Journals.{IsStray}
use Rattle.example_tests.specs.Examples.{Sketch, counting, quiet}
use Rattle.example_tests.specs.JournalExamples.{paged, second_lines, with_stray, with_unsettled}
use Rattle.no_memory.specs.Witness.{witness}

-- a request met a want of memory, and changed nothing
no_memory : (x : Sketch) (r : Request) → IsHandled quiet x x r (Fault (NoMemory witness))
no_memory x r = record {
  survives = survives_none quiet x;
  answer = λ h of clean. tt;
  cause = λ h of clean. inl (refl, λ left may. inl may);
  closes = λ h of clean is_open. inl is_open;
  approved = λ h of clean. tt;
  office = λ h of. of;
  stands = λ h of clean. tt;
  kept = λ clean. refl;
  adds = λ h of clean. inl refl;
  crash = λ h of clean left may. inl may;
}

answered : (x : Sketch) (r : Request) → IsAnswered quiet x x r (Fault (NoMemory witness))
answered x r = record { leaves = left_itself quiet x; handled = no_memory x r; same = λ h of clean. refl }

pub is_stray : (r : Request) → IsStray quiet paged r (with_unsettled second_lines) (with_stray second_lines) (Fault (NoMemory witness))
is_stray r = record { stray = refl; journal = refl; again = answered (counting 0) r }

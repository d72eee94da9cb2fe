use Rattle.std.proofs.Common.{◌≡◌, ◌≤◌, ◌∙◌, ℕ, List, true, false, None, length, sym, ap, arith}
use Rattle.example_tests.specs.JournalExamples.{verified}
use Rattle.example_tests.proofs.Lines.{told_first}
use Rattle.example_tests.proofs.Verified.{is_verified, never_empty, never_listed, no_seal_of, one_event, one_line, verified_with_kept}
use Rattle.example_tests.proofs.examples.verifications.examples_of_verified_offices.Goals as goal

pub returns-clause-own : goal.returns-clause-own
returns-clause-own g c = λ office shows stands. is_verified g.S.Store office None 1 tt (omega arith) shows stands

pub returns-clause-kept : goal.returns-clause-kept
returns-clause-kept g c = λ office shows stands. verified_with_kept g.S.Store office shows stands

pub returns-clause-more_events : goal.returns-clause-more_events
returns-clause-more_events g c = λ office is. let k : 2 ≡ 1 = one_event g.S.Store office None 1 (verified 2 1) is in omega (arith, k)

pub returns-clause-more_lines : goal.returns-clause-more_lines
returns-clause-more_lines g c = λ office is. let k : 2 ≡ 1 = one_line g.S.Store office None 1 (verified 1 2) is in omega (arith, k)

pub returns-clause-no_seal : goal.returns-clause-no_seal
returns-clause-no_seal g c = λ office is. no_seal_of is.journal.journal.bodies is.journal.sealed

pub returns-clause-mark_above : goal.returns-clause-mark_above
returns-clause-mark_above g c = λ office is. let k : 2 ≤ 1 = is.marked in omega (arith, k)

pub returns-clause-other_kept : goal.returns-clause-other_kept
returns-clause-other_kept g c = λ office is.
    let few = is.same_seal.0 in
    let size = ap (λ (l : List (List ℕ)). length l) told_first in
    omega (arith, few, size)

pub returns-clause-other_office : goal.returns-clause-other_office
returns-clause-other_office g c = λ office row is. never_listed g.S.Store office None 1 (verified 1 1) is row

pub returns-clause-shut : goal.returns-clause-shut
returns-clause-shut g c = λ office shut is. let k : true ≡ false = sym is.shows.is_open ∙ shut in cc

pub returns-clause-no_journal : goal.returns-clause-no_journal
returns-clause-no_journal g c = λ office is. never_empty g.S.Store office 0 (verified 0 0) is

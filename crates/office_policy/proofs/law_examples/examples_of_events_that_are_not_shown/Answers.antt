use Rattle.std.proofs.Common.{◌≡◌, true, false, Some, refl, ap}
use Rattle.std.specs.Prelude.{bytes_eq}
use Rattle.profile_text.specs.Digest.{digest_of}
use Rattle.office_words.specs.declared.revision.State.TheVariants.{Issued}
use Rattle.review_policy.specs.Rules.{is_open}
use Rattle.office_words.specs.declared.row.RevisionRow.{RevisionRow}
use Rattle.office_policy.specs.Examples.{ann, ben, web, text, open_row, one_submitted, first_issued}
use Rattle.office_policy.proofs.ShownFacts.{shown_row}
use Rattle.office_policy.proofs.law_examples.examples_of_events_that_are_not_shown.Goals as goal

false_is_true : false ≡ true → ⊥
false_is_true e = cc

true_is_false : true ≡ false → ⊥
true_is_false e = cc

pub returns-clause-other_author : goal.returns-clause-other_author
returns-clause-other_author c = λ shown. true_is_false (ap (bytes_eq ann) (shown_row one_submitted web ben text (open_row 1 text) refl shown).1)

pub returns-clause-not_open : goal.returns-clause-not_open
returns-clause-not_open c = λ shown.
    let row : RevisionRow = record { number = 1; author = ann; state = Issued; body = text; digest = digest_of text } in
    false_is_true (ap (λ s. is_open (Some s)) (shown_row first_issued web ann text row refl shown).0)

use Rattle.std.proofs.Common.{◌≡◌, ◌∙◌, ◌==◌, ◌&&◌, ℕ, List, Bool, true, false, cond, Option, Some, None, refl, sym, subst}
use Rattle.std.specs.Prelude.{Ok, Err}
use Rattle.profile_text.specs.Reading.{reading_of}
use Rattle.profile_text.specs.Text.{text_of}
use Rattle.office_policy.specs.Documents.{document_of}
use Rattle.office_policy.specs.Examples.{ann, web}
use Rattle.office_policy.specs.Revisions.{Submission}
use Rattle.office_words.specs.Tables.{is_profile}
use Rattle.example_tests.proofs.Duties.{same}
use Rattle.example_tests.proofs.examples.duties.examples_of_texts_that_read_back.Goals as goal

abbrev IsBack : List ℕ → Type 0
IsBack bytes = (reading_of bytes ≡ Ok (document_of bytes)) × (text_of (document_of bytes) ≡ bytes)

pub returns-clause-none : goal.returns-clause-none
returns-clause-none c = λ p n s is. let k : ◌≡◌ {A = Option Submission} None (Some s) = is in absurd (cc)

-- whichever it is, the one that is handed in has these bytes
by_both : (bytes : List ℕ) (is_it : Bool) (s : Submission) → IsBack bytes → cond is_it (Some (record { author = ann; text = bytes })) None ≡ Some s → IsBack s.text
by_both bytes true s back is = subst (λ (s : Submission). IsBack s.text) (same _ s is) back
by_both bytes false s back is = absurd (let k : ◌≡◌ {A = Option Submission} None (Some s) = is in cc)

pub returns-clause-canonical : goal.returns-clause-canonical
returns-clause-canonical c = λ bytes reads text p n s is. by_both bytes (is_profile p web && (n == 1)) s (reads, text) is

pub returns-clause-unread : goal.returns-clause-unread
returns-clause-unread c = λ bytes fault unread back.
    let read = (back web 1 (record { author = ann; text = bytes }) refl).0 in
    let k : Err fault ≡ Ok (document_of bytes) = sym unread ∙ read in
    cc

pub returns-clause-not_canonical : goal.returns-clause-not_canonical
returns-clause-not_canonical c = λ bytes other back. other (back web 1 (record { author = ann; text = bytes }) refl).1

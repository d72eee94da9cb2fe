use Rattle.std.proofs.Common.{◌≡◌, ◌∙◌, ℕ, List, [], inl, inr, length, refl, sym, ap, arith}
use Rattle.profile_text.specs.Reading.{reading_of}
use Rattle.reading_commands.specs.Documents.{file_of}
use Rattle.example_tests.specs.EdgeExamples.{base, new}
use Rattle.example_tests.proofs.examples.documents.examples_of_documents_that_are_not_compared.Goals as goal

-- the words are the paths
is_base : file_of base ≡ base
unfolding file_of
is_base = refl

is_new : file_of new ≡ new
unfolding file_of
is_new = refl

apart : base ≡ new → ⊥
apart same = let k : ◌≡◌ {A = ℕ} 4 3 = ap (λ (l : List ℕ). length l) same in absurd (omega (arith, k))

pub returns-clause-no_base : goal.returns-clause-no_base
returns-clause-no_base c = λ e bytes. (λ same. cc, inl (refl, (e, λ same. apart (sym is_base ∙ same))))

pub returns-clause-unread : goal.returns-clause-unread
returns-clause-unread c = λ e bytes failed. (λ same. cc, inr (bytes, (is_base, refl), record { old = []; new = []; error = e; bytes = []; call = refl; failed = failed }))

pub returns-clause-no_document : goal.returns-clause-no_document
returns-clause-no_document c = λ bytes fault is. (λ same. cc, inr (bytes, (is_base, refl), is))

pub returns-clause-no_new : goal.returns-clause-no_new
returns-clause-no_new c = λ e bytes p is. (λ same. cc, (p, (bytes, (is_base, refl), is)), inl (refl, (e, λ same. apart (sym same ∙ is_new))))

pub returns-clause-memory : goal.returns-clause-memory
returns-clause-memory c = λ bytes. tt

pub returns-clause-read : goal.returns-clause-read
returns-clause-read c = λ bytes none. elim none.1 [
  | inl unopened ↦ unopened.1.1 is_base
  | inr refused ↦ refused.2.call
]

pub returns-clause-document : goal.returns-clause-document
returns-clause-document c = λ bytes fault p is none. elim none.1 [
  | inl unopened ↦ let k = unopened.0 in cc
  | inr refused ↦ let k = sym refused.2 ∙ ap reading_of refused.1.1 ∙ is in cc
]

pub returns-clause-without_base : goal.returns-clause-without_base
returns-clause-without_base c = λ bytes why none. apart (sym is_base ∙ none.1.1.1.0)

pub returns-clause-beside_none : goal.returns-clause-beside_none
returns-clause-beside_none c = λ bytes fault why is none. let k = sym none.1.1.2 ∙ ap reading_of none.1.1.1.1 ∙ is in cc

pub returns-clause-memory_of_base : goal.returns-clause-memory_of_base
returns-clause-memory_of_base c = λ bytes none. none.0 refl

pub returns-clause-memory_of_new : goal.returns-clause-memory_of_new
returns-clause-memory_of_new c = λ bytes none. none.0 refl

pub returns-clause-read_too_often : goal.returns-clause-read_too_often
returns-clause-read_too_often c = λ bytes none. elim none.1 [
  | inl unopened ↦ let k = unopened.0 in cc
  | inr refused ↦ apart (sym is_base ∙ refused.1.0)
]

pub returns-clause-new_read : goal.returns-clause-new_read
returns-clause-new_read c = λ bytes none. elim none.2 [
  | inl unopened ↦ unopened.1.1 is_base
  | inr refused ↦ refused.2.call
]

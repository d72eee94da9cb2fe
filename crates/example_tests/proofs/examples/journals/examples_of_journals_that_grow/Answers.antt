use Rattle.std.proofs.Common.{◌≡◌, inl, inr, ℕ, List, [], ◌∷◌, ◌++◌, ◌∙◌, ◌+◌, true, false, length, length-append, slice_index_or, refl, sym, ap, subst, arith, append-nil}
use Rattle.sealed_log.specs.Sealed.{no_seal, sealed_line, sealed_text}
use Rattle.sealed_log.proofs.SealFacts.{length-sealed_line}
use Rattle.journal.specs.Journals.{BeginsWith, grows_itself, text_begins}
use Rattle.example_tests.specs.Examples.{quiet}
use Rattle.example_tests.specs.JournalExamples.{one, two, paged, with_bodies}
use Rattle.example_tests.proofs.examples.journals.examples_of_journals_that_grow.Goals as goal

false_is_true : false ≡ true → ⊥
false_is_true e = cc

pub returns-clause-same : goal.returns-clause-same
returns-clause-same c = grows_itself quiet paged (with_bodies (one ∷ []))

pub returns-clause-more : goal.returns-clause-more
returns-clause-more c =
    let begins : BeginsWith (one ∷ []) (one ∷ two ∷ []) = record { more = two ∷ []; is = refl } in
    record {
      bodies = λ goes. (refl, begins);
      files = λ file may. inr (refl, subst (BeginsWith (sealed_text (one ∷ []))) (sym may) (text_begins (one ∷ []) (one ∷ two ∷ []) begins));
    }

pub returns-clause-missing : goal.returns-clause-missing
returns-clause-missing c = λ grows.
    let begins = (grows.bodies refl).1 in
    let k : 1 ≡ length (one ∷ two ∷ begins.more) = ap (λ (l : List (List ℕ)). length l) begins.is in
    absurd (omega (arith, k))

pub returns-clause-changed : goal.returns-clause-changed
returns-clause-changed c = λ grows.
    let k : ◌≡◌ {A = ℕ} 2 1 = ap (λ (l : List (List ℕ)). slice_index_or (slice_index_or l 0 []) 0 0) (grows.bodies refl).1.is in
    absurd (omega (arith, k))

-- the text of a line has bytes
some_bytes : (rest : List ℕ) → (let none : List ℕ = [] in none ≡ sealed_text (one ∷ []) ++ rest) → ⊥
some_bytes rest is =
    let long : length (sealed_text (one ∷ [])) ≡ length one + 84 = ap (λ (l : List ℕ). length l) (append-nil (sealed_line no_seal one)) ∙ length-sealed_line no_seal one in
    omega (arith, ap (λ (l : List ℕ). length l) is, length-append (sealed_text (one ∷ [])) rest, long)

pub returns-clause-left_without : goal.returns-clause-left_without
returns-clause-left_without c = λ grows. elim (grows.files [] refl) [
  | inl before ↦ some_bytes [] (before ∙ sym (append-nil (sealed_text (one ∷ []))))
  | inr behind ↦ some_bytes behind.1.more behind.1.is
]

pub returns-clause-ended_before : goal.returns-clause-ended_before
returns-clause-ended_before c = λ grows. false_is_true (grows.bodies refl).0

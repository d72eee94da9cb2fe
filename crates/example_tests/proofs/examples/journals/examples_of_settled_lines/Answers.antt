use Rattle.std.proofs.Common.{◌≡◌, inl, inr, ℕ, List, [], ◌∷◌, length, slice_index_or, refl, ap, arith, lit<}
use Rattle.journal.specs.Lines.{strike, done, text_of}
use Rattle.journal.proofs.Lengths.{done_entry, strike_entry}
use Rattle.example_tests.specs.JournalExamples.{one}
use Rattle.example_tests.proofs.Lines.{other_texts}
use Rattle.example_tests.proofs.examples.journals.examples_of_settled_lines.Goals as goal

-- one more line than none isn't none more
longer : (body : List ℕ) → one ∷ body ∷ [] ≡ one ∷ [] → ⊥
longer body is = let k : ◌≡◌ {A = ℕ} 2 1 = ap (λ (l : List (List ℕ)). length l) is in absurd (omega (arith, k))

second : (x y : List ℕ) → one ∷ x ∷ [] ≡ one ∷ y ∷ [] → x ≡ y
second x y is = ap (λ (l : List (List ℕ)). slice_index_or l 1 []) is

pub returns-clause-none_more : goal.returns-clause-none_more
returns-clause-none_more c = inl refl

pub returns-clause-carried_out : goal.returns-clause-carried_out
returns-clause-carried_out c = inr refl

pub returns-clause-other_line : goal.returns-clause-other_line
returns-clause-other_line c = λ settled. elim settled [
  | inl is ↦ longer (text_of (done 2)) is
  | inr is ↦ other_texts (done 2) (done 1) (done_entry 2 (lit< tt)) (done_entry 1 (lit< tt)) (λ same. let k : ◌≡◌ {A = ℕ} 2 1 = cc in absurd (omega (arith, k))) (second (text_of (done 2)) (text_of (done 1)) is)
]

pub returns-clause-struck : goal.returns-clause-struck
returns-clause-struck c = λ settled. elim settled [
  | inl is ↦ longer (text_of strike) is
  | inr is ↦ other_texts strike (done 1) strike_entry (done_entry 1 (lit< tt)) (λ same. cc) (second (text_of strike) (text_of (done 1)) is)
]

pub returns-clause-missing : goal.returns-clause-missing
returns-clause-missing c = λ settled. elim settled [
  | inl is ↦ let k : ◌≡◌ {A = ℕ} 0 1 = ap (λ (l : List (List ℕ)). length l) is in absurd (omega (arith, k))
  | inr is ↦ let k : ◌≡◌ {A = ℕ} 0 2 = ap (λ (l : List (List ℕ)). length l) is in absurd (omega (arith, k))
]

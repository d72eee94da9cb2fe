use Rattle.std.proofs.Common.{◌≡◌, ℕ, List, [], Some, codes, get_or, length, length-take, take, inl, inr, refl, ap, subst, sym, arith, lit<}
use Rattle.command_host.specs.Said.{IsSaid}
use Rattle.example_tests.specs.EdgeExamples.{written, wrote}
use Rattle.example_tests.proofs.Said.{disk_line, read_line}
use Rattle.example_tests.proofs.examples.sayings.examples_of_said_refusals.Goals as goal

pub returns-clause-whole : goal.returns-clause-whole
returns-clause-whole c = subst (IsSaid written (wrote [] 0) (wrote (codes "office: disk\n") 0)) (sym disk_line) (inl (refl, refl))

pub returns-clause-cut : goal.returns-clause-cut
returns-clause-cut c = subst (IsSaid written (wrote [] 0) (wrote (codes "office: d") 1)) (sym disk_line) (inr ((9, lit< tt, refl), refl))

pub returns-clause-path : goal.returns-clause-path
returns-clause-path c = subst (IsSaid written (wrote [] 0) (wrote (codes "office: read a\n") 0)) (sym read_line) (inl (refl, refl))

pub returns-clause-other_word : goal.returns-clause-other_word
returns-clause-other_word c = λ is. elim (subst (IsSaid written (wrote [] 0) (wrote (codes "office: read\n") 0)) disk_line is) [
  | inl whole ↦ let at : 114 ≡ 100 = ap (λ (l : List ℕ). get_or l 8 0) whole.0 in omega (arith, at)
  | inr cut ↦ let more : 0 ≡ 1 = cut.1 in omega (arith, more)
]

pub returns-clause-other_path : goal.returns-clause-other_path
returns-clause-other_path c = λ is. elim (subst (IsSaid written (wrote [] 0) (wrote (codes "office: read b\n") 0)) read_line is) [
  | inl whole ↦ let at : 98 ≡ 97 = ap (λ (l : List ℕ). get_or l 13 0) whole.0 in omega (arith, at)
  | inr cut ↦ let more : 0 ≡ 1 = cut.1 in omega (arith, more)
]

pub returns-clause-not_cut : goal.returns-clause-not_cut
returns-clause-not_cut c = λ is. elim (subst (IsSaid written (wrote [] 0) (wrote (codes "office: d") 0)) disk_line is) [
  | inl whole ↦ let size : 9 ≡ 13 = ap (λ (l : List ℕ). length l) whole.0 in omega (arith, size)
  | inr cut ↦ let more : 0 ≡ 1 = cut.1 in omega (arith, more)
]

pub returns-clause-unsaid : goal.returns-clause-unsaid
returns-clause-unsaid c = λ is. elim (subst (IsSaid written (wrote [] 0) (wrote (codes "office: disk\n") 1)) disk_line is) [
  | inl whole ↦ let none : 1 ≡ 0 = whole.1 in omega (arith, none)
  | inr cut ↦
      let size : 13 ≡ length (take cut.0.0 (codes "office: disk\n")) = ap (λ (l : List ℕ). length l) cut.0.2 in
      let less = cut.0.1 in
      omega (arith, size, less, length-take cut.0.0 (codes "office: disk\n"))
]

pub returns-clause-no_witness : goal.returns-clause-no_witness
returns-clause-no_witness c = λ is. elim (subst (IsSaid written (wrote [] 0) (wrote (codes "office: memory\n") 0)) disk_line is) [
  | inl whole ↦ let size : 15 ≡ 13 = ap (λ (l : List ℕ). length l) whole.0 in omega (arith, size)
  | inr cut ↦ let more : 0 ≡ 1 = cut.1 in omega (arith, more)
]

use Rattle.std.proofs.Common.{◌≡◌, ◌∙◌, inl, inr, ℕ, List, [], ◌∷◌, Option, Some, None, length, slice_index_or, refl, sym, ap, arith, lit<}
use Rattle.std.proofs.lemmas.List.Elements.{All-cons, All-nil}
use Rattle.office_policy.specs.History.{History}
use Rattle.journal.specs.Journal.{IsEntry, Says, history_in}
use Rattle.journal.specs.Lines.{strike, done, text_of}
use Rattle.journal.proofs.JournalFacts.{same_texts}
use Rattle.journal.proofs.Lengths.{done_entry, strike_entry}
use Rattle.example_tests.specs.Examples.{founding}
use Rattle.example_tests.proofs.Lines.{first_says, other_texts}
use Rattle.example_tests.proofs.examples.openings.examples_of_mended_journals.Goals as goal

pub returns-clause-whole : goal.returns-clause-whole
returns-clause-whole c = record { was = founding; says = first_says; is = inl refl }

pub returns-clause-struck : goal.returns-clause-struck
returns-clause-struck c = record { was = founding; says = first_says; is = inr refl }

pub returns-clause-missing : goal.returns-clause-missing
returns-clause-missing c = λ mended. elim mended.is [
  | inl is ↦ let k : ◌≡◌ {A = ℕ} 0 1 = ap (λ (l : List (List ℕ)). length l) is in absurd (omega (arith, k))
  | inr is ↦ let k : ◌≡◌ {A = ℕ} 0 2 = ap (λ (l : List (List ℕ)). length l) is in absurd (omega (arith, k))
]

pub returns-clause-carried_out : goal.returns-clause-carried_out
returns-clause-carried_out c = λ mended. elim mended.is [
  | inl is ↦ let k : ◌≡◌ {A = ℕ} 2 1 = ap (λ (l : List (List ℕ)). length l) is in absurd (omega (arith, k))
  | inr is ↦ other_texts (done 1) strike (done_entry 1 (lit< tt)) strike_entry (λ same. cc) (ap (λ (l : List (List ℕ)). slice_index_or l 1 []) is)
]

-- a line that strikes out none says nothing
says_none : (h : History) → Says (text_of strike ∷ []) h → ⊥
says_none h says =
    let lines : says.lines ≡ strike ∷ [] = same_texts says.lines (strike ∷ []) says.entries (All-cons IsEntry strike [] strike_entry (All-nil IsEntry)) (sym says.are) in
    let k : ◌≡◌ {A = Option History} None (Some h) = sym (ap history_in lines) ∙ says.history in
    cc

pub returns-clause-no_journal : goal.returns-clause-no_journal
returns-clause-no_journal c = λ mended. says_none mended.was mended.says

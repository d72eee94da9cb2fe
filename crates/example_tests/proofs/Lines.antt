-- The lines of a founding, and what they say.
use Rattle.std.proofs.Common.{◌≡◌, ◌<◌, ◌^◌, ℕ, List, [], ◌∷◌, ◌++◌, length, refl, ap, subst, arith, lit<, length-append}
use Rattle.std.proofs.lemmas.List.Elements.{All-cons, All-nil, All-replicate}
use Rattle.office_words.specs.Words.{is_word}
use Rattle.sealed_log.specs.Sealed.{sealed_text}
use Rattle.sealed_log.specs.Told.{told}
use Rattle.sealed_log.proofs.ToldFacts.{told_text}
use Rattle.office_policy.specs.History.{History}
use Rattle.office_policy.specs.Lawful.{IsLawfulHistory}
use Rattle.office_policy.specs.EventForms.{HasForms}
use Rattle.journal.specs.Journal.{IsEntry, Says}
use Rattle.journal.specs.Lines.{Line, happened, done, text_of}
use Rattle.journal.proofs.JournalFacts.{bodies_of_says, says_one}
use Rattle.journal.proofs.Lengths.{done_entry, founding_entry}
use Rattle.journal.proofs.LineFacts.{same_line}
use Rattle.example_tests.specs.Examples.{enrols, founding, founds}
use Rattle.example_tests.specs.JournalExamples.{first_line, first_lines}
use Rattle.example_tests.proofs.Founded.{is_founding}

-- ---- lines that can stand in a journal

pub founds_forms : HasForms (founds 5)
founds_forms = is_founding

pub enrols_forms : HasForms enrols
unfolding is_word
enrols_forms = (refl, refl, refl, lit< tt, (refl, All-replicate (λ (byte : ℕ). byte < 2 ^ 8) 32 1 (lit< tt)))

pub founds_entry : IsEntry (happened (founds 5))
founds_entry = founding_entry (founds 5) is_founding founds_forms

-- two lines have one text only where they are one
pub other_texts : (a b : Line) → IsEntry a → IsEntry b → (a ≡ b → ⊥) → text_of a ≡ text_of b → ⊥
other_texts a b is_a is_b apart same = apart (same_line a b is_a.formed is_b.formed same)

-- ---- what they say

pub nothing_said : Says [] []
nothing_said = record { lines = []; entries = All-nil IsEntry; are = refl; history = refl }

pub first_says : Says first_line founding
first_says = record {
  lines = happened (founds 5) ∷ [];
  entries = All-cons IsEntry (happened (founds 5)) [] founds_entry (All-nil IsEntry);
  are = refl;
  history = refl;
}

pub first_lines_say : Says first_lines founding
first_lines_say = record {
  lines = happened (founds 5) ∷ done 1 ∷ [];
  entries = All-cons IsEntry (happened (founds 5)) (done 1 ∷ []) founds_entry (All-cons IsEntry (done 1) [] (done_entry 1 (lit< tt)) (All-nil IsEntry));
  are = refl;
  history = refl;
}

pub told_first : told (sealed_text first_line) ≡ first_line
told_first = told_text first_line (bodies_of_says first_line founding first_says)

pub told_first_lines : told (sealed_text first_lines) ≡ first_lines
told_first_lines = told_text first_lines (bodies_of_says first_lines founding first_lines_say)

-- no lawful history is said by the lines before the first
pub none_before : (before : List (List ℕ)) (h : History) (body : List ℕ) → Says before h → IsLawfulHistory h → first_line ≡ before ++ body ∷ [] → ⊥
none_before [] h body says lawful is = subst IsLawfulHistory (says_one [] h [] says nothing_said) lawful
none_before (b ∷ before) h body says lawful is =
    let k : 1 ≡ length (b ∷ (before ++ body ∷ [])) = ap (λ (l : List (List ℕ)). length l) is in
    absurd (omega (arith, k, length-append before (body ∷ [])))

-- When a comparison implies another, by the sets of words that they admit, and when an entry
-- implies another.
use Rattle.std.specs.Prelude.{◌≡◌, ℕ, ◌<◌, ◌^◌, zero, suc, List, Bool, true, false, not, ◌&&◌, ◌||◌}
use Rattle.std.specs.Prelude.{◌==◌, IsTrue, MatchBool, All}
use Rattle.std.specs.List.{list_any, list_all}
use Rattle.seccomp_doc.specs.declared.compare.Compare.{Compare}
use Rattle.seccomp_doc.specs.Compare.{admits}
use Rattle.seccomp_doc.specs.Meaning.{admits_words}
use Rattle.seccomp_doc.specs.Filter.{EntryValue}

-- every number below a bound passes the test
unfoldable pub all_below : ℕ → (ℕ → Bool) → Bool
all_below zero test = true
all_below (suc n) test = test n && all_below n test

-- every word of 64 bits that the first comparison admits is admitted by the second
unfoldable pub implies : Compare → Compare → Bool
implies c d = all_below (2 ^ 64) (λ word. not (admits c word) || admits d word)

-- each comparison of the second entry is implied by one of the first entry of the same argument
abbrev pub entry_implies : EntryValue → EntryValue → Bool
entry_implies e f = list_all (λ d. list_any (λ c. c.index == d.index && implies c d) e.args) f.args

-- every word of a set, given by its test, is admitted
abbrev pub AllAdmitted : (ℕ → Bool) → Compare → Type 0
AllAdmitted set d = (word : ℕ) → word < 2 ^ 64 → IsTrue (set word) → IsTrue (admits d word)

-- some word of the set isn't admitted
pub record SomeRefused (set : ℕ → Bool) (d : Compare) : Type 0 where
  pub word : ℕ
  pub small : word < 2 ^ 64
  pub inside : set word ≡ true
  pub refused : admits d word ≡ false

-- what is answered: true where every word of the set is admitted, false where some word isn't
abbrev pub TellsAllAdmitted : Bool → (ℕ → Bool) → Compare → Type 0
TellsAllAdmitted answer set d = MatchBool answer (AllAdmitted set d) (SomeRefused set d)

-- the entry admits all words that the other admits
abbrev pub AdmitsAllOf : EntryValue → EntryValue → Type 0
AdmitsAllOf f e = (words : List ℕ) → All (λ word. word < 2 ^ 64) words
    → IsTrue (admits_words e.args words) → IsTrue (admits_words f.args words)

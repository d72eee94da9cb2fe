-- What implication says of the words that are admitted.
use Rattle.std.proofs.Common.{◌≡◌, ◌∙◌, refl, sym, subst, inl, inr, ℕ, ◌<◌, ◌^◌, List, [], ◌∷◌, Bool, true, false, not, ◌&&◌, ◌||◌, ◌==◌, All, length, slice_index, arith}
use Rattle.std.specs.List.{list_any, list_all}
use Rattle.std.proofs.lemmas.Bool.{and_from, and_parts, cases_lt, eqb-true, false≢true, false_from_ne_true, or_cases}
use Rattle.std.proofs.lemmas.Bool.Decides.{Decides-below_and}
use Rattle.std.proofs.lemmas.List.{get_or_past}
use Rattle.std.proofs.lemmas.List.Elements.{All-get_or}
use Rattle.seccomp_doc.specs.declared.compare.Compare.{Compare}
use Rattle.seccomp_doc.specs.Compare.{admits}
use Rattle.seccomp_doc.specs.Meaning.{admits_words}
use Rattle.seccomp_doc.specs.Filter.{EntryValue}
use Rattle.implication.specs.Implication.{AdmitsAllOf, TellsAllAdmitted, all_below, entry_implies, implies}

-- whether a word that the one comparison admits is admitted by the other
abbrev passes : Compare → Compare → ℕ → Bool
passes c d word = not (admits c word) || admits d word

all_below-true : (test : ℕ → Bool) (n : ℕ) → all_below n test ≡ true → (k : ℕ) → k < n → test k ≡ true
unfolding all_below
all_below-true test n all = (Decides-below_and test (λ k. test k ≡ true) (λ m. all_below m test) (λ k. (λ e. e, λ e. e)) refl (λ m. refl) n).0 all

all_below-from : (test : ℕ → Bool) (n : ℕ) → ((k : ℕ) → k < n → test k ≡ true) → all_below n test ≡ true
unfolding all_below
all_below-from test n all = (Decides-below_and test (λ k. test k ≡ true) (λ m. all_below m test) (λ k. (λ e. e, λ e. e)) refl (λ m. refl) n).1 all

passes-from : (a b : Bool) → (a ≡ true → b ≡ true) → (not a || b) ≡ true
passes-from true b h = h refl
passes-from false b h = refl

passes-true : (a b : Bool) → (not a || b) ≡ true → a ≡ true → b ≡ true
passes-true true b h e = h
passes-true false b h e = cc

passes-false : (a b : Bool) → a ≡ true → b ≡ false → (not a || b) ≡ true → false ≡ true
passes-false true b e r h = sym r ∙ h
passes-false false b e r h = e

-- what a comparison admits, a comparison that it implies admits
pub implies-admits : (c d : Compare) → implies c d ≡ true → (word : ℕ) → word < 2 ^ 64 → admits c word ≡ true → admits d word ≡ true
unfolding implies
implies-admits c d implied word small = passes-true (admits c word) (admits d word) (all_below-true (passes c d) (2 ^ 64) implied word small)

-- an answer that is stated exactly is that of the definition
pub implies-from_exact : (answer : Bool) (c d : Compare) → TellsAllAdmitted answer (admits c) d → answer ≡ implies c d
unfolding implies
implies-from_exact true c d all = sym (all_below-from (passes c d) (2 ^ 64) (λ word small. passes-from (admits c word) (admits d word) (all word small)))
implies-from_exact false c d some =
    sym (false_from_ne_true _ (λ all. false≢true (passes-false (admits c some.word) (admits d some.word) some.inside some.refused (all_below-true (passes c d) (2 ^ 64) all some.word some.small))))

-- the word at an index is one of the words, or 0
slice_index-small : (words : List ℕ) (i : ℕ) → All (λ word. word < 2 ^ 64) words → slice_index words i < 2 ^ 64
slice_index-small words i small = elim (cases_lt i (length words)) as (λ _. slice_index words i < 2 ^ 64) [
  | inl within ↦ All-get_or (λ word. word < 2 ^ 64) words i 0 within small
  | inr past ↦ omega (arith, get_or_past words i 0 past)
]

some_admits : (args : List Compare) (d : Compare) (words : List ℕ) → All (λ word. word < 2 ^ 64) words →
    list_any (λ c. c.index == d.index && implies c d) args ≡ true → admits_words args words ≡ true → admits d (slice_index words d.index) ≡ true
some_admits [] d words small some all = absurd (false≢true some)
some_admits (c ∷ args) d words small some all =
    let each = and_parts (admits c (slice_index words c.index)) (admits_words args words) all in
    elim (or_cases (c.index == d.index && implies c d) (list_any (λ c. c.index == d.index && implies c d) args) some) as (λ _. admits d (slice_index words d.index) ≡ true) [
      | inl here ↦
          let parts = and_parts (c.index == d.index) (implies c d) here in
          subst (λ (i : ℕ). admits d (slice_index words i) ≡ true) (eqb-true c.index d.index parts.0)
          (implies-admits c d parts.1 (slice_index words c.index) (slice_index-small words c.index small) each.0)
      | inr later ↦ some_admits args d words small later each.1
    ]

all_admit : (args others : List Compare) (words : List ℕ) → All (λ word. word < 2 ^ 64) words →
    list_all (λ d. list_any (λ c. c.index == d.index && implies c d) args) others ≡ true → admits_words args words ≡ true → admits_words others words ≡ true
all_admit args [] words small implied all = refl
all_admit args (d ∷ others) words small implied all =
    let parts = and_parts (list_any (λ c. c.index == d.index && implies c d) args) (list_all (λ d. list_any (λ c. c.index == d.index && implies c d) args) others) implied in
    and_from (admits d (slice_index words d.index)) (admits_words others words) (some_admits args d words small parts.0 all) (all_admit args others words small parts.1 all)

-- what an entry admits, an entry that it implies admits
pub entry_implies-admits : (e f : EntryValue) → entry_implies e f ≡ true → AdmitsAllOf f e
entry_implies-admits e f implied words small all = all_admit e.args f.args words small implied all

use Rattle.std.proofs.Common.{◌<◌, ◌≤◌, ◌^◌, ℕ, [], ◌∷◌, All, codes, arith, lit<}
use Rattle.std.proofs.lemmas.List.Elements.{All-cons, All-nil}
use Rattle.seccomp_doc.specs.Meaning.{meaning}
use Rattle.widening.proofs.RankFacts.{rank-most}
use Rattle.example_tests.specs.Examples.{allowing}
use Rattle.example_tests.proofs.examples.filters.examples_of_what_allows_no_more.Goals as goal

-- a word is one of an argument
is_word : (word : ℕ) → word < 2 ^ 64 → All (λ word. word < 2 ^ 64) (word ∷ [])
is_word word below = All-cons (λ word. word < 2 ^ 64) word [] below (All-nil (λ word. word < 2 ^ 64))

pub returns-clause-same : goal.returns-clause-same
returns-clause-same c = λ name words small. omega arith

pub returns-clause-stricter : goal.returns-clause-stricter
returns-clause-stricter c = λ name words small. omega arith

pub returns-clause-than_none : goal.returns-clause-than_none
returns-clause-than_none c = λ name words small. rank-most (meaning (allowing 1) name words)

pub returns-clause-other_argument : goal.returns-clause-other_argument
returns-clause-other_argument c = λ no_more. let k : 6 ≤ 3 = no_more (codes "ioctl") (2 ∷ []) (is_word 2 (lit< tt)) in omega (arith, k)

pub returns-clause-one_more : goal.returns-clause-one_more
returns-clause-one_more c = λ no_more. let k : 6 ≤ 0 = no_more (codes "ioctl") (1 ∷ []) (is_word 1 (lit< tt)) in omega (arith, k)

pub returns-clause-no_filter : goal.returns-clause-no_filter
returns-clause-no_filter c = λ no_more. let k : 6 ≤ 3 = no_more (codes "ioctl") (2 ∷ []) (is_word 2 (lit< tt)) in omega (arith, k)

-- Names in byte order, each once.
use Rattle.std.specs.Prelude.{ℕ, List, [], ◌∷◌}
use Rattle.std.specs.Ordering.{nat_cmp}
use Rattle.std.specs.declared.cmp.Ordering.{Ordering}
use Rattle.std.specs.declared.cmp.Ordering.TheVariants.{Less, Equal, Greater}
use Rattle.std.specs.Cmp.Lexicographic.{slice_cmp}

-- the names with one more
abbrev pub with_name : List ℕ → List (List ℕ) → List (List ℕ)
with_name name [] = name ∷ []
with_name name (first ∷ names) = placed (slice_cmp nat_cmp name first) (with_name name names)
  where
    placed : Ordering → List (List ℕ) → List (List ℕ)
    placed Less others = name ∷ first ∷ names
    placed Equal others = first ∷ names
    placed Greater others = first ∷ others

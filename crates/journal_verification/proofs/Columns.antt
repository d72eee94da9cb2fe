-- Rows that are compared column by column.
use Rattle.std.proofs.Common.{◌≡◌, ℕ, suc, ◌+◌, ◌-◌, ◌<◌, ◌≤◌, [], ◌∷◌, take, drop, length, Equal, Less, Greater, arith, refl, sym, ap, ◌∙◌, drop-cons, add-one, zero}
use Rattle.std.specs.Ordering.{ordering_then}
use Rattle.std.specs.Cmp.Lexicographic.{slice_cmp}
use Rattle.std.specs.declared.cmp.Ordering.{Ordering}
use Rattle.std.specs.declared.cmp.Ordering.TheVariants as order
use Rattle.std.proofs.lemmas.List.{drop_all}
use Rattle.sqlite.specs.Order.{Row}
use Rattle.sqlite.specs.declared.types.Value.{Value}
use Rattle.sqlite.specs.declared.types.Value.TheVariants.{Null}
use Rattle.sqlite_value.specs.Order.{column, value_cmp}

-- the first columns from a place on
abbrev rest : ℕ → ℕ → Row → Row
rest width at row = take (width - at) (drop at row)

abbrev pub rest_cmp : ℕ → ℕ → Row → Row → Ordering
rest_cmp width at left right = slice_cmp value_cmp (rest width at left) (rest width at right)

rest_there : (width at : ℕ) (row : Row) → at < width → at < length row → rest width at row ≡ column row at ∷ rest width (at + 1) row
rest_there width at row below within =
    let more : width - at ≡ suc (width - (at + 1)) = omega (arith, below) in
    λ i. take (more i) ((drop-cons row at Null within ∙ ap (λ (n : ℕ). column row at ∷ drop n row) (sym (add-one at))) i)

rest_none : (width at : ℕ) (row : Row) → length row ≤ at → rest width at row ≡ []
rest_none width at row past = ap (take (width - at)) (drop_all at row past) ∙ none (width - at)
  where
    none : (n : ℕ) → ◌≡◌ {A = Row} (take n []) []
    none zero = refl
    none (suc n) = refl

pub both_there : (width at : ℕ) (left right : Row) → at < width → at < length left → at < length right
    → rest_cmp width at left right ≡ ordering_then (value_cmp (column left at) (column right at)) (rest_cmp width (at + 1) left right)
both_there width at left right below first second = λ i. slice_cmp value_cmp (rest_there width at left below first i) (rest_there width at right below second i)

pub left_there : (width at : ℕ) (left right : Row) → at < width → at < length left → length right ≤ at → rest_cmp width at left right ≡ Greater
left_there width at left right below first second = λ i. slice_cmp value_cmp (rest_there width at left below first i) (rest_none width at right second i)

other_then : (o p : Ordering) → (o ≡ Equal → ⊥) → o ≡ ordering_then o p
other_then order.Less p other = refl
other_then order.Equal p other = absurd (other refl)
other_then order.Greater p other = refl

module _ (width at : ℕ) (left right : Row) (total : Ordering) (so_far : total ≡ rest_cmp width at left right) (below : at < width) (a b : Value) (first : (at < length left) × (a ≡ column left at))
    (second : (at < length right) × (b ≡ column right at)) (o : Ordering) (is : o ≡ value_cmp a b) where
  next : total ≡ ordering_then o (rest_cmp width (at + 1) left right)
  next = so_far ∙ both_there width at left right below first.0 second.0 ∙ sym (λ i. ordering_then ((is ∙ (λ j. value_cmp (first.1 j) (second.1 j))) i) (rest_cmp width (at + 1) left right))

  -- two columns that differ decide
  pub decided : (o ≡ Equal → ⊥) → o ≡ total
  decided other = other_then o _ other ∙ sym next

  -- and else the next do
  pub goes_on : o ≡ Equal → total ≡ rest_cmp width (at + 1) left right
  goes_on same = next ∙ ap (λ p. ordering_then p (rest_cmp width (at + 1) left right)) same

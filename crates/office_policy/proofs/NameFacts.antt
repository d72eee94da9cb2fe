-- Names in byte order, each once.
use Rattle.std.proofs.Common.{◌≡◌, ◌∙◌, ℕ, List, [], ◌∷◌, Bool, true, false, ◌||◌, refl, sym, ap, subst}
use Rattle.std.specs.Prelude.{bytes_eq}
use Rattle.std.specs.List.{list_any, AllByRecursion}
use Rattle.std.specs.List.Sorted.{IsStrictlySortedBy}
use Rattle.std.specs.Ordering.{nat_cmp, ordering_reverse}
use Rattle.std.specs.declared.cmp.Ordering.{Ordering}
use Rattle.std.specs.declared.cmp.Ordering.TheVariants.{Less, Equal, Greater}
use Rattle.std.specs.Cmp.Lexicographic.{slice_cmp}
use Rattle.std.proofs.lemmas.Cmp.{nat_list_cmp_total}
use Rattle.std.proofs.lemmas.Map.Lookups.{exact_bytes}
use Rattle.office_policy.specs.Names.{with_name}

abbrev compare : List ℕ → List ℕ → Ordering
compare = slice_cmp nat_cmp

-- each of the names is above this one
abbrev AllAbove : List ℕ → List (List ℕ) → Type 0
AllAbove low names = AllByRecursion (λ name. compare low name ≡ Less) names

-- the other way round
turned : (a b : List ℕ) → compare a b ≡ Greater → compare b a ≡ Less
turned a b greater = nat_list_cmp_total.antisymm b a ∙ ap ordering_reverse greater

-- what is above a name is above a lower one
above_lower : (low name : List ℕ) (names : List (List ℕ)) → compare low name ≡ Less → AllAbove name names → AllAbove low names
above_lower low name [] less above = tt
above_lower low name (first ∷ names) less above = (nat_list_cmp_total.trans low name first less above.0, above_lower low name names less above.1)

-- and with one more name
above_more : (low name : List ℕ) (names : List (List ℕ)) → compare low name ≡ Less → AllAbove low names → AllAbove low (with_name name names)
above_more low name [] less above = (less, tt)
above_more low name (first ∷ names) less above = placed (above_more low name names less above.1) (compare name first) refl
  where
    placed : AllAbove low (with_name name names) → (o : Ordering) → compare name first ≡ o → AllAbove low (with_name name (first ∷ names))
    placed others Less e = rw e (less, above)
    placed others Equal e = rw e above
    placed others Greater e = rw e (above.0, others)

-- names in order are so with one more
pub ordered_more : (name : List ℕ) (names : List (List ℕ)) → IsStrictlySortedBy (slice_cmp nat_cmp) names → IsStrictlySortedBy (slice_cmp nat_cmp) (with_name name names)
unfolding IsStrictlySortedBy
ordered_more name [] ordered = (tt, tt)
ordered_more name (first ∷ names) ordered = placed (ordered_more name names ordered.1) (compare name first) refl
  where
    placed : IsStrictlySortedBy (slice_cmp nat_cmp) (with_name name names) → (o : Ordering) → compare name first ≡ o
        → IsStrictlySortedBy (slice_cmp nat_cmp) (with_name name (first ∷ names))
    placed others Less e = rw e ((e, above_lower name first names e ordered.0), ordered)
    placed others Equal e = rw e ordered
    placed others Greater e = rw e (above_more first name names (turned name first e) ordered.0, others)

-- whether a name is among the names
abbrev pub has : List ℕ → List (List ℕ) → Bool
has name names = list_any (bytes_eq name) names

swapped : (a b c : Bool) → (a || (b || c)) ≡ (b || (a || c))
swapped true true c = refl
swapped true false c = refl
swapped false b c = refl

again : (a b : Bool) → (a || b) ≡ (a || (a || b))
again true b = refl
again false b = refl

-- with one more name there are that name and those before
pub among_more : (name new : List ℕ) (names : List (List ℕ)) → has name (with_name new names) ≡ (bytes_eq name new || has name names)
among_more name new [] = refl
among_more name new (first ∷ names) = placed (among_more name new names) (compare new first) refl
  where
    placed : has name (with_name new names) ≡ (bytes_eq name new || has name names) → (o : Ordering) → compare new first ≡ o
        → has name (with_name new (first ∷ names)) ≡ (bytes_eq name new || (bytes_eq name first || has name names))
    placed others Less e = rw e refl
    placed others Equal e =
        let same : new ≡ first = exact_bytes new first e in
        rw e (subst (λ x. (bytes_eq name first || has name names) ≡ (bytes_eq name x || (bytes_eq name first || has name names))) (sym same) (again (bytes_eq name first) (has name names)))
    placed others Greater e = rw e (ap (λ b. bytes_eq name first || b) others ∙ swapped (bytes_eq name first) (bytes_eq name new) (has name names))

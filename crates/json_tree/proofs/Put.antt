-- A value put at a name, in a list of members.
use Rattle.std.proofs.Common.{◌≡◌, ℕ, zero, suc, ◌-◌, ◌<◌, ◌≤◌, List, [], ◌∷◌, ◌++◌, length, take, drop, get_or, slice_set, Less, Equal, Greater, nat_cmp, Bor, refl, sym, ap, ◌∙◌, arith}
use Rattle.std.specs.Cmp.Lexicographic.{slice_cmp}
use Rattle.std.specs.List.{insert}
use Rattle.serde_json.specs.Data.{member, put}
use Rattle.json_tree.specs.Gathered.{IsRising}
use Rattle.json_tree.specs.View.{view, members_view}
use Rattle.json_tree.specs.declared.tree.Tree.{Tree}
use Rattle.json_tree.proofs.Views.{Entry, members_before, above_lower}

-- an item is the same whatever stands in for none
pub same_item : (es : List Entry) (i : ℕ) (d e : Entry) → i < length es → d ≡ get_or es i d → e ≡ get_or es i e → d ≡ e
same_item [] i d e within one other = absurd (omega (arith, within))
same_item (x ∷ es) zero d e within one other = one ∙ sym other
same_item (x ∷ es) (suc i) d e within one other = same_item es i d e (omega (arith, within)) one other

module _ (n : Bor (List ℕ)) (v : Tree) where
  -- a name below that at a place goes before it
  pub put_before : (es : List Entry) (i : ℕ) (e : Entry) → i < length es → e ≡ get_or es i e → slice_cmp nat_cmp n.now e.0.now ≡ Less
      → members_before (take i es) (put n.now (view v) (members_view (drop i es))) ≡ members_view (insert es i (n, v))
  put_before [] i e within here below = absurd (omega (arith, within))
  put_before (x ∷ es) zero e within here below = rw (ap (λ y. slice_cmp nat_cmp n.now y.0.now) (sym here) ∙ below) refl
  put_before (x ∷ es) (suc i) e within here below = ap (member x.0.now (view x.1)) (put_before es i e (omega (arith, within)) here below)

  -- the value at a name that stands at a place
  pub put_there : (es : List Entry) (i : ℕ) (e : Entry) → i < length es → e ≡ get_or es i e → slice_cmp nat_cmp n.now e.0.now ≡ Equal
      → members_before (take i es) (put n.now (view v) (members_view (drop i es))) ≡ members_view (slice_set es i (e.0, v))
  put_there [] i e within here same = absurd (omega (arith, within))
  put_there (x ∷ es) zero e within here same = rw (ap (λ y. slice_cmp nat_cmp n.now y.0.now) (sym here) ∙ same) (ap (λ y. member y.0.now (view v) (members_view es)) (sym here))
  put_there (x ∷ es) (suc i) e within here same = ap (member x.0.now (view x.1)) (put_there es i e (omega (arith, within)) here same)

  -- a name above that at a place goes after it
  pub put_after : (es : List Entry) (i : ℕ) (e : Entry) → i < length es → e ≡ get_or es i e → slice_cmp nat_cmp n.now e.0.now ≡ Greater
      → members_before (take i es) (put n.now (view v) (members_view (drop i es))) ≡ members_before (take (suc i) es) (put n.now (view v) (members_view (drop (suc i) es)))
  put_after [] i e within here above = absurd (omega (arith, within))
  put_after (x ∷ es) zero e within here above = rw (ap (λ y. slice_cmp nat_cmp n.now y.0.now) (sym here) ∙ above) refl
  put_after (x ∷ es) (suc i) e within here above = ap (member x.0.now (view x.1)) (put_after es i e (omega (arith, within)) here above)

  -- a name above all goes last
  pub put_last : (es : List Entry) (i : ℕ) → length es ≤ i → members_before (take i es) (put n.now (view v) (members_view (drop i es))) ≡ members_view (es ++ (n, v) ∷ [])
  put_last [] zero past = refl
  put_last [] (suc i) past = refl
  put_last (x ∷ es) zero past = absurd (omega (arith, past))
  put_last (x ∷ es) (suc i) past = ap (member x.0.now (view x.1)) (put_last es i (omega (arith, past)))

  -- where members rise, a name above the last is above the first, and goes last
  above_last : (x : Entry) (es : List Entry) (e : Entry) → IsRising (members_view (x ∷ es)) → e ≡ get_or (x ∷ es) (length es) e → slice_cmp nat_cmp n.now e.0.now ≡ Greater
      → (slice_cmp nat_cmp n.now x.0.now ≡ Greater) × (put n.now (view v) (members_view (x ∷ es)) ≡ members_view ((x ∷ es) ++ (n, v) ∷ []))
  above_last x [] e rising here above =
      let first : slice_cmp nat_cmp n.now x.0.now ≡ Greater = ap (λ y. slice_cmp nat_cmp n.now y.0.now) (sym here) ∙ above in
      (first, rw first refl)
  above_last x (y ∷ es) e rising here above =
      let later = above_last y es e rising.1 here above in
      let first = above_lower n.now x.0.now y.0.now rising.0 later.0 in
      (first, rw first (ap (member x.0.now (view x.1)) later.1))

  pub put_above : (es : List Entry) (e : Entry) → IsRising (members_view es) → 0 < length es → e ≡ get_or es (length es - 1) e → slice_cmp nat_cmp n.now e.0.now ≡ Greater
      → put n.now (view v) (members_view es) ≡ members_view (es ++ (n, v) ∷ [])
  put_above [] e rising some here above = absurd (omega (arith, some))
  put_above (x ∷ es) e rising some here above = (above_last x es e rising (here ∙ ap (λ i. get_or (x ∷ es) i e) (omega arith)) above).1

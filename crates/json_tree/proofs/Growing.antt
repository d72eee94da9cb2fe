-- A text that grows among bytes, one write after another.
use Rattle.std.proofs.Common.{◌≡◌, ℕ, ◌≤◌, List, ◌++◌, length, take, drop, ap, sym, ◌∙◌, arith, append-nil, length-append, length-take, length-take-le, take-take}
use Rattle.std.proofs.lemmas.List.{drop_all, take_all, take-append-le}
use Rattle.json.specs.Filled.{Placed}
use Rattle.json_tree.specs.Grows.{Grows}

-- what is placed in room that was made
pub grows_placed : {a b c xs : List ℕ} {i k : ℕ} → take i b ≡ take i a → i ≤ length b → Placed b c i xs k → Grows a i xs c k
grows_placed {a} {b} {c} {xs} {i} {k} same within p = record {
  text = p.bytes ∙ ap (λ l. l ++ xs) same;
  within = omega (arith, ap length p.bytes, length-append (take i b) xs, length-take-le i b within, length-take k c, p.moved);
}

-- it leaves the text as it was
pub placed_kept : {b c xs : List ℕ} {i k : ℕ} → i ≤ length b → Placed b c i xs k → take i c ≡ take i b
placed_kept {b} {c} {xs} {i} {k} within p =
    let long = length-take-le i b within in
    sym (take-take i k c (omega (arith, p.moved))) ∙ ap (take i) p.bytes ∙ take-append-le i (take i b) xs (omega (arith, long)) ∙ take_all i (take i b) (omega (arith, long))

-- all bytes were lent, and are what was written
pub written_back : (n : ℕ) (new items : List ℕ) → n ≡ length items → length new ≡ length items → take n (new ++ drop (length new) items) ≡ new
written_back n new items long same =
    ap (λ l. take n (new ++ l)) (drop_all (length new) items (omega (arith, same))) ∙ ap (take n) (append-nil new) ∙ take_all n new (omega (arith, long, same))

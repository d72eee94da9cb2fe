-- The lines for what was struck out, two after two.
use Rattle.std.proofs.Common.{◌≡◌, ◌∙◌, ◌<◌, ◌≤◌, ◌+◌, ◌-◌, ◌*◌, ◌%◌, ℕ, zero, suc, List, [], ◌++◌, refl, sym, ap, ap₂, subst, arith, append_assoc, append-nil}
use Rattle.journal_reports.specs.Passing.{Asked}
use Rattle.journal_reports.specs.Struck.{pair_lines, strike_of, struck_lines, struck_of}

-- two at the front
pub two_more : (asked : Asked) (behind last : ℕ) → 1 < last - behind
    → pair_lines asked behind (last - behind) ≡ struck_of asked (behind + 1) ++ strike_of asked (behind + 2) ++ pair_lines asked (behind + 2) (last - (behind + 2))
two_more asked behind last more =
    let size : last - behind ≡ suc (suc (last - (behind + 2))) = omega (arith, more) in
    ap (pair_lines asked behind) size

-- none, where no two are left
few : (asked : Asked) (behind count : ℕ) → count ≤ 1 → pair_lines asked behind count ≡ []
few asked behind zero small = refl
few asked behind (suc zero) small = refl
few asked behind (suc (suc count)) small = absurd (omega (arith, small))

-- with two more written, what is left is less by them
pub pair_written : (asked : Asked) (at last : ℕ) (old new all : List ℕ) → 1 < last - at → old ++ pair_lines asked at (last - at) ≡ all
    → new ≡ old ++ (struck_of asked (at + 1) ++ strike_of asked (at + 2)) → new ++ pair_lines asked (at + 2) (last - (at + 2)) ≡ all
pair_written asked at last old new all more before one =
    let rest = pair_lines asked (at + 2) (last - (at + 2)) in
    ap (λ t. t ++ rest) one ∙ append_assoc old (struck_of asked (at + 1) ++ strike_of asked (at + 2)) rest
    ∙ ap (λ t. old ++ t) (sym (two_more asked at last more))
    ∙ before

pub all_written : (asked : Asked) (at last : ℕ) (old all : List ℕ) → last - at ≤ 1 → old ++ pair_lines asked at (last - at) ≡ all → old ≡ all
all_written asked at last old all few_left before =
    sym (append-nil old) ∙ ap (λ t. old ++ t) (sym (few asked at (last - at) few_left)) ∙ before

-- of an even number none is left out
pub even_lines : (asked : Asked) (behind count k : ℕ) → count ≡ 2 * k → struck_lines asked behind count ≡ pair_lines asked behind count
even_lines asked behind count k even =
    let first : behind + count % 2 ≡ behind = omega (arith, even) in
    let rest : count - count % 2 ≡ count = omega (arith, even) in
    ap₂ (pair_lines asked) first rest

-- of an odd one the first is
pub odd_lines : (asked : Asked) (behind count k : ℕ) → count ≡ 2 * k + 1 → struck_lines asked behind count ≡ struck_lines asked (behind + 1) (count - 1)
odd_lines asked behind count k odd =
    let first : behind + count % 2 ≡ behind + 1 = omega (arith, odd) in
    let rest : count - count % 2 ≡ count - 1 = omega (arith, odd) in
    let even : count - 1 ≡ 2 * k = omega (arith, odd) in
    ap₂ (pair_lines asked) first rest ∙ sym (even_lines asked (behind + 1) (count - 1) k even)

-- two at the front of an even number
pub two_first : (asked : Asked) (behind last k : ℕ) → last - behind ≡ 2 * (k + 1)
    → struck_lines asked behind (last - behind) ≡ struck_of asked (behind + 1) ++ strike_of asked (behind + 2) ++ struck_lines asked (behind + 2) (last - (behind + 2))
two_first asked behind last k even =
    even_lines asked behind (last - behind) (k + 1) even
    ∙ two_more asked behind last (omega (arith, even))
    ∙ ap (λ t. struck_of asked (behind + 1) ++ strike_of asked (behind + 2) ++ t) (sym (even_lines asked (behind + 2) (last - (behind + 2)) k (omega (arith, even))))

-- Words under a mask: those that have given bits, and those of a range.
use Rattle.std.proofs.Common.{◌≡◌, ◌≢◌, ◌∙◌, ap, sym, inl, inr, ℕ, ◌+◌, ◌-◌, ◌*◌, ◌/◌, ◌%◌, ◌^◌, ◌<◌, ◌≤◌, min, max, arith}
use Rattle.std.specs.Int.{bit_at, bit_not, w64}
use Rattle.std.specs.Int.Bits.{bit_and, bit_or, and_self}
use Rattle.std.proofs.lemmas.Bool.{cases_lt}
use Rattle.std.proofs.lemmas.Nat.{and_comm, and_le_l, and-not, and_or_apart, or_disjoint, le-div, mod_below, mul-le, pow_pos, shl-shr, shr-shr, shr_split}
use Rattle.std.proofs.lemmas.Nat.Bits.{bit_at_and, bit_at_or, bit_at_not, bit_at-lt, same_from_bits, same_from_bits_below}
use Rattle.implication.specs.Sets.{SomeDiffers}

-- one bit of a word, of the mask, of the given bits and of another mask
one_bit : (x m b o : ℕ) → x < 2 → m < 2 → b < 2 → o < 2 → min b o ≡ min (max b (1 - m)) o → min x m ≡ b → min x o ≡ min b o
one_bit x m b o p q r s both has = omega arith

-- the words that have given bits under a mask
module _ (mask bits : ℕ) (mask_fits : mask < 2 ^ 64) (bits_fit : bits < 2 ^ 64) (within : bit_and bits mask ≡ bits) where
  free_apart : bit_and (bit_not w64 mask) mask ≡ 0
  free_apart = omega (arith, and-not 64 mask mask mask_fits mask_fits, and_self mask)

  bits_apart : bit_and bits (bit_not w64 mask) ≡ 0
  bits_apart = omega (arith, and-not 64 mask bits mask_fits bits_fit, and_comm mask bits, and_comm bits (bit_not w64 mask))

  -- the greatest has these bits
  pub greatest_inside : bit_and (bit_or bits (bit_not w64 mask)) mask ≡ bits
  greatest_inside = and_or_apart mask bits (bit_not w64 mask) free_apart ∙ within

  pub from_least : (word : ℕ) → bit_and word mask ≡ bits → bits ≤ word
  from_least word has = omega (arith, and_le_l word mask)

  pub to_greatest : (word : ℕ) → word < 2 ^ 64 → bit_and word mask ≡ bits → word ≤ bit_or bits (bit_not w64 mask)
  to_greatest word fits has =
      omega (arith, or_disjoint bits (bit_not w64 mask) bits_apart, and-not 64 mask word mask_fits fits, and_comm mask word, and_le_l (bit_not w64 mask) word)

  -- where the least and the greatest have the same bits under another mask, all have
  pub alike : (other : ℕ) → other < 2 ^ 64 → bit_and bits other ≡ bit_and (bit_or bits (bit_not w64 mask)) other →
      (word : ℕ) → word < 2 ^ 64 → bit_and word mask ≡ bits → bit_and word other ≡ bit_and bits other
  alike other other_fits same word fits has =
      same_from_bits_below 64 _ _ (omega (arith, and_le_l word other)) (omega (arith, and_le_l bits other)) (λ i low.
      let free = bit_not w64 mask in
      let at_ends : min (bit_at bits i) (bit_at other i) ≡ min (max (bit_at bits i) (1 - bit_at mask i)) (bit_at other i) =
      sym (bit_at_and bits other i) ∙ ap (λ x. bit_at x i) same ∙ bit_at_and (bit_or bits free) other i
      ∙ ap (λ x. min x (bit_at other i)) (bit_at_or bits free i ∙ ap (max (bit_at bits i)) (bit_at_not w64 mask i mask_fits low)) in
      let at_word : min (bit_at word i) (bit_at mask i) ≡ bit_at bits i = sym (bit_at_and word mask i) ∙ ap (λ x. bit_at x i) has in
      bit_at_and word other i
      ∙ one_bit (bit_at word i) (bit_at mask i) (bit_at bits i) (bit_at other i) (bit_at-lt word i) (bit_at-lt mask i) (bit_at-lt bits i) (bit_at-lt other i) at_ends at_word
      ∙ sym (bit_at_and bits other i))

-- the bits from k on are those of the number without its low k bits
high_bit : (a k j : ℕ) → bit_at a (k + j) ≡ bit_at (a / 2 ^ k) j
high_bit a k j = ap (λ x. x % 2) (sym (shr-shr a k j))

-- the words of a range under a mask whose lowest bit is bit k
module _ (mask k : ℕ) (lowest : bit_at mask k ≡ 1) (none_below : (i : ℕ) → i < k → bit_at mask i ≡ 0) where
  pub agree : (a b : ℕ) → a / 2 ^ k ≡ b / 2 ^ k → bit_and a mask ≡ bit_and b mask
  agree a b same = same_from_bits _ _ (λ i. elim (cases_lt i k) as (λ _. bit_at (bit_and a mask) i ≡ bit_at (bit_and b mask) i) [
    | inl low ↦ omega (arith, bit_at_and a mask i, bit_at_and b mask i, none_below i low)
    | inr high ↦
        let place : i ≡ k + (i - k) = omega arith in
        let one : bit_at a i ≡ bit_at b i =
        ap (bit_at a) place ∙ high_bit a k (i - k) ∙ ap (λ x. bit_at x (i - k)) same ∙ sym (high_bit b k (i - k)) ∙ sym (ap (bit_at b) place) in
        bit_at_and a mask i ∙ ap (λ x. min x (bit_at mask i)) one ∙ sym (bit_at_and b mask i)
  ])

  -- the first word with a greater part above the low k bits has another bit k
  pub differ : (a b : ℕ) → a ≤ b → a / 2 ^ k ≢ b / 2 ^ k → SomeDiffers mask a b
  differ a b ordered apart =
      let high = a / 2 ^ k in
      let word = (high + 1) * 2 ^ k in
      let split_a = shr_split a k in
      let split_b = shr_split b k in
      let above : high < b / 2 ^ k = omega (arith, apart, le-div high b (2 ^ k) (pow_pos k) (omega (arith, split_a))) in
      let scaled : word ≤ b / 2 ^ k * 2 ^ k = mul-le (high + 1) (2 ^ k) (b / 2 ^ k) (2 ^ k) (omega arith) (omega arith) in
      let bit_of : (x : ℕ) → bit_at (bit_and x mask) k ≡ bit_at x k = λ (x : ℕ). omega (arith, bit_at_and x mask k, bit_at-lt x k) in
      let here : bit_at word k ≡ (high + 1) % 2 = ap (λ x. x % 2) (shl-shr (high + 1) k) in
      record {
        word = word;
        from = omega (arith, split_a, mod_below a (2 ^ k) (pow_pos k));
        to = omega (arith, scaled, split_b);
        other = λ same. let next : (high + 1) % 2 ≡ high % 2 = sym here ∙ sym (bit_of word) ∙ ap (λ x. bit_at x k) same ∙ bit_of a in omega arith;
      }

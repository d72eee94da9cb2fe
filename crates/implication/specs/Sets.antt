-- Sets of words: ranges, and the words that have given bits under a mask.
use Rattle.std.specs.Prelude.{◌≡◌, ◌≢◌, ℕ, ◌≤◌, Bool, ◌&&◌, ◌==◌, nat_le, bit_and}

-- from one word to another, both included
abbrev pub is_between : ℕ → ℕ → ℕ → Bool
is_between first last word = nat_le first word && nat_le word last

-- the words with these bits under the mask
abbrev pub has_bits : ℕ → ℕ → ℕ → Bool
has_bits mask bits word = bit_and word mask == bits

-- all words of a range have the same bits under a mask
abbrev pub AllAgree : ℕ → ℕ → ℕ → Type 0
AllAgree mask first last =
    (word : ℕ) → first ≤ word → word ≤ last → bit_and word mask ≡ bit_and first mask

-- some word of the range has other bits under the mask than the first one
pub record SomeDiffers (mask first last : ℕ) : Type 0 where
  pub word : ℕ
  pub from : first ≤ word
  pub to : word ≤ last
  pub other : bit_and word mask ≢ bit_and first mask

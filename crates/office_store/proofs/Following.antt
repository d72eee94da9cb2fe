-- The names that follow a name.
use Rattle.std.proofs.Common.{◌≡◌, ◌<◌, ℕ, List, [], ◌∷◌, ◌++◌, true, Ordering, Less, Equal, Greater, refl, arith}
use Rattle.std.specs.Prelude.{◌&&◌, nat_le, length}
use Rattle.std.specs.List.{list_all}
use Rattle.std.specs.Ordering.{nat_cmp, ordering_then}
use Rattle.std.proofs.lemmas.Bool.Decides.{nat_tests}
use Rattle.office_words.specs.Words.{is_word, is_word_byte}
use Rattle.office_words.specs.Lists.{name_cmp}
use Rattle.office_store.proofs.Columns.{both_true}

byte_above : (b : ℕ) → is_word_byte b ≡ true → 32 < b
byte_above b e = grind (arith, nat_tests)

space_first : (b : ℕ) → 32 < b → nat_cmp 32 b ≡ Less
space_first b above = grind (arith, nat_tests)

-- after a first comparison the rest says the same
then_to : (o p q : Ordering) → (p ≡ Less → q ≡ Less) → ordering_then o p ≡ Less → ordering_then o q ≡ Less
then_to Less p q to e = refl
then_to Equal p q to e = to e
then_to Greater p q to e = absurd cc

then_first : (o p : Ordering) → o ≡ Less → ordering_then o p ≡ Less
then_first Less p e = refl
then_first Equal p e = absurd cc
then_first Greater p e = absurd cc

abbrev with_space : List ℕ → List ℕ
with_space name = name ++ 32 ∷ []

from_space : (a b : List ℕ) → name_cmp (with_space a) b ≡ Less → name_cmp a b ≡ Less
from_space [] [] e = absurd cc
from_space [] (y ∷ b) e = refl
from_space (x ∷ a) [] e = absurd cc
from_space (x ∷ a) (y ∷ b) e = then_to (nat_cmp x y) _ _ (from_space a b) e

to_space : (a b : List ℕ) → list_all is_word_byte b ≡ true → name_cmp a b ≡ Less → name_cmp (with_space a) b ≡ Less
to_space [] [] bytes e = absurd cc
to_space [] (y ∷ b) bytes e = then_first (nat_cmp 32 y) _ (space_first y (byte_above y (both_true (is_word_byte y) (list_all is_word_byte b) bytes).0))
to_space (x ∷ a) [] bytes e = absurd cc
to_space (x ∷ a) (y ∷ b) bytes e = then_to (nat_cmp x y) _ _ (to_space a b (both_true (is_word_byte y) (list_all is_word_byte b) bytes).1) e

word_bytes : (b : List ℕ) → is_word b ≡ true → list_all is_word_byte b ≡ true
unfolding is_word
word_bytes b word = (both_true (nat_le 1 (length b) && nat_le (length b) 64) (list_all is_word_byte b) word).1

-- no word stands between a name and the name with a space
pub after_space : (a b : List ℕ) → name_cmp (a ++ 32 ∷ []) b ≡ Less → name_cmp a b ≡ Less
after_space a b e = from_space a b e

pub before_space : (a b : List ℕ) → is_word b ≡ true → name_cmp a b ≡ Less → name_cmp (a ++ 32 ∷ []) b ≡ Less
before_space a b word e = to_space a b (word_bytes b word) e

-- each word comes after the empty text
pub after_nothing : (b : List ℕ) → is_word b ≡ true → name_cmp [] b ≡ Less
unfolding is_word
after_nothing [] word = absurd cc
after_nothing (y ∷ b) word = refl

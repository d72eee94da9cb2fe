-- What a test of one column says of it, and the forms of columns.
use Rattle.std.proofs.Common.{◌≡◌, ℕ, ℤ, pos, zero, suc, ◌<◌, List, [], ◌∷◌, Bool, true, false, cond, refl, sym, ap, ◌∙◌, arith}
use Rattle.std.specs.Prelude.{bytes_eq, ◌&&◌, ◌||◌, ◌==◌, IsUtf8, length, nat_le}
use Rattle.std.specs.List.{list_all}
use Rattle.std.specs.Str.{IsAscii}
use Rattle.std.specs.Ordering.{is_eq, int_cmp}
use Rattle.std.proofs.lemmas.Str.{IsUtf8-from_ascii}
use Rattle.std.specs.Cmp.{both_ways}
use Rattle.std.proofs.lemmas.Bool.Decides.{nat_tests}
use Rattle.std.proofs.lemmas.Map.Text.{is_eq-slice_cmp}
use Rattle.std.proofs.lemmas.Slice.Eq.{bytes_eq-Decides}
use Rattle.sqlite_tied.proofs.RuleLemmas.{and_true}
use Rattle.sqlite.specs.declared.types.Value.{Value}
use Rattle.sqlite.specs.declared.types.Value.TheVariants.{Null, Int, Text, Blob}
use Rattle.sqlite.specs.Cast.{cast}
use Rattle.sqlite.specs.Kind.TheVariants.{Integer}
use Rattle.sqlite.specs.Term.{Term, col, op2}
use Rattle.sqlite.specs.Ops.{unary, binary, is_true}
use Rattle.sqlite_sql.specs.declared.ops.BinaryOp.TheVariants.{Compare}
use Rattle.sqlite_sql.specs.declared.ops.CompareOp.TheVariants.{Eq}
use Rattle.sqlite.specs.Collation.TheVariants.{Binary}
use Rattle.sqlite_value.specs.Order.{value_cmp}
use Rattle.sqlite_value.proofs.OrderLemmas.{value_cmp-Int, value_cmp-Text, value_cmp-Blob}
use Rattle.office_words.specs.Words.{is_word, is_word_byte}
use Rattle.office_rows.proofs.Plain.{from_test}

-- a column of the table's row is a parameter
abbrev pub column_is : ℕ → ℕ → Term
column_is c p = op2 (Compare Eq Binary) (col 1 c) (col 0 p)

bytes_eq_sym : (a b : List ℕ) → bytes_eq a b ≡ bytes_eq b a
bytes_eq_sym a b = both_ways _ _ (λ e. (bytes_eq-Decides b a).1 (sym ((bytes_eq-Decides a b).0 e))) (λ e. (bytes_eq-Decides a b).1 (sym ((bytes_eq-Decides b a).0 e)))

pub text_is : (a b : List ℕ) → is_true (binary (Compare Eq Binary) (Text a) (Text b)) ≡ bytes_eq b a
unfolding binary
text_is a b = from_test _ ∙ ap is_eq (value_cmp-Text a b) ∙ is_eq-slice_cmp a b ∙ bytes_eq_sym a b

pub blob_is : (a b : List ℕ) → is_true (binary (Compare Eq Binary) (Blob a) (Blob b)) ≡ bytes_eq b a
unfolding binary
blob_is a b = from_test _ ∙ ap is_eq (value_cmp-Blob a b) ∙ is_eq-slice_cmp a b ∙ bytes_eq_sym a b

same_number : (a b : ℕ) → is_eq (int_cmp (pos a) (pos b)) ≡ (b == a)
same_number a b = grind (arith, nat_tests)

pub number_is : (a b : ℕ) → is_true (binary (Compare Eq Binary) (Int (pos a)) (Int (pos b))) ≡ (b == a)
unfolding binary
number_is a b = from_test _ ∙ ap is_eq (value_cmp-Int (pos a) (pos b)) ∙ same_number a b

-- rowids as the key of a table compares them
pub rowid_is : (a b : ℤ) → is_true (binary (Compare Eq Binary) (Int a) (Int b)) ≡ is_eq (value_cmp (Int a) (Int b))
unfolding binary
rowid_is a b = from_test _

pub or_false : (a : Bool) → (a || false) ≡ a
or_false true = refl
or_false false = refl

pub one_is : (a x : Bool) → a ≡ x → (a && true) ≡ x
one_is a x e = and_true a ∙ e

pub two_are : (a b x y : Bool) → a ≡ x → b ≡ y → (a && (b && true)) ≡ (x && y)
two_are a b x y e f = λ i. e i && one_is b y f i

regroup : (x y z : Bool) → (x && (y && z)) ≡ ((x && y) && z)
regroup true y z = refl
regroup false y z = refl

pub three_are : (a b c x y z : Bool) → a ≡ x → b ≡ y → c ≡ z → (a && (b && (c && true))) ≡ ((x && y) && z)
three_are a b c x y z e f g = (λ i. e i && two_are b c y z f g i) ∙ regroup x y z

pub four_are : (a b c d x y z w : Bool) → a ≡ x → b ≡ y → c ≡ z → d ≡ w → (a && (b && (c && (d && true)))) ≡ (((x && y) && z) && w)
four_are a b c d x y z w e f g h = (λ i. e i && three_are b c d y z w f g h i) ∙ regroup x (y && z) w ∙ (λ i. regroup x y z i && w)

-- ---- the bytes of a word are ASCII

byte_below : (b : ℕ) → is_word_byte b ≡ true → b < 128
byte_below b e = grind (arith, nat_tests)

pub both_true : (a b : Bool) → (a && b) ≡ true → (a ≡ true) × (b ≡ true)
both_true true b e = (refl, e)
both_true false b e = absurd cc

bytes_below : (bytes : List ℕ) → list_all is_word_byte bytes ≡ true → IsAscii bytes
bytes_below [] all i = omega arith
bytes_below (b ∷ bytes) all zero = byte_below b (both_true (is_word_byte b) (list_all is_word_byte bytes) all).0
bytes_below (b ∷ bytes) all (suc i) = bytes_below bytes (both_true (is_word_byte b) (list_all is_word_byte bytes) all).1 i

pub word_is_utf8 : (bytes : List ℕ) → is_word bytes ≡ true → IsUtf8 bytes
unfolding is_word
word_is_utf8 bytes e = IsUtf8-from_ascii bytes (bytes_below bytes (both_true (nat_le 1 (length bytes) && nat_le (length bytes) 64) (list_all is_word_byte bytes) e).1)

-- ---- a column of a STRICT table keeps a value of its kind

either : (b : Bool) (x : Value) → cond b x x ≡ x
either true x = refl
either false x = refl

pub cast_null : cast Integer Null ≡ Null
unfolding unary
cast_null = either _ Null

pub cast_int : (z : ℤ) → cast Integer (Int z) ≡ Int z
unfolding unary
cast_int z = either _ (Int z)

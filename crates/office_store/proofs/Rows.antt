-- A row is the list of its columns.
use Rattle.std.proofs.Common.{◌≡◌, [], ◌∷◌, length, arith}
use Rattle.sqlite.specs.Order.{Row}
use Rattle.sqlite.specs.declared.types.Value.{Value}
use Rattle.sqlite_value.specs.Order.{column}

pub one_column : (row : Row) (a : Value) → length row ≡ 1 → column row 0 ≡ a → row ≡ a ∷ []
one_column [] a long p = absurd (omega (arith, long))
one_column (k ∷ []) a long p = λ i. p i ∷ []
one_column (k ∷ l ∷ row) a long p = absurd (omega (arith, long))

pub two_columns : (row : Row) (a b : Value) → length row ≡ 2 → column row 0 ≡ a → column row 1 ≡ b → row ≡ a ∷ b ∷ []
two_columns [] a b long p q = absurd (omega (arith, long))
two_columns (k ∷ row) a b long p q = λ i. p i ∷ one_column row b (omega (arith, long)) q i

pub three_columns : (row : Row) (a b c : Value) → length row ≡ 3 → column row 0 ≡ a → column row 1 ≡ b → column row 2 ≡ c → row ≡ a ∷ b ∷ c ∷ []
three_columns [] a b c long p q r = absurd (omega (arith, long))
three_columns (k ∷ row) a b c long p q r = λ i. p i ∷ two_columns row b c (omega (arith, long)) q r i

pub four_columns : (row : Row) (a b c d : Value) → length row ≡ 4 → column row 0 ≡ a → column row 1 ≡ b → column row 2 ≡ c → column row 3 ≡ d → row ≡ a ∷ b ∷ c ∷ d ∷ []
four_columns [] a b c d long p q r s = absurd (omega (arith, long))
four_columns (k ∷ row) a b c d long p q r s = λ i. p i ∷ three_columns row b c d (omega (arith, long)) q r s i

pub five_columns : (row : Row) (a b c d e : Value) → length row ≡ 5 → column row 0 ≡ a → column row 1 ≡ b → column row 2 ≡ c → column row 3 ≡ d → column row 4 ≡ e → row ≡ a ∷ b ∷ c ∷ d ∷ e ∷ []
five_columns [] a b c d e long p q r s t = absurd (omega (arith, long))
five_columns (k ∷ row) a b c d e long p q r s t = λ i. p i ∷ four_columns row b c d e (omega (arith, long)) q r s t i

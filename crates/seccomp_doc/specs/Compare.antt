-- Comparisons, as in seccomp_rule_add(3), over unsigned numbers.
use Rattle.std.specs.Prelude.{ℕ, List, [], ◌∷◌, Bool, true, false, not, Option, ◌==◌, nat_lt}
use Rattle.std.specs.Prelude.{nat_le, find, bytes_eq, bit_and, codes}
use Rattle.seccomp_doc.specs.declared.compare.Op.{Op}
use Rattle.seccomp_doc.specs.declared.compare.Op.TheVariants.{NotEqual, LessThan, LessOrEqual}
use Rattle.seccomp_doc.specs.declared.compare.Op.TheVariants.{Equal, GreaterOrEqual, GreaterThan}
use Rattle.seccomp_doc.specs.declared.compare.Op.TheVariants.{MaskedEqual}
use Rattle.seccomp_doc.specs.declared.compare.Compare.{Compare}

-- each operator's name, as libseccomp spells it
abbrev pub op_text : Op → List ℕ
op_text NotEqual = codes "SCMP_CMP_NE"
op_text LessThan = codes "SCMP_CMP_LT"
op_text LessOrEqual = codes "SCMP_CMP_LE"
op_text Equal = codes "SCMP_CMP_EQ"
op_text GreaterOrEqual = codes "SCMP_CMP_GE"
op_text GreaterThan = codes "SCMP_CMP_GT"
op_text MaskedEqual = codes "SCMP_CMP_MASKED_EQ"

abbrev pub ops : List Op
ops = NotEqual ∷ LessThan ∷ LessOrEqual ∷ Equal ∷ GreaterOrEqual ∷ GreaterThan ∷ MaskedEqual ∷ []

-- the operator of a name
unfoldable pub op_named : List ℕ → Option Op
op_named text = find (λ op. bytes_eq text (op_text op)) ops

-- the operator with a second value
abbrev pub is_masked : Op → Bool
is_masked MaskedEqual = true
is_masked _ = false

-- whether an operator holds of a word, beside a value and, where it is masked, a second value
abbrev pub op_holds : Op → ℕ → ℕ → ℕ → Bool
op_holds NotEqual word value two = not (word == value)
op_holds LessThan word value two = nat_lt word value
op_holds LessOrEqual word value two = nat_le word value
op_holds Equal word value two = word == value
op_holds GreaterOrEqual word value two = nat_le value word
op_holds GreaterThan word value two = nat_lt value word
op_holds MaskedEqual word value two = bit_and word value == bit_and two value

-- the set of words that a comparison admits, by its test
abbrev pub admits : Compare → ℕ → Bool
admits c word = op_holds c.op word c.value c.value_two

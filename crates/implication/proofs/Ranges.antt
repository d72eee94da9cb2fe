-- Operators whose words are a range.
use Rattle.std.proofs.Common.{◌≡◌, ℕ, ◌≤◌, Bool, true, false, arith}
use Rattle.std.proofs.lemmas.Bool.Decides.{nat_tests}
use Rattle.seccomp_doc.specs.declared.compare.Op.{Op}
use Rattle.seccomp_doc.specs.declared.compare.Op.TheVariants.{NotEqual, LessThan, LessOrEqual, Equal, GreaterOrEqual, GreaterThan, MaskedEqual}
use Rattle.seccomp_doc.specs.Compare.{op_holds}

-- all but NE and the mask
abbrev pub has_range : Op → Bool
has_range NotEqual = false
has_range MaskedEqual = false
has_range _ = true

-- they admit what lies between two words that they admit
pub between : (op : Op) (value two first last word : ℕ) → has_range op ≡ true → first ≤ word → word ≤ last →
    op_holds op first value two ≡ true → op_holds op last value two ≡ true → op_holds op word value two ≡ true
between NotEqual value two first last word range low high p q = cc
between LessThan value two first last word range low high p q = grind (arith, nat_tests)
between LessOrEqual value two first last word range low high p q = grind (arith, nat_tests)
between Equal value two first last word range low high p q = grind (arith, nat_tests)
between GreaterOrEqual value two first last word range low high p q = grind (arith, nat_tests)
between GreaterThan value two first last word range low high p q = grind (arith, nat_tests)
between MaskedEqual value two first last word range low high p q = cc

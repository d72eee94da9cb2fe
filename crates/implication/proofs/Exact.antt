-- Answers about ranges and masks that are true where all is as stated, and false where something isn't.
use Rattle.std.proofs.Common.{◌≡◌, ◌≢◌, ◌∙◌, ap, refl, sym, subst, ℕ, ◌/◌, ◌^◌, ◌<◌, ◌≤◌, Bool, true, false, nat_lt, nat_le, ◌==◌, MatchBool, arith}
use Rattle.std.specs.Int.{bit_at, bit_not, w64}
use Rattle.std.specs.Int.Bits.{bit_and, bit_or, and_self}
use Rattle.std.proofs.lemmas.Bool.{and_from, and_parts, eq-eqb, eqb-false, eqb-true, leb-true, le-leb, ltb-false, ltb-true, ne_eqb, not_from_false, not_from_true}
use Rattle.std.proofs.lemmas.Nat.{and_assoc, le-div, or_lt, pow_pos, shr_split}
use Rattle.seccomp_doc.specs.declared.compare.Op.{Op}
use Rattle.seccomp_doc.specs.declared.compare.Op.TheVariants.{NotEqual, MaskedEqual}
use Rattle.seccomp_doc.specs.declared.compare.Compare.{Compare}
use Rattle.seccomp_doc.specs.Compare.{admits, op_holds}
use Rattle.implication.specs.Implication.{TellsAllAdmitted}
use Rattle.implication.specs.Sets.{AllAgree, SomeDiffers, has_bits, is_between}
use Rattle.implication.proofs.Masks.{agree, alike, differ, from_least, greatest_inside, to_greatest}
use Rattle.implication.proofs.Ranges.{between}

pub masked_twice : (mask datum : ℕ) → bit_and (bit_and datum mask) mask ≡ bit_and datum mask
masked_twice mask datum = and_assoc mask datum mask ∙ ap (bit_and datum) (and_self mask)

-- NE, of a range that doesn't end before the value
pub not_equal_exact : (first last : ℕ) (d : Compare) → d.op ≡ NotEqual → last < 2 ^ 64 → first ≤ d.value →
    (answer : Bool) → nat_lt last d.value ≡ answer → TellsAllAdmitted answer (is_between first last) d
not_equal_exact first last d is small low true below = λ word fits inside.
    let parts = and_parts (nat_le first word) (nat_le word last) inside in
    let apart : word ≢ d.value = omega (arith, ltb-true last d.value below, leb-true word last parts.1) in
    subst (λ (op : Op). op_holds op word d.value d.value_two ≡ true) (sym is) (not_from_false (word == d.value) (ne_eqb word d.value apart))
not_equal_exact first last d is small low false within =
    let high = ltb-false last d.value within in
    record {
      word = d.value;
      small = omega arith;
      inside = and_from (nat_le first d.value) (nat_le d.value last) (le-leb first d.value low) (le-leb d.value last high);
      refused = subst (λ (op : Op). op_holds op d.value d.value d.value_two ≡ false) (sym is) (not_from_true (d.value == d.value) (eq-eqb d.value d.value refl));
    }

-- where the words of a range have one part above the lowest bit of the mask
pub agree_exact : (mask k first last : ℕ) → bit_at mask k ≡ 1 → ((i : ℕ) → i < k → bit_at mask i ≡ 0) → first ≤ last →
    (answer : Bool) → first / 2 ^ k == last / 2 ^ k ≡ answer → MatchBool answer (AllAgree mask first last) (SomeDiffers mask first last)
agree_exact mask k first last lowest none_below ordered true same = λ word low high.
    let low_part : first / 2 ^ k ≤ word / 2 ^ k = le-div (first / 2 ^ k) word (2 ^ k) (pow_pos k) (omega (arith, shr_split first k)) in
    let high_part : word / 2 ^ k ≤ last / 2 ^ k = le-div (word / 2 ^ k) last (2 ^ k) (pow_pos k) (omega (arith, shr_split word k)) in
    agree mask k lowest none_below word first (omega (arith, eqb-true (first / 2 ^ k) (last / 2 ^ k) same))
agree_exact mask k first last lowest none_below ordered false apart = differ mask k lowest none_below first last ordered (eqb-false (first / 2 ^ k) (last / 2 ^ k) apart)

-- the operators but NE admit all words under a mask where they admit the least and the greatest
mask_holds : (mask bits : ℕ) → mask < 2 ^ 64 → bits < 2 ^ 64 → bit_and bits mask ≡ bits → (op : Op) (value two : ℕ) → value < 2 ^ 64 → op ≢ NotEqual →
    op_holds op bits value two ≡ true → op_holds op (bit_or bits (bit_not w64 mask)) value two ≡ true →
    (word : ℕ) → word < 2 ^ 64 → bit_and word mask ≡ bits → op_holds op word value two ≡ true
mask_holds mask bits mask_fits bits_fit within NotEqual value two fits not_ne least greatest word small has = absurd (not_ne refl)
mask_holds mask bits mask_fits bits_fit within MaskedEqual value two fits not_ne least greatest word small has =
    let same = eqb-true (bit_and bits value) (bit_and two value) least in
    let same_end = eqb-true (bit_and (bit_or bits (bit_not w64 mask)) value) (bit_and two value) greatest in
    eq-eqb (bit_and word value) (bit_and two value) (alike mask bits mask_fits bits_fit within value fits (same ∙ sym same_end) word small has ∙ same)
mask_holds mask bits mask_fits bits_fit within op value two fits not_ne least greatest word small has =
    between op value two bits (bit_or bits (bit_not w64 mask)) word refl
    (from_least mask bits mask_fits bits_fit within word has) (to_greatest mask bits mask_fits bits_fit within word small has) least greatest

-- a comparison but NE, of the words that have given bits under a mask, by the greatest of them where it admits the least
pub mask_exact : (mask bits : ℕ) → mask < 2 ^ 64 → bits < 2 ^ 64 → bit_and bits mask ≡ bits → (d : Compare) → d.value < 2 ^ 64 → d.op ≢ NotEqual → admits d bits ≡ true →
    (answer : Bool) → admits d (bit_or bits (bit_not w64 mask)) ≡ answer → TellsAllAdmitted answer (has_bits mask bits) d
mask_exact mask bits mask_fits bits_fit within d fits not_ne least true greatest = λ word small inside.
    mask_holds mask bits mask_fits bits_fit within d.op d.value d.value_two fits not_ne least greatest word small (eqb-true (bit_and word mask) bits inside)
mask_exact mask bits mask_fits bits_fit within d fits not_ne least false greatest =
    let word = bit_or bits (bit_not w64 mask) in
    record {
      word = word;
      small = or_lt 64 bits (bit_not w64 mask) bits_fit (omega arith);
      inside = eq-eqb (bit_and word mask) bits (greatest_inside mask bits mask_fits bits_fit within);
      refused = greatest;
    }

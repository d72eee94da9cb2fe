-- Bytes that need no escape stand for themselves.
use Rattle.std.proofs.Common.{◌≡◌, ℕ, zero, suc, ◌+◌, ◌-◌, ◌*◌, ◌/◌, ◌^◌, ◌<◌, ◌≤◌, Bool, true, false, not, cond, ◌||◌, ◌==◌, List, [], ◌∷◌, ◌++◌, map, take, drop, length, get_or, refl, sym, ap, ap₂, ◌∙◌, arith, append_assoc, drop-drop, get_or-drop, length-drop}
use Rattle.std.proofs.Math.Nat.{pow-suc, mul_comm, div-one, zero-div, div-div-eq-div-mul}
use Rattle.std.proofs.lemmas.Bool.{and_parts, or_parts, not-true, eqb-false, ltb-false}
use Rattle.std.proofs.Math.Seq.{drop-append_seam, take-append-add}
use Rattle.std.proofs.lemmas.List.{append-nil, drop_all, drop_more, drop-map, drop-take, length-take-le, take_all, take-take}
use Rattle.std.proofs.lemmas.Simd.{leading_from_mask_l, trailing_mask_l}
use Rattle.std.specs.List.{list_all, prefix_len}
use lib.Count.{count_trailing_zeros}
use lib.Lanes.{mask_l}
use Rattle.json.specs.Run.{is_plain, is_stop}
use Rattle.json.specs.Print.{escape, escape_byte}
use Rattle.json.proofs.Printed.Strings.{escape_byte_plain}

plain_byte : (x : ℕ) → is_plain x ≡ true → escape_byte x ≡ x ∷ []
plain_byte x is =
    let none = or_parts ((x == 34) || (x == 92)) _ (not-true _ is) in
    let tests = or_parts (x == 34) _ none.0 in
    escape_byte_plain x (eqb-false x 34 tests.0) (eqb-false x 92 tests.1) (ltb-false x 32 none.1)

first_plain : (b : Bool) (k n : ℕ) → suc n ≤ cond b (1 + k) 0 → (b ≡ true) × (n ≤ k)
first_plain true k n h = (refl, omega arith)
first_plain false k n h = absurd (omega arith)

plain_count : (b : Bool) (k n : ℕ) → b ≡ true → suc n ≡ cond b (1 + k) 0 → n ≡ k
plain_count true k n is h = omega (arith, h)
plain_count false k n is h = absurd (omega (arith, h))

-- of the first m bytes, the first n need no escape
plain_first : (n m : ℕ) (xs : List ℕ) → n ≤ prefix_len is_plain (take m xs) → escape xs ≡ take n xs ++ escape (drop n xs)
plain_first zero m xs h = refl
plain_first (suc n) zero xs h = absurd (omega arith)
plain_first (suc n) (suc m) [] h = refl
plain_first (suc n) (suc m) (x ∷ xs) h =
    let first = first_plain (is_plain x) (prefix_len is_plain (take m xs)) n h in
    ap₂ (λ a b. a ++ b) (plain_byte x first.0) (plain_first n m xs first.1)

plain_front : (d : List ℕ) (i m n : ℕ) → n ≡ prefix_len is_plain (take m (drop i d)) → escape (drop i d) ≡ take n (drop i d) ++ escape (drop (i + n) d)
plain_front d i m n is =
    let next : drop n (drop i d) ≡ drop (i + n) d = drop-drop n i d in
    plain_first n m (drop i d) (omega arith) ∙ ap (λ l. take n (drop i d) ++ escape l) next

-- where the first n bytes are plain, and the next is, the first n + 1 are
pub plain_more : (n : ℕ) (xs : List ℕ) (d : ℕ) → n ≡ prefix_len is_plain (take n xs) → n < length xs → is_plain (get_or xs n d) ≡ true → suc n ≡ prefix_len is_plain (take (suc n) xs)
plain_more n [] d is lt plain = absurd (omega arith)
plain_more zero (x ∷ xs) d is lt plain = rw (plain) refl
plain_more (suc n) (x ∷ xs) d is lt plain =
    let first = first_plain (is_plain x) (prefix_len is_plain (take n xs)) n (omega (arith, is)) in
    let rest = plain_more n xs d (plain_count (is_plain x) _ n first.0 is) (omega (arith, lt)) plain in
    rw (first.0, ← rest) (omega arith)

-- where all bytes are plain, the text stands for itself
pub plain_whole : (text : List ℕ) → list_all is_plain text ≡ true → escape text ≡ text
plain_whole [] all = refl
plain_whole (x ∷ xs) all =
    let parts = and_parts (is_plain x) (list_all is_plain xs) all in
    ap₂ (λ a b. a ++ b) (plain_byte x parts.0) (plain_whole xs parts.1)

-- and so they are up to the byte behind
pub plain_next : (text : List ℕ) (at end d : ℕ) → at ≤ end → end - at ≡ prefix_len is_plain (take (end - at) (drop at text)) → end < length text
    → is_plain (get_or text end d) ≡ true → end + 1 - at ≡ prefix_len is_plain (take (end + 1 - at) (drop at text))
plain_next text at end d from is lt plain =
    let n = end - at in
    let next : end + 1 - at ≡ suc n = omega (arith, from) in
    let place : at + n ≡ end = omega (arith, from) in
    let byte : is_plain (get_or (drop at text) n d) ≡ true = ap is_plain (get_or-drop at text n d ∙ ap (λ i. get_or text i d) place) ∙ plain in
    rw (next) (plain_more n (drop at text) d is (omega (arith, length-drop at text, from, lt)) byte)

pub plain_until : (text : List ℕ) (at end : ℕ) → at ≤ end → end - at ≡ prefix_len is_plain (take (end - at) (drop at text))
    → escape (drop at text) ≡ take (end - at) (drop at text) ++ escape (drop end text)
plain_until text at end from is =
    let place : at + (end - at) ≡ end = omega (arith, from) in
    plain_front text at (end - at) (end - at) is ∙ ap (λ i. take (end - at) (drop at text) ++ escape (drop i text)) place

-- ---- a block's mask

halved : (b : Bool) (n : ℕ) → (cond b 1 0 + 2 * n) / 2 ≡ n
halved true n = omega arith
halved false n = omega arith

mask_l-drop : (n : ℕ) (ms : List Bool) → mask_l ms / 2 ^ n ≡ mask_l (drop n ms)
mask_l-drop zero ms = div-one (mask_l ms)
mask_l-drop (suc n) [] = zero-div (2 ^ suc n)
mask_l-drop (suc n) (m ∷ ms) =
    ap (λ k. mask_l (m ∷ ms) / k) (pow-suc 2 n ∙ mul_comm (2 ^ n) 2) ∙ sym (div-div-eq-div-mul (mask_l (m ∷ ms)) 2 (2 ^ n))
    ∙ ap (λ k. k / 2 ^ n) (halved m (mask_l ms)) ∙ mask_l-drop n ms

-- shifted by n, a mask is that of the bytes from the n-th on
mask_rest : (n k at : ℕ) (text : List ℕ) → mask_l (map is_stop (take (n + k) (drop at text))) / 2 ^ n ≡ mask_l (map is_stop (take k (drop (at + n) text)))
mask_rest n k at text =
    mask_l-drop n (map is_stop (take (n + k) (drop at text)))
    ∙ ap mask_l (drop-map is_stop n (take (n + k) (drop at text)))
    ∙ ap (λ l. mask_l (map is_stop l)) (drop-take n k (drop at text) ∙ ap (take k) (drop-drop n at text))

-- Where the mask of the last block has no bit for the bytes that were appended last, they are plain.
short_plain : (out text : List ℕ) (from mask : ℕ) → length text ≤ 16 → from + 16 ≡ length out + length text
    → mask ≡ mask_l (map is_stop (take 16 (drop from (out ++ text)))) → mask / 2 ^ (16 - length text) ≡ 0 → escape text ≡ text
short_plain out text from mask short place is none =
    let n = 16 - length text in
    let k = length text in
    let long : 16 ≡ n + k = omega (arith, short) in
    let seam : from + n ≡ length out = omega (arith, place, short) in
    let own : take k (drop (from + n) (out ++ text)) ≡ text =
    ap (λ i. take k (drop i (out ++ text))) seam ∙ ap (take k) (drop-append_seam out text) ∙ take_all k text (omega arith) in
    let rest = mask_rest n k from (out ++ text) in
    let shifted : mask_l (map is_stop text) ≡ 0 =
    ap (λ l. mask_l (map is_stop l)) (sym own) ∙ sym rest
    ∙ ap (λ i. mask_l (map is_stop (take i (drop from (out ++ text)))) / 2 ^ n) (sym long) ∙ ap (λ m. m / 2 ^ n) (sym is) ∙ none in
    let all = leading_from_mask_l is_stop text shifted in
    let whole : take k text ≡ text = take_all k text (omega arith) in
    plain_first k k text (omega (arith, ap (λ l. prefix_len is_plain l) whole, all))
    ∙ ap₂ (λ a b. a ++ escape b) whole (drop_all k text (omega arith)) ∙ append-nil text

-- The same of bytes among which the text was put behind others.
pub short_placed : (out text bytes : List ℕ) (end mask : ℕ) → length text ≤ 16 → 16 ≤ end → end ≡ length out + length text → take end bytes ≡ out ++ text
    → mask ≡ mask_l (map is_stop (take 16 (drop (end - 16) bytes))) → mask / 2 ^ (16 - length text) ≡ 0 → escape text ≡ text
short_placed out text bytes end mask short long place put is none =
    let from = end - 16 in
    let whole : end ≡ from + 16 = omega (arith, long) in
    let block : take 16 (drop from (out ++ text)) ≡ take 16 (drop from bytes) =
    ap (λ l. take 16 (drop from l)) (sym put) ∙ ap (λ n. take 16 (drop from (take n bytes))) whole
    ∙ ap (take 16) (drop-take from 16 bytes) ∙ take-take 16 16 (drop from bytes) (omega arith) in
    short_plain out text from mask short (omega (arith, whole, place)) (is ∙ ap (λ l. mask_l (map is_stop l)) (sym block)) none

sooner : (b : Bool) (n m l : ℕ) → 0 < cond b 1 0 + 2 * n → (0 < n → m < l) → cond (not b) (1 + m) 0 < suc l
sooner true n m l some rest = omega arith
sooner false n m l some rest = omega (arith, rest (omega arith))

stop_within : (xs : List ℕ) → 0 < mask_l (map is_stop xs) → prefix_len is_plain xs < length xs
stop_within [] some = absurd (omega arith)
stop_within (x ∷ xs) some = sooner (is_stop x) (mask_l (map is_stop xs)) _ _ some (stop_within xs)

-- The bytes from `at` up to `end`, at most 16, have the mask `found`.
abbrev pub Masks : List ℕ → ℕ → ℕ → ℕ → Type 0
Masks text at end found = (at ≤ end) × (end ≤ length text) × (end - at ≤ 16) × (found ≡ mask_l (map is_stop (take (end - at) (drop at text))))

module _ (text : List ℕ) (at end found : ℕ) (is : Masks text at end found) where
  abbrev block : List ℕ
  block = take (end - at) (drop at text)

  block_long : length block ≡ end - at
  block_long = length-take-le (end - at) (drop at text) (omega (arith, is.0, is.1, length-drop at text))

  -- with no bit, all of them are plain
  pub none_put : (out front : List ℕ) → found ≡ 0 → front ≡ out ++ take (end - at) (drop at text) → front ++ escape (drop end text) ≡ out ++ escape (drop at text)
  none_put out front none p =
      let all = sym (leading_from_mask_l is_stop block (sym is.3 ∙ none) ∙ block_long) in
      ap (λ l. l ++ escape (drop end text)) p ∙ append_assoc out block (escape (drop end text)) ∙ ap (λ l. out ++ l) (sym (plain_until text at end is.0 all))

  module _ (some : 0 < found) where
    abbrev plain : ℕ
    plain = count_trailing_zeros 64 found

    any : 0 < mask_l (map is_stop block)
    any = omega (arith, some, is.3)

    first : plain ≡ prefix_len is_plain block
    first = ap (count_trailing_zeros 64) is.3 ∙ trailing_mask_l is_stop 64 block (omega (arith, block_long, is.2)) any

    pub found_within : at + plain < end
    found_within = omega (arith, first, stop_within block any, block_long, is.0)

    pub found_rest : found / 2 ^ (plain + 1) ≡ mask_l (map is_stop (take (end - (at + (plain + 1))) (drop (at + (plain + 1)) text)))
    found_rest =
        let n = plain + 1 in
        let k = end - (at + n) in
        let long : end - at ≡ n + k = omega (arith, found_within) in
        ap (λ m. m / 2 ^ n) (is.3 ∙ ap (λ l. mask_l (map is_stop (take l (drop at text)))) long) ∙ mask_rest n k at text

    found_text : (d : ℕ) → escape (drop at text) ≡ take plain (drop at text) ++ (escape_byte (get_or text (at + plain) d) ++ escape (drop (at + (plain + 1)) text))
    found_text d =
        let next : at + plain + 1 ≡ at + (plain + 1) = omega arith in
        plain_front text at (end - at) plain first
        ∙ ap (λ l. take plain (drop at text) ++ escape l) (drop_more text (at + plain) d (omega (arith, found_within, is.1)))
        ∙ ap (λ i. take plain (drop at text) ++ (escape_byte (get_or text (at + plain) d) ++ escape (drop i text))) next

    -- what is appended up to the first stop, and for it, leaves the escape of the bytes behind
    pub found_put : (d : ℕ) (out front byte : List ℕ) → front ≡ out ++ take plain (drop at text) → byte ≡ front ++ escape_byte (get_or text (at + plain) d)
        → byte ++ escape (drop (at + (plain + 1)) text) ≡ out ++ escape (drop at text)
    found_put d out front byte p q =
        let rest = escape (drop (at + (plain + 1)) text) in
        let bytes = escape_byte (get_or text (at + plain) d) in
        ap (λ l. l ++ rest) (q ∙ ap (λ l. l ++ bytes) p) ∙ append_assoc (out ++ take plain (drop at text)) bytes rest
        ∙ append_assoc out (take plain (drop at text)) (bytes ++ rest) ∙ ap (λ l. out ++ l) (sym (found_text d))

-- ---- what is written into a room

-- where bytes were written, so were the first n of them
pub written_first : (used n k : ℕ) (room new bytes : List ℕ) → n ≤ k → used ≤ length room → take (used + k) new ≡ take used room ++ take k bytes → take (used + n) new ≡ take used room ++ take n bytes
written_first used n k room new bytes few room_long written =
    let front = take used room in
    sym (take-take (used + n) (used + k) new (omega (arith, few))) ∙ ap (take (used + n)) written
    ∙ ap (λ i. take (i + n) (front ++ take k bytes)) (sym (length-take-le used room room_long)) ∙ take-append-add front (take k bytes) n
    ∙ ap (λ l. front ++ l) (take-take n k bytes few)

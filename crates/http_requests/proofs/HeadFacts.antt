-- What bytes that follow leave as it is.
use Rattle.std.proofs.Common.{◌≡◌, ◌∙◌, ◌-◌, ◌<◌, ◌≤◌, ℕ, List, ◌++◌, length, nat_le, slice_index, refl, arith, inl, inr}
use Rattle.std.proofs.lemmas.Bool.{cases_Bool, leb-true}
use Rattle.std.proofs.lemmas.List.{get_or_append_left, length-append}
use Rattle.http_requests.specs.Ends.{ends_head, IsHeadEnd}

-- a byte before the end
byte_stays : (bytes more : List ℕ) (k : ℕ) → k < length bytes → slice_index (bytes ++ more) k ≡ slice_index bytes k
byte_stays bytes more k within = get_or_append_left bytes more 0 k within

-- whether a head ends at a place that has come
pub end_stays : (bytes more : List ℕ) (n : ℕ) → n ≤ length bytes → ends_head (bytes ++ more) n ≡ ends_head bytes n
end_stays bytes more n within =
    elim (cases_Bool (nat_le 2 n)) as (λ _. ends_head (bytes ++ more) n ≡ ends_head bytes n) [
      | inl two ↦
          let some : 2 ≤ n = leb-true 2 n two in
          rw (
            byte_stays bytes more (n - 1) (omega (arith, within, some)),
            byte_stays bytes more (n - 2) (omega (arith, within, some)),
            byte_stays bytes more (n - 3) (omega (arith, within, some)),
          ) refl
      | inr few ↦ rw few refl
    ]

-- the end of a head that has come
pub head_end_stays : (bytes more : List ℕ) (n : ℕ) → IsHeadEnd bytes n → IsHeadEnd (bytes ++ more) n
head_end_stays bytes more n (within, short, ends, first) = (
  omega (arith, within, length-append bytes more),
  short,
  end_stays bytes more n within ∙ ends,
  λ k before. end_stays bytes more k (omega (arith, within, before)) ∙ first k before,
)

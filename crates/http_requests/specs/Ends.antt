-- Where the head of a request ends.
use Rattle.std.specs.Prelude.{◌≡◌, ℕ, ◌<◌, ◌≤◌, ◌-◌, ◌==◌, ◌&&◌, ◌||◌, Bool, true, false, List}
use Rattle.std.specs.Prelude.{length, nat_le, slice_index, Option, Some, None, Result, Ok, Err}
use Rattle.http_requests.specs.declared.refusal.Refusal.{Refusal}
use Rattle.http_requests.specs.declared.refusal.Refusal.TheVariants.{HeadTooLong}

-- the first n bytes end in LF LF or in LF CR LF: a CR before an LF is left out (RFC 9112,
-- section 2.2)
abbrev pub ends_head : List ℕ → ℕ → Bool
ends_head bytes n = nat_le 2 n && (slice_index bytes (n - 1) == 10
    && (slice_index bytes (n - 2) == 10
    || (nat_le 3 n && (slice_index bytes (n - 2) == 13 && slice_index bytes (n - 3) == 10))))

-- the most bytes that a head may have
abbrev pub most_head : ℕ
most_head = 8192

-- the head of these bytes is the first n: it ends there, and none ends sooner
abbrev pub IsHeadEnd : List ℕ → ℕ → Type 0
IsHeadEnd bytes n = (n ≤ length bytes) × (n ≤ most_head) × (ends_head bytes n ≡ true)
    × ((k : ℕ) → k < n → ends_head bytes k ≡ false)

-- no head ends in these bytes, as far as a head may reach
abbrev pub HasNoEnd : List ℕ → Type 0
HasNoEnd bytes = (k : ℕ) → k ≤ length bytes → k ≤ most_head → ends_head bytes k ≡ false

-- what the bytes that have come say of the head's end: where it is, that more may come, or that it
-- is too far
abbrev pub IsEndOf : List ℕ → Result (Option ℕ) Refusal → Type 0
IsEndOf bytes (Ok (Some n)) = IsHeadEnd bytes n
IsEndOf bytes (Ok None) = HasNoEnd bytes × (length bytes < most_head)
IsEndOf bytes (Err refusal) = HasNoEnd bytes × (most_head ≤ length bytes) × (refusal ≡ HeadTooLong)

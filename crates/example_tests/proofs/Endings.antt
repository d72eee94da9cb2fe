-- What is taken of a stream each of whose bytes comes by a call of its own.
use Rattle.std.proofs.Common.{◌≡◌, ◌∙◌, ◌⊎◌, ◌-◌, ◌+◌, ◌<◌, ◌≤◌, ℕ, zero, suc, min, [], Result, Ok, Err, inl, inr, refl, ap, arith}
use Rattle.std.specs.Duration.{as_nanos}
use Rattle.std.specs.IoError.{error_kind}
use Rattle.std.specs.declared.io.Error.{Error}
use Rattle.std.specs.declared.io.ErrorKind.TheVariants.{TimedOut}
use Rattle.std.specs.declared.time.Duration.{Duration}
use Rattle.desk_http.specs.Clocks.{IsLeft}
use Rattle.desk_http.specs.Endings.{AreReads, GaveNone, HasTaken, IsRead, IsTaken}
use Rattle.example_tests.specs.EdgeExamples.{at_five, gives_one, moment, never_set, said, shows_either, waits, waits_for}

-- such a call gave none only where no byte is left
none_left : (was : ℕ) (result : Result ℕ Error) → result ≡ Ok (min was 1) → GaveNone result → was ≡ 0
none_left was (Ok count) is none = let k : count ≡ min was 1 = cc in omega arith
none_left was (Err e) is none = absurd (cc)

module _ (Left : Result Duration Error → Type 0) where
  -- while a moment is left
  module _ (left : Duration) (is_left : Left (Ok left)) where
    read_one : (was last count : ℕ) → last ≡ was - 1 → count ≡ min was 1 → IsRead waits gives_one Left was last (Ok count)
    read_one was last count less one = ([], inl (left, is_left, refl, (less, ap Ok one)))

    pub reads_singly : (count first last : ℕ) → first ≡ count + last → AreReads waits gives_one Left count first last
    unfolding AreReads
    reads_singly zero first last is = omega arith
    reads_singly (suc count) first last is = (suc last, reads_singly count first (suc last) (omega arith), (Ok 1, read_one (suc last) last 1 (omega arith) (omega arith)))

  -- and while it never is that none is
  module _ (in_time : (e : Error) → Left (Err e) → ⊥) where
    reads_one : (was last : ℕ) (result : Result ℕ Error) → IsRead waits gives_one Left was last result → (last ≡ was - 1) × (result ≡ Ok (min was 1))
    reads_one was last result read = elim read.1 [
      | inl call ↦ call.3
      | inr none ↦ elim none.3 [
        | inl late ↦ absurd (in_time none.0 late)
        | inr unset ↦ let k = unset.2 in absurd (cc)
      ]
    ]

    reads_all : (count first last : ℕ) → AreReads waits gives_one Left count first last → last ≡ first - count
    unfolding AreReads
    reads_all zero first last reads = omega (arith, reads)
    reads_all (suc count) first last reads =
        let before = reads_all count first reads.0 reads.1 in
        let one = reads_one reads.0 last reads.2.0 reads.2.1 in
        omega (arith, before, one.0)

    -- all is taken, or so much as is allowed
    pub takes_all : (most first last : ℕ) → IsTaken waits gives_one Left most first last → (last ≡ first - most) ⊎ (last ≡ 0)
    takes_all most first last taken =
        let before = reads_all taken.count first taken.was taken.reads in
        elim taken.ended [
          | inl whole ↦ inl (omega (arith, before, whole.0, whole.1))
          | inr ended ↦
              let one = reads_one taken.was last ended.1.0 ended.1.2 in
              let none = none_left taken.was ended.1.0 one.1 ended.1.1 in
              inr (omega (arith, one.0, none))
        ]

-- ---- by a clock

second_left : IsLeft at_five (moment 6 0) (Ok (moment 1 0))
second_left = (moment 5 0, refl, omega arith, omega arith)

pub taken_all : HasTaken waits gives_one at_five said 3 0
taken_all = inl (
  refl,
  (
    moment 5 0,
    moment 6 0,
    refl,
    omega arith,
    record {
      count = 3;
      was = 0;
      reads = reads_singly (IsLeft at_five (moment 6 0)) (moment 1 0) second_left 3 3 0 refl;
      ended = inr (omega arith, (Ok 0, refl, read_one (IsLeft at_five (moment 6 0)) (moment 1 0) second_left 0 0 0 refl refl));
    },
  ),
)

pub taken_most : HasTaken waits gives_one at_five said 20000 10000
taken_most = inl (
  refl,
  (
    moment 5 0,
    moment 6 0,
    refl,
    omega arith,
    record {
      count = 10000;
      was = 10000;
      reads = reads_singly (IsLeft at_five (moment 6 0)) (moment 1 0) second_left 10000 20000 10000 refl;
      ended = inl (refl, refl);
    },
  ),
)

-- a second later none is left
pub taken_until : (e : Error) → error_kind e ≡ TimedOut → HasTaken waits gives_one (shows_either (moment 5 0) (moment 6 0)) said 3 2
taken_until e late = inl (
  refl,
  (
    moment 5 0,
    moment 6 0,
    inl refl,
    omega arith,
    record {
      count = 1;
      was = 2;
      reads = reads_singly _ (moment 1 0) (moment 5 0, inl refl, omega arith, omega arith) 1 3 2 refl;
      ended = inr (omega arith, (Err e, tt, ([], inr (e, refl, refl, inl (inr (moment 6 0, inr refl, omega arith, late))))));
    },
  ),
)

-- while the clock shows moments that are less than a second apart, all is taken
module _ (Shows : Result Duration Error → Type 0) (shown : (e : Error) → Shows (Err e) → ⊥)
    (close : (now later : Duration) → Shows (Ok now) → Shows (Ok later) → as_nanos later < as_nanos now + 1000000000) where
  in_time : (now end : Duration) → Shows (Ok now) → as_nanos end ≡ as_nanos now + 1000000000 → (e : Error) → IsLeft Shows end (Err e) → ⊥
  in_time now end shows is e (inl fails) = shown e fails
  in_time now end shows is e (inr late) = let near = close now late.0 shows late.1 in omega (arith, near, is, late.2)

  pub none_left_over : (first last : ℕ) → (last ≡ first → ⊥) → (last ≡ first - 10000 → ⊥) → (last ≡ 0 → ⊥) → HasTaken waits gives_one Shows said first last → ⊥
  none_left_over first last other most all (inr none) = other none.0
  none_left_over first last other most all (inl taken) =
      elim (takes_all (IsLeft Shows taken.1.1) (in_time taken.1.0 taken.1.1 taken.1.2 taken.1.3) 10000 first last taken.1.4) [
        | inl is ↦ most is
        | inr is ↦ all is
      ]

pub shows_just : (e : Error) → at_five (Err e) → ⊥
shows_just e shown = cc

pub is_just : (now later : Duration) → at_five (Ok now) → at_five (Ok later) → as_nanos later < as_nanos now + 1000000000
is_just now later was is = let same : now ≡ later = cc in let k = ap as_nanos same in omega (arith, k)

-- and a second later can be counted to
pub counts_on : HasTaken waits gives_one at_five said 3 3 → ⊥
counts_on (inl taken) =
    elim (takes_all (IsLeft at_five taken.1.1) (in_time at_five shows_just is_just taken.1.0 taken.1.1 taken.1.2 taken.1.3) 10000 3 3 taken.1.4) [
      | inl is ↦ omega (arith, is)
      | inr is ↦ omega (arith, is)
    ]
counts_on (inr (same, (e, inl (inl shown)))) = shows_just e shown
counts_on (inr (same, (e, inl (inr (now, is, late, kind))))) =
    let five : now ≡ moment 5 0 = cc in
    let k = ap as_nanos five in
    late (omega (arith, k))
counts_on (inr (same, (e, inr unsaid))) = let k = unsaid in cc

-- it shows one of two moments within a second
module _ (first second : Duration) where
  pub shows_one : (e : Error) → shows_either first second (Err e) → ⊥
  shows_one e (inl shown) = cc
  shows_one e (inr shown) = cc

  between : as_nanos first ≤ as_nanos second → (now : Duration) → shows_either first second (Ok now) → (as_nanos first ≤ as_nanos now) × (as_nanos now ≤ as_nanos second)
  between order now (inl shown) = let same : now ≡ first = cc in let k = ap as_nanos same in (omega (arith, k), omega (arith, k, order))
  between order now (inr shown) = let same : now ≡ second = cc in let k = ap as_nanos same in (omega (arith, k, order), omega (arith, k))

  pub is_either : as_nanos first ≤ as_nanos second → as_nanos second < as_nanos first + 1000000000
      → (now later : Duration) → shows_either first second (Ok now) → shows_either first second (Ok later) → as_nanos later < as_nanos now + 1000000000
  is_either order near now later was is =
      let a = between order now was in
      let b = between order later is in
      omega (arith, a.0, b.1, near)

-- where no call of read takes a byte, none is taken
module _ (Waits : ℕ → Duration → Result (Unit {0}) Error → Type 0) (Shows : Result Duration Error → Type 0)
    (keeps : (now end : Duration) → Shows (Ok now) → as_nanos end ≡ as_nanos now + 1000000000
    → (was last : ℕ) (result : Result ℕ Error) → IsRead Waits gives_one (IsLeft Shows end) was last result → last ≡ was) where
  module _ (now end : Duration) (shows : Shows (Ok now)) (is : as_nanos end ≡ as_nanos now + 1000000000) where
    keeps_all : (count first last : ℕ) → AreReads Waits gives_one (IsLeft Shows end) count first last → last ≡ first
    unfolding AreReads
    keeps_all zero first last reads = reads
    keeps_all (suc count) first last reads =
        keeps now end shows is reads.0 last reads.2.0 reads.2.1 ∙ keeps_all count first reads.0 reads.1

    keeps_it : (most first last : ℕ) → IsTaken Waits gives_one (IsLeft Shows end) most first last → last ≡ first
    keeps_it most first last taken =
        let before = keeps_all taken.count first taken.was taken.reads in
        elim taken.ended [
          | inl whole ↦ whole.1 ∙ before
          | inr ended ↦ keeps now end shows is taken.was last ended.1.0 ended.1.2 ∙ before
        ]

  pub takes_none : (first last : ℕ) → HasTaken Waits gives_one Shows said first last → last ≡ first
  takes_none first last (inr none) = none.0
  takes_none first last (inl taken) = keeps_it taken.1.0 taken.1.1 taken.1.2 taken.1.3 10000 first last taken.1.4

-- a call that may wait for two seconds is none that is made
pub keeps_longer : (now end : Duration) → at_five (Ok now) → as_nanos end ≡ as_nanos now + 1000000000
    → (was last : ℕ) (result : Result ℕ Error) → IsRead (waits_for (moment 2 0)) gives_one (IsLeft at_five end) was last result → last ≡ was
keeps_longer now end shows is was last result read = elim read.1 [
  | inl call ↦
      let then_ : call.1.0 ≡ now = let k = call.1.1 in cc in
      let same = ap as_nanos then_ in
      let longer = ap as_nanos call.2.0 in
      absurd (omega (arith, same, longer, is, call.1.2))
  | inr none ↦ none.2
]

-- nor one that can't be kept from waiting
pub keeps_unset : (e : Error) (now end : Duration) → at_five (Ok now) → as_nanos end ≡ as_nanos now + 1000000000
    → (was last : ℕ) (result : Result ℕ Error) → IsRead (never_set e) gives_one (IsLeft at_five end) was last result → last ≡ was
keeps_unset e now end shows is was last result read = elim read.1 [
  | inl call ↦ let k = call.2 in absurd (cc)
  | inr none ↦ none.2
]

-- nothing comes of asking the clock
pub unseen : HasTaken waits gives_one (λ shown. ⊥) said 3 3 → ⊥
unseen (inl taken) = taken.1.2
unseen (inr (same, (e, inl (inl shown)))) = shown
unseen (inr (same, (e, inl (inr past)))) = past.1
unseen (inr (same, (e, inr unsaid))) = let k = unsaid in cc

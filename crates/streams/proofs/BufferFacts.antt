-- A buffer, the part of it that is held, and the first line feed there.
use Rattle.std.proofs.Common.{◌≡◌, ◌≢◌, ◌∙◌, ℕ, suc, ◌+◌, ◌-◌, ◌<◌, ◌≤◌, Bool, List, ◌∷◌, ◌++◌, length, get_or, take, drop, sym, ap, subst, arith, inl, inr, take-append-drop, lt-ltb, le-ltb}
use Rattle.std.specs.Prelude.{slice_range, nat_lt}
use Rattle.std.proofs.lemmas.Bool.{cases_lt}
use Rattle.std.proofs.lemmas.List.{drop-drop, drop-take, drop_more, take-take}
use Rattle.std.proofs.lemmas.List.Edits.{length-between, get_or-between}
use Rattle.std.proofs.lemmas.List.Elements.{All-from_get_or}
use Rattle.streams.specs.Held.{IsSound, HasLine, TellsWhole}
use Rattle.streams.specs.Lines.{first_line, after_line, NoFeed}
use Rattle.streams.proofs.LineFacts.{first_line-all, first_line-feed, after_line-feed, has_line, has_line-not}

-- the first items of a list, in two parts
pub take-add : (n m : ℕ) (xs : List ℕ) → take (n + m) xs ≡ take n xs ++ take m (drop n xs)
take-add n m xs =
    sym (take-append-drop n (take (n + m) xs)) ∙ ap (λ l. l ++ drop n (take (n + m) xs)) (take-take n (n + m) xs (omega arith))
    ∙ ap (λ l. take n xs ++ l) (drop-take n m xs)

-- a part of a list, cut in two
slice_split : (xs : List ℕ) (i j k : ℕ) → i ≤ j → j ≤ k → slice_range xs i k ≡ slice_range xs i j ++ slice_range xs j k
slice_split xs i j k low high =
    let parts : k - i ≡ (j - i) + (k - j) = omega arith in
    let place : i + (j - i) ≡ j = omega arith in
    ap (λ n. take n (drop i xs)) parts ∙ take-add (j - i) (k - j) (drop i xs)
    ∙ ap (λ l. slice_range xs i j ++ take (k - j) l) (drop-drop (j - i) i xs ∙ ap (λ n. drop n xs) place)

-- a part of a list, and its first item
slice_first : (xs : List ℕ) (i k : ℕ) → i < k → k ≤ length xs → slice_range xs i k ≡ get_or xs i 0 ∷ slice_range xs (i + 1) k
slice_first xs i k low high =
    let parts : k - i ≡ suc (k - (i + 1)) = omega arith in
    ap (λ n. take n (drop i xs)) parts ∙ ap (λ l. take (suc (k - (i + 1))) l) (drop_more xs i 0 (omega arith))

module _ (buffer : List ℕ) (start feed end : ℕ) (sound : IsSound buffer start feed end) where
  -- what stands before the line feed
  front_no_feed : NoFeed (slice_range buffer start feed)
  front_no_feed =
      All-from_get_or (λ b. b ≢ 10) (slice_range buffer start feed) 0
      (λ i lt. let short = length-between buffer start feed (omega (arith, sound.within, sound.in_bounds, sound.room)) in
      let within : start + i < feed = omega (arith, lt, short) in
      λ e. sound.before (start + i) (omega arith) within (sym (get_or-between buffer start feed i 0 within) ∙ e))

  -- the line, its line feed, and what follows it
  pub held_parts : feed < end → slice_range buffer start end ≡ slice_range buffer start feed ++ 10 ∷ slice_range buffer (feed + 1) end
  held_parts there =
      slice_split buffer start feed end sound.ordered sound.within
      ∙ ap (λ l. slice_range buffer start feed ++ l)
      (slice_first buffer feed end there (omega (arith, sound.in_bounds, sound.room)) ∙ ap (λ b. b ∷ slice_range buffer (feed + 1) end) (sound.at there))

  pub held_line : feed < end → HasLine (slice_range buffer start end)
  held_line there = subst HasLine (sym (held_parts there)) (has_line (slice_range buffer start feed) (slice_range buffer (feed + 1) end) front_no_feed)

  pub held_no_feed : end ≤ feed → NoFeed (slice_range buffer start end)
  held_no_feed all = let same : feed ≡ end = omega (arith, all, sound.within) in subst (λ (n : ℕ). NoFeed (slice_range buffer start n)) same front_no_feed

  pub held_first : first_line (slice_range buffer start end) ≡ slice_range buffer start feed
  held_first = elim (cases_lt feed end) [
    | inl there ↦ ap first_line (held_parts there) ∙ first_line-feed (slice_range buffer start feed) (slice_range buffer (feed + 1) end) front_no_feed
    | inr all ↦
        let same : end ≡ feed = omega (arith, all, sound.within) in
        first_line-all (slice_range buffer start end) (held_no_feed all) ∙ ap (λ n. slice_range buffer start n) same
  ]

  pub held_after : feed < end → after_line (slice_range buffer start end) ≡ slice_range buffer (feed + 1) end
  held_after there = ap after_line (held_parts there) ∙ after_line-feed (slice_range buffer start feed) (slice_range buffer (feed + 1) end) front_no_feed

  pub held_feed : HasLine (slice_range buffer start end) → feed < end
  held_feed has = elim (cases_lt feed end) [
    | inl there ↦ there
    | inr all ↦ absurd (has_line-not (slice_range buffer start end) (held_no_feed all) has)
  ]

  pub held_told : (too_long : Bool) → TellsWhole (record { bytes = slice_range buffer start end; too_long = too_long }) (nat_lt feed end)
  held_told too_long = elim (cases_lt feed end) [
    | inl there ↦ rw (lt-ltb feed end there) (held_line there)
    | inr all ↦ rw (le-ltb feed end all) (held_no_feed all)
  ]

  pub length_first : length (slice_range buffer start feed) ≡ feed - start
  length_first = length-between buffer start feed (omega (arith, sound.within, sound.in_bounds, sound.room))

-- The lines by the events that stand are those by the lines of the journal.
use Rattle.std.proofs.Common.{◌≡◌, ◌∙◌, ◌<◌, ◌≤◌, ◌+◌, ◌-◌, ◌*◌, ◌==◌, Bool, true, false, ℕ, zero, suc, List, [], ◌∷◌, ◌++◌, length, Option, Some, None, refl, sym, ap, ap₂, subst, arith, append_assoc, append-nil}
use Rattle.std.specs.Prelude.{option_and_then, option_map}
use Rattle.journal.specs.Journal.{settled_if}
use Rattle.office_policy.specs.History.{Event, History}
use Rattle.journal.specs.Lines.{Line, done, happened, strike}
use Rattle.journal.specs.Told.{standing, told}
use Rattle.journal_reports.specs.History.{lines_to, last_behind, lines_after, shown_behind, shown_of}
use Rattle.journal_reports.specs.Passing.{Asked}
use Rattle.journal_reports.specs.Struck.{strike_of, struck_lines, struck_of}
use Rattle.journal_reports.specs.Whole.{lines_for}
use Rattle.journal_reports.proofs.StruckFacts.{odd_lines, two_first}

abbrev Events : Type 0
Events = List (ℕ × Event)

-- ---- numbers

-- where no event is held back, what stands before the first event that is told are pairs
abbrev Gap : ℕ → ℕ → Events → Type 0
Gap before n [] = (k : ℕ) × (n ≡ 2 * k)
Gap before n (p ∷ es) = (k : ℕ) × (p.0 ≡ before + 1 + 2 * k)

-- an event and the line that strikes it out
struck_pair : (before : ℕ) (e : Event) (lines : List Line) (es : Events) → told before None (happened e ∷ strike ∷ lines) ≡ Some es → told (before + 2) None lines ≡ Some es
struck_pair before e lines es is = at (told (before + 1 + 1) None lines) refl is
  where
    at : (o : Option Events) → told (before + 1 + 1) None lines ≡ o → option_map (λ xs. standing before None ++ xs) (option_map (λ xs. standing (before + 1) None ++ xs) o) ≡ Some es
        → told (before + 2) None lines ≡ Some es
    at None told_is given = absurd cc
    at (Some rest) told_is given =
        let same : rest ≡ es = cc in
        let onto : before + 1 + 1 ≡ before + 2 = omega arith in
        subst (λ (n : ℕ). told n None lines ≡ Some es) onto (told_is ∙ ap (λ r. Some r) same)

-- an event and what comes behind it
record Behind (before : ℕ) (e : Event) (es : Events) (P : Events → Type 0) : Type 0 where
  rest : Events
  is : es ≡ (before + 1, e) ∷ rest
  holds : P rest

done_pair : (before : ℕ) (e : Event) (n : ℕ) (lines : List Line) (es : Events) → told before None (happened e ∷ done n ∷ lines) ≡ Some es
    → Behind before e es (λ rest. told (before + 2) None lines ≡ Some rest)
done_pair before e n lines es is = by (n == before + 1) is
  where
    at : (o : Option Events) → told (before + 1 + 1) None lines ≡ o → option_map (λ xs. standing before None ++ xs) (option_map (λ xs. standing (before + 1) (Some e) ++ xs) o) ≡ Some es
        → Behind before e es (λ rest. told (before + 2) None lines ≡ Some rest)
    at None told_is given = absurd cc
    at (Some rest) told_is given =
        let onto : before + 1 + 1 ≡ before + 2 = omega arith in
        record { rest = rest; is = let same : (before + 1, e) ∷ rest ≡ es = cc in sym same; holds = subst (λ (k : ℕ). told k None lines ≡ Some rest) onto told_is }

    by : (b : Bool) → option_map (λ xs. standing before None ++ xs) (option_and_then (λ t. option_map (λ xs. standing (before + 1) t.0 ++ xs) (told (before + 1 + 1) t.1 lines)) (settled_if b e)) ≡ Some es
        → Behind before e es (λ rest. told (before + 2) None lines ≡ Some rest)
    by true given = at (told (before + 1 + 1) None lines) refl given
    by false given = absurd cc

next_pair : (before : ℕ) (e f : Event) (lines : List Line) (es : Events) → told before None (happened e ∷ happened f ∷ lines) ≡ Some es
    → Behind before e es (λ rest. told (before + 1) None (happened f ∷ lines) ≡ Some rest)
next_pair before e f lines es is = at (told (before + 1 + 1) (Some f) lines) refl is
  where
    at : (o : Option Events) → told (before + 1 + 1) (Some f) lines ≡ o → option_map (λ xs. standing before None ++ xs) (option_map (λ xs. standing (before + 1) (Some e) ++ xs) o) ≡ Some es
        → Behind before e es (λ rest. told (before + 1) None (happened f ∷ lines) ≡ Some rest)
    at None told_is given = absurd cc
    at (Some rest) told_is given =
        record { rest = rest; is = let same : (before + 1, e) ∷ rest ≡ es = cc in sym same; holds = ap (λ (o : Option Events). option_map (λ xs. standing (before + 1) None ++ xs) o) told_is }

first_next : (before n : ℕ) (e : Event) (es rest : Events) → es ≡ (before + 1, e) ∷ rest → Gap before n es
first_next before n e es rest is = subst (Gap before n) (sym is) (0, omega arith)

more_gap : (before n : ℕ) (es : Events) → Gap (before + 2) n es → Gap before (n + 2) es
more_gap before n [] gap = (gap.0 + 1, let even = gap.1 in omega (arith, even))
more_gap before n (p ∷ es) gap = (gap.0 + 1, let number = gap.1 in omega (arith, number))

gap_of : (before : ℕ) (lines : List Line) (es : Events) → told before None lines ≡ Some es → Gap before (length lines) es
gap_of before [] es is = let none : [] ≡ es = cc in subst (Gap before 0) none (0, omega arith)
gap_of before (strike ∷ lines) es is = absurd cc
gap_of before (done n ∷ lines) es is = absurd cc
gap_of before (happened e ∷ []) es is = let one : (before + 1, e) ∷ [] ≡ es = cc in first_next before 1 e es [] (sym one)
gap_of before (happened e ∷ strike ∷ lines) es is =
    let size : length lines + 2 ≡ length (happened e ∷ strike ∷ lines) = omega arith in
    subst (λ (n : ℕ). Gap before n es) size (more_gap before (length lines) es (gap_of (before + 2) lines es (struck_pair before e lines es is)))
gap_of before (happened e ∷ done n ∷ lines) es is =
    let pair = done_pair before e n lines es is in
    first_next before (length (happened e ∷ done n ∷ lines)) e es pair.rest pair.is
gap_of before (happened e ∷ happened f ∷ lines) es is =
    let pair = next_pair before e f lines es is in
    first_next before (length (happened e ∷ happened f ∷ lines)) e es pair.rest pair.is

-- ---- lines

module _ (asked : Asked) where
  -- the lines of events, and of those behind them up to this number
  abbrev all_lines : (behind : ℕ) → History → Events → (count : ℕ) → List ℕ
  all_lines behind h es count = lines_after asked behind h es ++ struck_lines asked (last_behind behind es) (count - last_behind behind es)

  -- two that are struck out come first
  behind_pair : (behind n : ℕ) (h : History) (es : Events) (count : ℕ) → count ≡ behind + 2 + n → Gap (behind + 2) n es
      → all_lines behind h es count ≡ struck_of asked (behind + 1) ++ strike_of asked (behind + 2) ++ all_lines (behind + 2) h es count
  behind_pair behind n h [] count all gap = two_first asked behind count gap.0 (let even = gap.1 in omega (arith, all, even))
  behind_pair behind n h (p ∷ es) count all gap =
      let a = struck_of asked (behind + 1) in
      let b = strike_of asked (behind + 2) in
      let shown = shown_of asked h p in
      let after = lines_after asked p.0 (p.1 ∷ h) es in
      let end = struck_lines asked (last_behind p.0 es) (count - last_behind p.0 es) in
      let rest = struck_lines asked (behind + 2) (p.0 - 1 - (behind + 2)) in
      ap (λ t. ((t ++ shown) ++ after) ++ end) (two_first asked behind (p.0 - 1) gap.0 (let number = gap.1 in omega (arith, number)))
      ∙ ap (λ t. (t ++ after) ++ end) (append_assoc (a ++ b) rest shown)
      ∙ ap (λ t. t ++ end) (append_assoc (a ++ b) (rest ++ shown) after)
      ∙ append_assoc (a ++ b) ((rest ++ shown) ++ after) end

  -- the line that says that the event is carried out is left out
  behind_done : (behind n : ℕ) (h : History) (es : Events) (count : ℕ) → count ≡ behind + 1 + n → Gap (behind + 1) n es → all_lines behind h es count ≡ all_lines (behind + 1) h es count
  behind_done behind n h [] count all gap =
      odd_lines asked behind (count - behind) gap.0 (let even = gap.1 in omega (arith, all, even))
      ∙ ap (struck_lines asked (behind + 1)) (let less : count - behind - 1 ≡ count - (behind + 1) = omega arith in less)
  behind_done behind n h (p ∷ es) count all gap =
      let shown = shown_of asked h p in
      let after = lines_after asked p.0 (p.1 ∷ h) es in
      let end = struck_lines asked (last_behind p.0 es) (count - last_behind p.0 es) in
      ap (λ t. ((t ++ shown) ++ after) ++ end)
      (odd_lines asked behind (p.0 - 1 - behind) gap.0 (let number = gap.1 in omega (arith, number))
      ∙ ap (struck_lines asked (behind + 1)) (let less : p.0 - 1 - behind - 1 ≡ p.0 - 1 - (behind + 1) = omega arith in less))

  -- an event stands on the next line
  none_between : (behind : ℕ) → behind + 1 - 1 - behind ≡ 0
  none_between behind = omega arith

  next_shown : (behind : ℕ) (h : History) (e : Event) → shown_behind asked behind h (behind + 1, e) ≡ shown_of asked h (behind + 1, e)
  next_shown behind h e = ap (λ n. struck_lines asked behind n ++ shown_of asked h (behind + 1, e)) (none_between behind)

  no_more : (n : ℕ) → n - n ≡ 0
  no_more n = omega arith

  lines_are : (before : ℕ) (h : History) (lines : List Line) (es : Events) → told before None lines ≡ Some es
      → all_lines before h es (before + length lines) ≡ lines_for asked (before + 1) h lines
  lines_are before h [] es is =
      let none : es ≡ [] = cc in
      ap (λ (xs : Events). all_lines before h xs (before + 0)) none
      ∙ ap (λ n. struck_lines asked before n) (let left : before + 0 - before ≡ 0 = omega arith in left)
  lines_are before h (strike ∷ lines) es is = absurd cc
  lines_are before h (happened e ∷ []) es is =
      let one : es ≡ (before + 1, e) ∷ [] = cc in
      ap (λ (xs : Events). all_lines before h xs (before + 1)) one
      ∙ ap (λ t. (t ++ []) ++ struck_lines asked (before + 1) (before + 1 - (before + 1))) (next_shown before h e)
      ∙ ap (λ n. (shown_of asked h (before + 1, e) ++ []) ++ struck_lines asked (before + 1) n) (no_more (before + 1))
      ∙ append-nil (shown_of asked h (before + 1, e) ++ []) ∙ append-nil (shown_of asked h (before + 1, e))
  lines_are before h (done n ∷ lines) es is = absurd cc
  lines_are before h (happened e ∷ strike ∷ lines) es is =
      let all = struck_pair before e lines es is in
      let size : before + length (happened e ∷ strike ∷ lines) ≡ before + 2 + length lines = omega arith in
      behind_pair before (length lines) h es (before + length (happened e ∷ strike ∷ lines)) size (gap_of (before + 2) lines es all)
      ∙ ap (λ t. struck_of asked (before + 1) ++ strike_of asked (before + 2) ++ t)
      (ap (λ n. all_lines (before + 2) h es n) size ∙ lines_are (before + 2) h lines es all)
      ∙ ap₂ (λ (m n : ℕ). struck_of asked (before + 1) ++ strike_of asked m ++ lines_for asked n h lines) (let onto : before + 2 ≡ before + 1 + 1 = omega arith in onto)
      (let end : before + 2 + 1 ≡ before + 1 + 2 = omega arith in end)
  lines_are before h (happened e ∷ done n ∷ lines) es is =
      let pair = done_pair before e n lines es is in
      let count = before + length (happened e ∷ done n ∷ lines) in
      let size : count ≡ before + 1 + 1 + length lines = omega arith in
      let onto : before + 2 ≡ before + 1 + 1 = omega arith in
      let gap : Gap (before + 1 + 1) (length lines) pair.rest = subst (λ (k : ℕ). Gap k (length lines) pair.rest) onto (gap_of (before + 2) lines pair.rest pair.holds) in
      let after = lines_after asked (before + 1) (e ∷ h) pair.rest in
      let end = struck_lines asked (last_behind (before + 1) pair.rest) (count - last_behind (before + 1) pair.rest) in
      ap (λ (xs : Events). all_lines before h xs count) pair.is
      ∙ ap (λ t. (t ++ after) ++ end) (next_shown before h e)
      ∙ append_assoc (shown_of asked h (before + 1, e)) after end
      ∙ ap (λ t. shown_of asked h (before + 1, e) ++ t)
      (behind_done (before + 1) (length lines) (e ∷ h) pair.rest count size gap
      ∙ ap₂ (λ (m k : ℕ). all_lines m (e ∷ h) pair.rest k) (sym onto) (let all : count ≡ before + 2 + length lines = omega arith in all)
      ∙ lines_are (before + 2) (e ∷ h) lines pair.rest pair.holds
      ∙ ap (λ (k : ℕ). lines_for asked k (e ∷ h) lines) (let next : before + 2 + 1 ≡ before + 1 + 2 = omega arith in next))
  lines_are before h (happened e ∷ happened f ∷ lines) es is =
      let pair = next_pair before e f lines es is in
      let count = before + length (happened e ∷ happened f ∷ lines) in
      let after = lines_after asked (before + 1) (e ∷ h) pair.rest in
      let end = struck_lines asked (last_behind (before + 1) pair.rest) (count - last_behind (before + 1) pair.rest) in
      ap (λ (xs : Events). all_lines before h xs count) pair.is
      ∙ ap (λ t. (t ++ after) ++ end) (next_shown before h e)
      ∙ append_assoc (shown_of asked h (before + 1, e)) after end
      ∙ ap (λ t. shown_of asked h (before + 1, e) ++ t)
      (ap (λ n. all_lines (before + 1) (e ∷ h) pair.rest n) (let same : count ≡ before + 1 + length (happened f ∷ lines) = omega arith in same)
      ∙ lines_are (before + 1) (e ∷ h) (happened f ∷ lines) pair.rest pair.holds)

  pub whole_history : (lines : List Line) (es : Events) → told 0 None lines ≡ Some es → lines_to asked es (length lines) ≡ lines_for asked 1 [] lines
  whole_history lines es is =
      subst (λ (n : ℕ). lines_to asked es n ≡ lines_for asked 1 [] lines) (let same : 0 + length lines ≡ length lines = omega arith in same) (lines_are 0 [] lines es is)

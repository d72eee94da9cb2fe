-- How far the telling of lines has come.
use Rattle.std.proofs.Common.{◌≡◌, ◌∙◌, ℕ, ◌+◌, ◌<◌, List, [], ◌∷◌, ◌++◌, Option, IfSome, Some, None, length, refl, sym, ap, append_assoc, append-nil, length-append}
use Rattle.std.specs.Io.KnownBytes.{IsAtEnd}
use Rattle.streams.specs.Handed.{Handed, KeepsHanded, HandsOut}
use Rattle.streams.specs.Held.{Held, Holds, size}
use Rattle.streams.specs.Lines.{first_line, lines_of, NoFeed}
use Rattle.streams.proofs.HandedFacts.{all_handed, last_held}
use Rattle.text_tests.specs.Told.{told_line, told_lines}

-- some lines were handed out, and reported
pub record Progress (held : Held) (before now : Option (List ℕ)) (text : List ℕ) (number : ℕ) : Type 0 where
  pub lines : List (List ℕ)
  pub handed : Handed held before now lines
  pub text_is : text ≡ told_lines lines
  pub number_is : number ≡ length lines

pub progress_none : (held : Held) (stream : Option (List ℕ)) (text : List ℕ) → ((s : Option (List ℕ)) → Handed held s s []) → text ≡ [] → Progress held stream stream text 0
progress_none held stream text none empty = record { lines = []; handed = none stream; text_is = empty; number_is = refl }

pub progress_read : (old new : Held) (before was now : Option (List ℕ)) (text : List ℕ) (number : ℕ) → Progress old before was text number → KeepsHanded old new was now
    → Progress new before now text number
progress_read old new before was now text number p keeps =
    record { lines = p.lines; handed = keeps before p.lines p.handed; text_is = p.text_is; number_is = p.number_is }

told_more : (lines : List (List ℕ)) (line : List ℕ) → told_lines (lines ++ line ∷ []) ≡ told_lines lines ++ told_line line
told_more [] line = append-nil (told_line line)
told_more (l ∷ lines) line = ap (λ t. told_line l ++ t) (told_more lines line) ∙ sym (append_assoc (told_line l) (told_lines lines) (told_line line))

-- the first line that is held is reported too
abbrev pub TellsFirst : Held → (old new : List ℕ) → Type 0
TellsFirst held old new = (bytes : List ℕ) → Holds held bytes → new ≡ old ++ told_line (first_line bytes)

module _ (held : Held) (before now : Option (List ℕ)) (text told : List ℕ) (number : ℕ) (p : Progress held before now text number) (tells : TellsFirst held text told) where
  told_is : told ≡ told_lines (p.lines ++ first_line p.handed.rest ∷ [])
  told_is = tells p.handed.rest p.handed.holds ∙ ap (λ t. t ++ told_line (first_line p.handed.rest)) p.text_is ∙ sym (told_more p.lines (first_line p.handed.rest))

  count_is : number + 1 ≡ length (p.lines ++ first_line p.handed.rest ∷ [])
  count_is = ap (λ n. n + 1) p.number_is ∙ sym (length-append p.lines (first_line p.handed.rest ∷ []))

  pub progress_more : (next : Held) → HandsOut held next → Progress next before now told (number + 1)
  progress_more next hands = record {
    lines = p.lines ++ first_line p.handed.rest ∷ [];
    handed = hands before now p.lines p.handed;
    text_is = told_is;
    number_is = count_is;
  }

  pub last_told : NoFeed held.bytes → 0 < size held → IsAtEnd now → IfSome before (λ input. (told ≡ told_lines (lines_of input)) × (number + 1 ≡ length (lines_of input)))
  last_told none some end = with_last before (last_held held before now p.lines p.handed none some end)
    where
      with_last : (b : Option (List ℕ)) → IfSome b (λ input. lines_of input ≡ p.lines ++ first_line p.handed.rest ∷ [])
          → IfSome b (λ input. (told ≡ told_lines (lines_of input)) × (number + 1 ≡ length (lines_of input)))
      with_last None all = tt
      with_last (Some input) all = (told_is ∙ ap told_lines (sym all), count_is ∙ ap length (sym all))

pub all_told : (held : Held) (before now : Option (List ℕ)) (text : List ℕ) (number : ℕ) → Progress held before now text number → size held ≡ 0 → IsAtEnd now
    → IfSome before (λ input. (text ≡ told_lines (lines_of input)) × (number ≡ length (lines_of input)))
all_told held before now text number p none end = with_all before (all_handed held before now p.lines p.handed none end)
  where
    with_all : (b : Option (List ℕ)) → IfSome b (λ input. lines_of input ≡ p.lines) → IfSome b (λ input. (text ≡ told_lines (lines_of input)) × (number ≡ length (lines_of input)))
    with_all None all = tt
    with_all (Some input) all = (p.text_is ∙ ap told_lines (sym all), p.number_is ∙ ap length (sym all))

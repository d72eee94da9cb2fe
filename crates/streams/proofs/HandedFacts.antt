-- Which lines of a stream were handed out, and which there are.
use Rattle.std.proofs.Common.{◌≡◌, ◌∙◌, ℕ, ◌<◌, List, [], ◌∷◌, ◌++◌, Bool, false, Option, Some, None, IfSome, refl, sym, ap, subst, append_assoc, append-nil}
use Rattle.std.proofs.KnownBytes.{Consumes-nil, Consumes-trans, Consumes-whole}
use Rattle.std.specs.Io.KnownBytes.{Consumes, IsAtEnd}
use Rattle.streams.specs.Filled.{Fills}
use Rattle.streams.specs.Handed.{Handed, KeepsHanded, HandsOut}
use Rattle.streams.specs.Held.{Held, HasLine, IsDropped, nothing, size}
use Rattle.streams.specs.Lines.{lines_of, first_line, after_line, NoFeed}
use Rattle.streams.proofs.HeldFacts.{holds_nothing, holds_line, holds_after, holds_no_feed, holds_none, holds_some}
use Rattle.streams.proofs.LineFacts.{first_line-all, first_line-no_feed, lines_of-line, lines_of-has, lines_of-last, lines_of-whole, ends_line, ends_line-append}

pub handed_none : (stream : Option (List ℕ)) → Handed nothing stream stream []
handed_none stream = record { whole = []; rest = []; read = Consumes-nil stream; ended = tt; lines_are = refl; holds = holds_nothing }

-- what is read is held
pub handed_filled : (old new : Held) (was now : Option (List ℕ)) → Fills old new was now → KeepsHanded old new was now
handed_filled old new was now fills before lines handed =
    let filled = fills handed.rest handed.holds in
    record {
      whole = handed.whole;
      rest = handed.rest ++ filled.0;
      read = rw (← append_assoc handed.whole handed.rest filled.0)
          (Consumes-trans before was now (handed.whole ++ handed.rest) filled.0 handed.read filled.1);
      ended = handed.ended;
      lines_are = handed.lines_are;
      holds = filled.2;
    }

pub keeps_filled : (first old new : Held) (begun was now : Option (List ℕ)) → KeepsHanded first old begun was → Fills old new was now
    → KeepsHanded first new begun now
keeps_filled first old new begun was now keeps fills before lines handed = handed_filled old new was now fills before lines (keeps before lines handed)

-- the line that is passed
module _ (old new : Held) (has : HasLine old.bytes) (rest_is : new.bytes ≡ after_line old.bytes) (short : new.too_long ≡ false) where
  pub handed_next : HandsOut old new
  handed_next before now lines handed =
      let line : List ℕ = first_line handed.rest in
      let there : HasLine handed.rest = holds_line old handed.rest handed.holds has in
      record {
        whole = handed.whole ++ (line ++ 10 ∷ []);
        rest = after_line handed.rest;
        read = subst (Consumes before now) (ap (λ l. handed.whole ++ l) (there ∙ sym (append_assoc line (10 ∷ []) (after_line handed.rest)))
            ∙ sym (append_assoc handed.whole (line ++ 10 ∷ []) (after_line handed.rest))) handed.read;
        ended = ends_line-append handed.whole (line ++ 10 ∷ []) handed.ended (ends_line line);
        lines_are = ap (λ ls. ls ++ line ∷ []) handed.lines_are
            ∙ ap (λ ls. lines_of handed.whole ++ ls) (sym (lines_of-line line [] (first_line-no_feed handed.rest)))
            ∙ sym (lines_of-whole handed.whole (line ++ 10 ∷ []) handed.ended);
        holds = record {
          front = [];
          parts = holds_after old handed.rest handed.holds ∙ sym rest_is;
          dropped = subst (λ (t : Bool). IsDropped t []) (sym short) refl;
        };
      }

-- ---- the lines of the whole stream

module _ (held : Held) (before now : Option (List ℕ)) (lines : List (List ℕ)) (handed : Handed held before now lines) where
  -- they are those that were handed out, and then those of what is held and unread
  pub lines_with : (unread : List ℕ) → lines_of ((handed.whole ++ handed.rest) ++ unread) ≡ lines ++ lines_of (handed.rest ++ unread)
  lines_with unread =
      ap lines_of (append_assoc handed.whole handed.rest unread) ∙ lines_of-whole handed.whole (handed.rest ++ unread) handed.ended
      ∙ ap (λ ls. ls ++ lines_of (handed.rest ++ unread)) (sym handed.lines_are)

  pub lines_read : lines_of (handed.whole ++ handed.rest) ≡ lines ++ lines_of handed.rest
  lines_read = lines_of-whole handed.whole handed.rest handed.ended ∙ ap (λ ls. ls ++ lines_of handed.rest) (sym handed.lines_are)

  -- at the end of the stream, with nothing held, all were handed out
  pub all_handed : size held ≡ 0 → IsAtEnd now → IfSome before (λ input. lines_of input ≡ lines)
  all_handed none end =
      Consumes-whole before now (handed.whole ++ handed.rest) (λ input. lines_of input ≡ lines) handed.read end
      (lines_read ∙ ap (λ bytes. lines ++ lines_of bytes) (holds_none held handed.rest handed.holds none) ∙ append-nil lines)

  -- at the end of the stream what is held is the last line
  pub last_held : NoFeed held.bytes → 0 < size held → IsAtEnd now → IfSome before (λ input. lines_of input ≡ lines ++ first_line handed.rest ∷ [])
  last_held none some end =
      let unended : NoFeed handed.rest = holds_no_feed held handed.rest handed.holds none in
      let last : lines_of handed.rest ≡ first_line handed.rest ∷ [] =
      lines_of-last handed.rest unended (holds_some held handed.rest handed.holds some) ∙ ap (λ l. l ∷ []) (sym (first_line-all handed.rest unended)) in
      Consumes-whole before now (handed.whole ++ handed.rest) (λ input. lines_of input ≡ lines ++ first_line handed.rest ∷ []) handed.read end
      (lines_read ∙ ap (λ ls. lines ++ ls) last)

  -- a whole line that is held is the next line
  pub next_held : HasLine held.bytes → IfSome before (λ input. (more : List (List ℕ)) × (lines_of input ≡ lines ++ first_line handed.rest ∷ more))
  next_held has = next_in before now handed.read
    where
      there : HasLine handed.rest
      there = holds_line held handed.rest handed.holds has

      next_in : (b n : Option (List ℕ)) → Consumes b n (handed.whole ++ handed.rest)
          → IfSome b (λ input. (more : List (List ℕ)) × (lines_of input ≡ lines ++ first_line handed.rest ∷ more))
      next_in None n read = tt
      next_in (Some input) None read = absurd read
      next_in (Some input) (Some unread) read = (
        lines_of (after_line handed.rest ++ unread),
        ap lines_of read ∙ lines_with unread ∙ ap (λ ls. lines ++ ls) (lines_of-has handed.rest unread there),
      )

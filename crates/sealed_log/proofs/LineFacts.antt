-- What is read of a line, piece by piece.
use Rattle.std.proofs.Common.{◌≡◌, ◌≢◌, ℕ, ◌+◌, ◌-◌, ◌≤◌, ◌<◌, List, [], ◌∷◌, ◌++◌, length, take, drop, slice_index, refl, sym, ap, ◌∙◌, arith, append_assoc, length-append, length-drop, take-append-drop}
use Rattle.std.proofs.lemmas.List.{drop-drop, drop_at, drop_more, ext_get_or, get_or-take, get_or-drop, length-take-le}
use Rattle.std.proofs.lemmas.List.Elements.{All-append}
use Rattle.sqlite_disk.specs.Disk.{Holds}
use Rattle.sqlite_disk.specs.declared.Disk.{Ghosts}
use Rattle.sealed_log.specs.Disks.{IsRead}
use Rattle.streams.specs.Lines.{NoFeed}
use Rattle.sealed_log.specs.Sealed.{sealed_line}
use Rattle.sealed_log.specs.Told.{IsSeal, body_in, told_behind}
use Rattle.sealed_log.specs.Lines.{IsPart, IsLine}
use Rattle.sealed_log.proofs.ToldFacts.{IsBody-body_in, told_line, whole_line}

pub IsRead-trans : {D : Type 0} (g : Ghosts D) (a b c : D) → IsRead g a b → IsRead g b c → IsRead g a c
IsRead-trans g a b c first then_ = record {
  seen = then_.seen ∙ first.seen;
  usable = then_.usable;
  counts = let was = first.counts in let more = then_.counts in omega (arith, was, more);
  tally = then_.tally ∙ first.tally;
  clean = λ is. first.clean (then_.clean is);
  crash = λ left may. first.crash left (then_.crash left may);
}

-- what a file has at a place, and what stands behind it
pub held : (file bytes : List ℕ) (at : ℕ) → Holds file at bytes → drop at file ≡ bytes ++ drop (at + length bytes) file
held file bytes at holds =
    let n = length bytes in
    let long : n ≤ length (drop at file) = omega (arith, holds.within, length-drop at file) in
    let front : take n (drop at file) ≡ bytes = ext_get_or 0 (take n (drop at file)) bytes (length-take-le n (drop at file) long) λ i low.
    let below : i < n = omega (arith, low, length-take-le n (drop at file) long) in
    get_or-take n (drop at file) i 0 below ∙ get_or-drop at file i 0 ∙ holds.each i below in
    sym (take-append-drop n (drop at file)) ∙ ap (λ (l : List ℕ). l ++ drop n (drop at file)) front
    ∙ ap (λ (l : List ℕ). bytes ++ l) (drop-drop n at file)

-- behind a part of a line, what the file has there
behind : (bytes line piece : List ℕ) (at : ℕ) → IsPart bytes at line → Holds bytes (at + length line) piece
    → drop at bytes ≡ (line ++ piece) ++ drop (at + length line + length piece) bytes
behind bytes line piece at part holds =
    part.is ∙ ap (λ (l : List ℕ). line ++ l) (held bytes piece (at + length line) holds)
    ∙ sym (append_assoc line piece (drop (at + length line + length piece) bytes))

pub part_more : (bytes line piece : List ℕ) (at : ℕ) → IsPart bytes at line → Holds bytes (at + length line) piece
    → NoFeed piece → IsPart bytes at (line ++ piece)
part_more bytes line piece at part holds body = record {
  is =
      let same : at + length line + length piece ≡ at + length (line ++ piece) = omega (arith, length-append line piece) in
      behind bytes line piece at part holds ∙ ap (λ n. (line ++ piece) ++ drop n bytes) same;
  one = All-append (λ b. b ≢ 10) line piece part.one body;
}

pub part_whole : (bytes line piece : List ℕ) (at n : ℕ) → IsPart bytes at line → Holds bytes (at + length line) piece
    → n < length piece → NoFeed (take n piece) → slice_index piece n ≡ 10 → IsLine bytes at (line ++ take n piece)
part_whole bytes line piece at n part holds low body feed =
    let front = take n piece in
    let whole = line ++ front in
    let size : length front ≡ n = length-take-le n piece (omega (arith, low)) in
    let after = drop (at + length line + length piece) bytes in
    let split : piece ≡ front ++ 10 ∷ drop (n + 1) piece =
    sym (take-append-drop n piece) ∙ ap (λ (l : List ℕ). front ++ l) (drop_more piece n 0 low ∙ ap (λ b. b ∷ drop (n + 1) piece) feed) in
    let there : drop at bytes ≡ whole ++ (10 ∷ (drop (n + 1) piece ++ after)) =
    behind bytes line piece at part holds ∙ ap (λ (l : List ℕ). (line ++ l) ++ after) split
    ∙ ap (λ (l : List ℕ). l ++ after) (sym (append_assoc line front (10 ∷ drop (n + 1) piece)))
    ∙ append_assoc whole (10 ∷ drop (n + 1) piece) after in
    let rest : drop (at + length whole + 1) bytes ≡ drop (n + 1) piece ++ after =
    let first : at + length whole + 1 ≡ at + (length whole + 1) = omega arith in
    ap (λ k. drop k bytes) first ∙ sym (drop-drop (length whole + 1) at bytes)
    ∙ ap (λ (l : List ℕ). drop (length whole + 1) l) (there ∙ sym (append_assoc whole (10 ∷ []) (drop (n + 1) piece ++ after)))
    ∙ drop_at (whole ++ 10 ∷ []) (drop (n + 1) piece ++ after) (length whole + 1) (length-append whole (10 ∷ [])) in
    record {
      is = there ∙ ap (λ (l : List ℕ). whole ++ 10 ∷ l) (sym rest);
      one = All-append (λ b. b ≢ 10) line front part.one body;
    }

-- what a line tells

pub line_text : (bytes line prior seal : List ℕ) (at : ℕ) → IsLine bytes at line → IsSeal prior line seal
    → drop at bytes ≡ sealed_line prior (body_in line) ++ drop (at + length line + 1) bytes
line_text bytes line prior seal at found sealed = found.is ∙ whole_line prior line (drop (at + length line + 1) bytes) 10 refl sealed.holds

pub line_told : (bytes line prior seal : List ℕ) (at : ℕ) → IsLine bytes at line → IsSeal prior line seal
    → told_behind prior (drop at bytes) ≡ body_in line ∷ told_behind seal (drop (at + length line + 1) bytes)
line_told bytes line prior seal at found sealed =
    let rest = drop (at + length line + 1) bytes in
    ap (told_behind prior) (line_text bytes line prior seal at found sealed)
    ∙ told_line prior (body_in line) rest (IsBody-body_in prior line found.one sealed.holds)
    ∙ ap (λ (s : List ℕ). body_in line ∷ told_behind s rest) (sym sealed.is)

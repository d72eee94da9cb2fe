-- A line's text reads back as the line.
use Rattle.std.proofs.Common.{◌≡◌, ◌∙◌, ℕ, List, Option, Some, None, Ok, Err, true, false, bytes_eq, refl, sym, ap, lit≤}
use Rattle.std.specs.Prelude.{IsUtf8, option_and_then}
use Rattle.std.proofs.lemmas.Slice.Eq.{bytes_eq-Decides}
use Rattle.serde_json.specs.Data.{Data}
use Rattle.serde_json.specs.Read.{max_depth, read}
use Rattle.profile_text.proofs.Printing.{deeper, printed_json}
use Rattle.json_requests.proofs.RequestFacts.{value_is, value_is_none}
use Rattle.sealed_log.specs.declared.unreadable.Unreadable.{Unreadable}
use Rattle.sealed_log.specs.declared.unreadable.Unreadable.TheVariants.{NotALine, NoEventBefore, Unsealed, TornLine, Read, NoMemory}
use Rattle.journal.specs.declared.line.Line as of_lines
use Rattle.journal.specs.Faults.{IsCandidate, IsRead}
use Rattle.journal.specs.Forms.{IsFormed, IsNumbered}
use Rattle.journal.specs.Lines.{Line, line_data, text_of}
use Rattle.journal.specs.Read.{candidate_at, candidate_in}
use Rattle.journal.specs.Shown.{shown}
use Rattle.journal.proofs.FoundLines.{found}
use Rattle.journal.proofs.NumberFacts.{numbered}
use Rattle.journal.proofs.PrintedLines.{line_prints}

-- ---- what is written is read

pub candidate_back : (l : Line) → IsFormed l → candidate_in (text_of l) ≡ Some l
unfolding candidate_in text_of
candidate_back l h =
    ap (option_and_then candidate_at) (printed_json (line_data l) (deeper 2 max_depth (Some (line_data l)) (lit≤ tt) (line_prints l h))) ∙ found l h

pub same_line : (a b : Line) → IsFormed a → IsFormed b → text_of a ≡ text_of b → a ≡ b
same_line a b is_a is_b same =
    let both : ◌≡◌ {A = Option Line} (Some a) (Some b) = sym (candidate_back a is_a) ∙ ap candidate_in same ∙ candidate_back b is_b in
    cc

-- ---- what a text may be

pub candidate_is : (bytes : List ℕ) (d : Data) (o : Option Line) → IsUtf8 bytes → read bytes ≡ Some d → candidate_at d ≡ o → candidate_in bytes ≡ o
unfolding candidate_in
candidate_is bytes d o text is found = rw (value_is bytes d text is) found

pub candidate_none : (bytes : List ℕ) → (IsUtf8 bytes → read bytes ≡ None) → candidate_in bytes ≡ None
unfolding candidate_in
candidate_none bytes none = rw (value_is_none bytes none) refl

-- ---- what isn't read

-- a text that may be no line is that of none
pub unread : (bytes : List ℕ) (e : Unreadable) → IsCandidate (Err e) (candidate_in bytes) → IsRead bytes (Err e)
unread bytes NotALine none = λ line formed same.
    let both : ◌≡◌ {A = Option Line} None (Some line) = sym none ∙ ap candidate_in same ∙ candidate_back line formed in
    cc
unread bytes (NoMemory _) none = tt
unread bytes NoEventBefore none = none
unread bytes Unsealed none = none
unread bytes TornLine none = none
unread bytes Read none = none

-- and neither is one that isn't the text of what it may be
pub read_other : (bytes : List ℕ) (l : of_lines.Line) → candidate_in bytes ≡ Some (shown l) → bytes_eq (text_of (shown l)) bytes ≡ false → IsRead bytes (Err NotALine)
read_other bytes l found other line formed same =
    let both : ◌≡◌ {A = Option Line} (Some (shown l)) (Some line) = sym found ∙ ap candidate_in same ∙ candidate_back line formed in
    let one : shown l ≡ line = cc in
    let equal : bytes_eq (text_of (shown l)) bytes ≡ true = (bytes_eq-Decides (text_of (shown l)) bytes).1 (ap text_of one ∙ sym same) in
    cc

pub read_same : (bytes : List ℕ) (l : of_lines.Line) → candidate_in bytes ≡ Some (shown l) → (IsNumbered (shown l) → IsFormed (shown l)) → bytes_eq (text_of (shown l)) bytes ≡ true
    → IsRead bytes (Ok l)
read_same bytes l found forms same =
    (sym ((bytes_eq-Decides (text_of (shown l)) bytes).0 same), forms (numbered bytes (shown l) found))

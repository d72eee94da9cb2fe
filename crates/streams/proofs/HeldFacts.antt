-- What a buffer of lines holds, and the bytes that it stands for.
use Rattle.std.proofs.Common.{◌≡◌, ◌≢◌, ◌∙◌, ℕ, ◌+◌, ◌<◌, Bool, true, false, List, [], ◌++◌, length, refl, sym, ap, subst, arith, inl, inr, length-append, lt-ltb, le-ltb}
use Rattle.std.specs.Prelude.{◌⊎◌, if◌then◌else◌, nat_lt}
use Rattle.std.proofs.lemmas.Bool.{cases_lt}
use Rattle.std.proofs.lemmas.List.{nil_from_length}
use Rattle.std.proofs.lemmas.List.Elements.{All-nil, All-append}
use Rattle.streams.specs.Held.{Held, Holds, IsDropped, HasLine, nothing, size}
use Rattle.streams.specs.Lines.{first_line, after_line, NoFeed}
use Rattle.streams.specs.declared.lines.TheConstants.{MAX_LINE}
use Rattle.streams.proofs.LineFacts.{first_line-front, after_line-front, has_line-front, has_line-not}

abbrev IsNoFeed : ℕ → Type 0
IsNoFeed b = b ≢ 10

-- what was dropped has no line feed
pub dropped_no_feed : (too_long : Bool) (front : List ℕ) → IsDropped too_long front → NoFeed front
dropped_no_feed false front none = rw none (All-nil IsNoFeed)
dropped_no_feed true front dropped = dropped.0

pub holds_nothing : Holds nothing []
holds_nothing = record { front = []; parts = refl; dropped = refl }

module _ (held : Held) (bytes : List ℕ) (holds : Holds held bytes) where
  pub holds_first : first_line bytes ≡ holds.front ++ first_line held.bytes
  holds_first = ap first_line holds.parts ∙ first_line-front holds.front held.bytes (dropped_no_feed held.too_long holds.front holds.dropped)

  pub holds_after : after_line bytes ≡ after_line held.bytes
  holds_after = ap after_line holds.parts ∙ after_line-front holds.front held.bytes (dropped_no_feed held.too_long holds.front holds.dropped)

  pub holds_line : HasLine held.bytes → HasLine bytes
  holds_line has = rw (holds.parts) (has_line-front holds.front held.bytes (dropped_no_feed held.too_long holds.front holds.dropped) has)

  pub holds_no_feed : NoFeed held.bytes → NoFeed bytes
  holds_no_feed none = rw (holds.parts) (All-append IsNoFeed holds.front held.bytes (dropped_no_feed held.too_long holds.front holds.dropped) none)

-- nothing is held just where there is no byte
none_held : (too_long : Bool) (front bytes : List ℕ) → IsDropped too_long front → length bytes + (if too_long then 1 else 0) ≡ 0
    → front ++ bytes ≡ []
none_held false front bytes none small = rw none (nil_from_length bytes (omega arith))
none_held true front bytes dropped small = absurd (omega arith)

some_held : (too_long : Bool) (front bytes : List ℕ) → IsDropped too_long front → 0 < length bytes + (if too_long then 1 else 0)
    → 0 < length (front ++ bytes)
some_held false front bytes none some = omega (arith, length-append front bytes)
some_held true front bytes dropped some = omega (arith, dropped.1, length-append front bytes)

pub holds_none : (held : Held) (bytes : List ℕ) → Holds held bytes → size held ≡ 0 → bytes ≡ []
holds_none held bytes holds small = holds.parts ∙ none_held held.too_long holds.front held.bytes holds.dropped small

pub holds_some : (held : Held) (bytes : List ℕ) → Holds held bytes → 0 < size held → 0 < length bytes
holds_some held bytes holds some = rw (holds.parts) (some_held held.too_long holds.front held.bytes holds.dropped some)

-- ---- the first line

long_front : (too_long : Bool) (front : List ℕ) → IsDropped too_long front → too_long ≡ true → MAX_LINE < length front
long_front true front dropped is = dropped.1
long_front false front dropped is = cc

short_front : (too_long : Bool) (front : List ℕ) → IsDropped too_long front → too_long ≡ false → front ≡ []
short_front false front dropped is = dropped
short_front true front dropped is = cc

-- it is too long where bytes of it were dropped, or what there is of it is
pub first_long : (held : Held) (bytes : List ℕ) → Holds held bytes → (held.too_long ≡ true) ⊎ (MAX_LINE < length (first_line held.bytes))
    → MAX_LINE < length (first_line bytes)
first_long held bytes holds why =
    let all = ap length (holds_first held bytes holds) ∙ length-append holds.front (first_line held.bytes) in
    elim why [
      | inl is ↦ omega (arith, all, long_front held.too_long holds.front holds.dropped is)
      | inr long ↦ omega (arith, all, long)
    ]

pub first_short : (held : Held) (bytes : List ℕ) → Holds held bytes → held.too_long ≡ false → first_line bytes ≡ first_line held.bytes
first_short held bytes holds is =
    holds_first held bytes holds ∙ ap (λ l. l ++ first_line held.bytes) (short_front held.too_long holds.front holds.dropped is)

-- ---- reading on

-- what is held of an unfinished line is dropped just where it is too long
abbrev pub IsDropping : Held → Bool → Type 0
IsDropping held true = (held.too_long ≡ true) ⊎ (MAX_LINE < length held.bytes)
IsDropping held false = held.too_long ≡ false

pub dropping_by_length : (held : Held) (n : ℕ) → held.too_long ≡ false → n ≡ length held.bytes → IsDropping held (nat_lt MAX_LINE n)
dropping_by_length held n is same = elim (cases_lt MAX_LINE n) [
  | inl long ↦ rw (lt-ltb MAX_LINE n long) (inr (omega (arith, long, same)))
  | inr short ↦ rw (le-ltb MAX_LINE n short) is
]

-- an unfinished line that is too long
long_unfinished : (held : Held) (bytes : List ℕ) → Holds held bytes → NoFeed held.bytes → IsDropping held true → MAX_LINE < length bytes
long_unfinished held bytes holds none why =
    let all = ap length holds.parts ∙ length-append holds.front held.bytes in
    elim why [
      | inl is ↦ omega (arith, all, long_front held.too_long holds.front holds.dropped is)
      | inr long ↦ omega (arith, all, long)
    ]

pub holds_filled : (held : Held) (drops : Bool) (now more bytes : List ℕ) → NoFeed held.bytes → IsDropping held drops
    → now ≡ (if drops then [] else held.bytes) ++ more → Holds held bytes
    → Holds (record { bytes = now; too_long = drops }) (bytes ++ more)
holds_filled held true now more bytes none why is holds = record {
  front = bytes;
  parts = ap (λ l. bytes ++ l) (sym is);
  dropped = (holds_no_feed held bytes holds none, long_unfinished held bytes holds none why);
}
holds_filled held false now more bytes none why is holds = record {
  front = [];
  parts = ap (λ l. l ++ more) (holds.parts ∙ ap (λ l. l ++ held.bytes) (short_front held.too_long holds.front holds.dropped why)) ∙ sym is;
  dropped = refl;
}

-- a line that was held is still held where nothing changed
pub unheld : (first now : Held) → (HasLine first.bytes → now ≡ first) → NoFeed now.bytes → HasLine first.bytes → ⊥
unheld first now same none has = has_line-not first.bytes (subst (λ (h : Held). NoFeed h.bytes) (same has) none) has

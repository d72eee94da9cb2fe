-- The text of a line has no control character, so no line feed.
use Rattle.std.proofs.Common.{◌≡◌, ◌≢◌, ℕ, ◌<◌, ◌≤◌, ◌^◌, ◌+◌, ◌%◌, List, [], ◌∷◌, ◌++◌, map, Bool, true, false, decimal, refl, arith, inl, inr, le-leb, leb-true, All}
use Rattle.std.specs.Prelude.{nat_le}
use Rattle.std.specs.List.{list_all}
use Rattle.std.proofs.lemmas.Bool.{and_parts, cases_lt}
use Rattle.std.proofs.lemmas.Fmt.{decimal_by_steps}
use Rattle.std.proofs.lemmas.List.Elements.{All-nil, All-cons, All-weaker}
use Rattle.json.proofs.Printed.Strings.{escape_byte_plain}
use Rattle.json.specs.Print.{escape, escape_byte, quoted}
use Rattle.serde_json.specs.Data.{unsigned, negative, float, Data, null, boolean, number, string, array, object, Items, no_items, item, Members, no_members, member}
use Rattle.serde_json.specs.View.{items_of}
use Rattle.serde_json.specs.Written.{comma_if, compact_text, items_text, members_text}
use Rattle.cap_sets.specs.Capability.{names_of}
use Rattle.office_policy.specs.History.{founded, enrolled, submitted, voted, on_revision, on_profile}
use Rattle.office_policy.specs.Formed.{IsNumber}
use Rattle.streams.specs.Lines.{NoFeed}
use Rattle.journal.specs.Forms.{IsFormed}
use Rattle.office_words.specs.WordTables.{role_words}
use Rattle.journal.specs.Lines.{Line, happened, strike, done, line_data, text_of}
use Rattle.journal.proofs.Tables.{holds_below, each_below}

-- no byte is that of a control character
abbrev pub are_printed : List ℕ → Bool
are_printed bytes = list_all (nat_le 32) bytes

printed-append : (xs ys : List ℕ) → are_printed xs ≡ true → are_printed ys ≡ true → are_printed (xs ++ ys) ≡ true
printed-append [] ys a b = b
printed-append (x ∷ xs) ys a b = let parts = and_parts (nat_le 32 x) (are_printed xs) a in rw parts.0 (printed-append xs ys parts.1 b)

abbrev is_printed_escape : ℕ → Bool
is_printed_escape x = are_printed (escape_byte x)

escapes_printed : holds_below is_printed_escape 128 ≡ true
unfolding escape_byte
escapes_printed = refl

escape_printed : (x : ℕ) → are_printed (escape_byte x) ≡ true
escape_printed x = elim (cases_lt x 128) [
  | inl small ↦ each_below is_printed_escape 128 x escapes_printed small
  | inr big ↦ rw (escape_byte_plain x (λ e. omega arith) (λ e. omega arith) (omega arith), le-leb 32 x (omega arith)) refl
]

all_escaped : (s : List ℕ) → are_printed (escape s) ≡ true
all_escaped [] = refl
all_escaped (x ∷ s) = printed-append (escape_byte x) (escape s) (escape_printed x) (all_escaped s)

quoted_printed : (s : List ℕ) → are_printed (quoted s) ≡ true
quoted_printed s = printed-append (escape s) (34 ∷ []) (all_escaped s) refl

digits_printed : (n : ℕ) → n < 2 ^ 64 → are_printed (decimal n) ≡ true
digits_printed n small = decimal_by_steps (λ _ ds. are_printed ds ≡ true) (λ d lt. rw (le-leb 32 (48 + d) (omega arith)) refl)
    (λ m ds ge before. printed-append ds ((48 + m % 10) ∷ []) before (rw (le-leb 32 (48 + m % 10) (omega arith)) refl)) n small

-- ---- values

-- its numbers are whole and fit 64 bits
abbrev mutual
  pub HasSmall : Data → Type 0
  HasSmall null = Unit {0}
  HasSmall (boolean b) = Unit {0}
  HasSmall (number (unsigned n)) = n < 2 ^ 64
  HasSmall (number (negative z)) = ⊥
  HasSmall (number (float x)) = ⊥
  HasSmall (string s) = Unit {0}
  HasSmall (array ds) = ItemsHaveSmall ds
  HasSmall (object ms) = MembersHaveSmall ms

  pub ItemsHaveSmall : Items → Type 0
  ItemsHaveSmall no_items = Unit {0}
  ItemsHaveSmall (item d ds) = HasSmall d × ItemsHaveSmall ds

  pub MembersHaveSmall : Members → Type 0
  MembersHaveSmall no_members = Unit {0}
  MembersHaveSmall (member k d ms) = HasSmall d × MembersHaveSmall ms

comma_printed : (later : Bool) → are_printed (comma_if later) ≡ true
comma_printed true = refl
comma_printed false = refl

mutual
  value_printed : (d : Data) → HasSmall d → are_printed (compact_text d) ≡ true
  value_printed null h = refl
  value_printed (boolean true) h = refl
  value_printed (boolean false) h = refl
  value_printed (number (unsigned n)) h = digits_printed n h
  value_printed (number (negative z)) h = absurd h
  value_printed (number (float x)) h = absurd h
  value_printed (string s) h = quoted_printed s
  value_printed (array ds) h = items_printed false ds h
  value_printed (object ms) h = members_printed false ms h

  items_printed : (later : Bool) (ds : Items) → ItemsHaveSmall ds → are_printed (items_text later ds) ≡ true
  items_printed later no_items h = refl
  items_printed later (item d ds) h =
      printed-append (comma_if later) _ (comma_printed later) (printed-append (compact_text d) _ (value_printed d h.0) (items_printed true ds h.1))

  members_printed : (later : Bool) (ms : Members) → MembersHaveSmall ms → are_printed (members_text later ms) ≡ true
  members_printed later no_members h = refl
  members_printed later (member k d ms) h =
      let rest = printed-append (compact_text d) _ (value_printed d h.0) (members_printed true ms h.1) in
      printed-append (comma_if later) _ (comma_printed later) (printed-append (quoted k) _ (quoted_printed k) rest)

texts_small : (texts : List (List ℕ)) → ItemsHaveSmall (items_of (map string texts))
texts_small [] = tt
texts_small (text ∷ texts) = (tt, texts_small texts)

number_small : (n : ℕ) → IsNumber n → n < 2 ^ 64
number_small n h = let low = h.0 in let high = h.1 in omega arith

pub line_small : (l : Line) → IsFormed l → HasSmall (line_data l)
line_small (happened (founded name team digest listed)) h = (tt, (tt, (texts_small (names_of listed), (tt, (tt, tt)))))
line_small (happened (enrolled caller name team roles digest)) h = (tt, (tt, (tt, (texts_small (role_words roles), (tt, (tt, tt))))))
line_small (happened (submitted caller p text)) h = (tt, (tt, (tt, (tt, (tt, tt)))))
line_small (happened (voted caller p n digest approves)) h = (tt, (tt, (tt, (tt, (number_small n h.2, (tt, (tt, tt)))))))
line_small (happened (on_revision caller act p n)) h = (tt, (tt, (tt, (number_small n h.2, (tt, tt)))))
line_small (happened (on_profile caller act p)) h = (tt, (tt, (tt, (tt, tt))))
line_small strike h = (tt, tt)
line_small (done n) h = (tt, (h, tt))

line_printed : (l : Line) → IsFormed l → are_printed (text_of l) ≡ true
unfolding text_of
line_printed l h = value_printed (line_data l) (line_small l h)

abbrev IsPrinted : ℕ → Type 0
IsPrinted byte = 32 ≤ byte

all_from : (bytes : List ℕ) → are_printed bytes ≡ true → All IsPrinted bytes
all_from [] h = All-nil IsPrinted
all_from (x ∷ bytes) h =
    let parts = and_parts (nat_le 32 x) (are_printed bytes) h in
    All-cons IsPrinted x bytes (leb-true 32 x parts.0) (all_from bytes parts.1)

pub no_controls : (l : Line) → IsFormed l → All (λ byte. 32 ≤ byte) (text_of l)
no_controls l h = all_from (text_of l) (line_printed l h)

pub no_feed : (l : Line) → IsFormed l → NoFeed (text_of l)
no_feed l h = All-weaker (λ byte. 32 ≤ byte) (λ byte. byte ≢ 10) (λ byte above same. omega arith) (text_of l) (no_controls l h)

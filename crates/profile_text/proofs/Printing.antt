-- A value that is printed reads back: its text is UTF-8, its numbers are numbers of JSON, it nests little, and it is
-- what its outline reads as.
use Rattle.std.proofs.Common.{◌≡◌, ◌∙◌, ℕ, suc, ◌^◌, ◌<◌, ◌≤◌, List, [], ◌∷◌, ◌++◌, All, map, Option, Some, None, Bool, true, false, refl, sym, ap, arith, append-nil, option_and_then, decimal}
use Rattle.std.specs.Prelude.{IsUtf8}
use Rattle.std.proofs.lemmas.Fmt.{IsAscii-decimal}
use Rattle.std.proofs.lemmas.List.Elements.{All-head, All-tail}
use Rattle.std.proofs.lemmas.Str.{IsUtf8-append, IsUtf8-from_ascii, is_utf8-from_IsUtf8}
use Rattle.json.proofs.Printed.Decimals.{IsNumber-decimal}
use Rattle.json.proofs.Printed.Tokens.{tokens-print}
use Rattle.json.proofs.Printed.Trees.{ArePrintable-json_tokens, value-json_tokens}
use Rattle.json.proofs.Printed.Utf8.{are_ascii, IsUtf8-are_ascii, IsUtf8-quoted}
use Rattle.json.specs.Json as json
use Rattle.json.specs.Lex.{tokens}
use Rattle.json.specs.Print.{quoted}
use Rattle.json.specs.Token.{Token}
use Rattle.json.specs.Tree as tree
use Rattle.serde_json.proofs.Numbers.{number_of-decimal}
use Rattle.serde_json.proofs.Texts.{print-outline}
use Rattle.serde_json.specs.Data.{Data, string, number, unsigned, array, object, Items, Members, no_members}
use Rattle.serde_json.specs.Read.{read, of_items, of_json, max_depth}
use Rattle.serde_json.specs.View.{items_of}
use Rattle.serde_json.specs.Written.{compact_text, items_text, members_text, comma_if, outline, items_outline, members_outline}
use Rattle.profile_text.specs.Reading.{json_of}
use Rattle.profile_text.specs.Text.{member_if, some_list}

pub record Prints (levels : ℕ) (d : Data) : Type 0 where
  pub utf8 : IsUtf8 (compact_text d)
  pub numbers : tree.HasNumbers (outline d)
  pub back : of_json (outline d) ≡ Some d
  pub shallow : tree.depth (outline d) ≤ levels

-- the same of a value that is there
abbrev pub PrintsIf : ℕ → Option Data → Type 0
PrintsIf levels None = Unit {0}
PrintsIf levels (Some d) = Prints levels d

pub ascii_then : (x : ℕ) (xs : List ℕ) → are_ascii (x ∷ []) ≡ true → IsUtf8 xs → IsUtf8 (x ∷ xs)
ascii_then x xs small rest = IsUtf8-append (x ∷ []) xs (IsUtf8-are_ascii (x ∷ []) small) rest

comma_utf8 : (later : Bool) (rest : List ℕ) → IsUtf8 rest → IsUtf8 (comma_if later ++ rest)
comma_utf8 true rest h = ascii_then 44 rest refl h
comma_utf8 false rest h = h

pub text_prints : (s : List ℕ) → IsUtf8 s → Prints 0 (string s)
text_prints s h = record { utf8 = IsUtf8-quoted s h; numbers = tt; back = refl; shallow = omega arith }

pub number_prints : (n : ℕ) → n < 2 ^ 64 → Prints 0 (number (unsigned n))
number_prints n h = record {
  utf8 = IsUtf8-from_ascii (decimal n) (IsAscii-decimal n h);
  numbers = IsNumber-decimal n h;
  back = rw (number_of-decimal n h) refl;
  shallow = omega arith;
}

-- ---- lists

record ItemsPrint (levels : ℕ) (ds : Items) : Type 0 where
  pub utf8 : (later : Bool) → IsUtf8 (items_text later ds)
  pub numbers : tree.ItemsHaveNumbers (items_outline ds)
  pub back : of_items (items_outline ds) ≡ Some ds
  pub shallow : tree.items_depth (items_outline ds) ≤ levels

items_print : {X : Type 0} (written : X → Data) (levels : ℕ) (xs : List X) → All (λ x. Prints levels (written x)) xs → ItemsPrint levels (items_of (map written xs))
items_print written levels [] all = record {
  utf8 = λ later. ascii_then 93 [] refl (IsUtf8-are_ascii [] refl);
  numbers = tt;
  back = refl;
  shallow = omega arith;
}
items_print {X} written levels (x ∷ xs) all =
    let first = All-head (λ (y : X). Prints levels (written y)) x xs all in
    let rest = items_print written levels xs (All-tail (λ (y : X). Prints levels (written y)) x xs all) in
    let low = first.shallow in
    let others = rest.shallow in
    record {
      utf8 = λ later. comma_utf8 later _ (IsUtf8-append (compact_text (written x)) _ first.utf8 (rest.utf8 true));
      numbers = (first.numbers, rest.numbers);
      back = rw (first.back, rest.back) refl;
      shallow = omega arith;
    }

pub list_prints : {X : Type 0} (written : X → Data) (levels : ℕ) (xs : List X) → All (λ x. Prints levels (written x)) xs → Prints (suc levels) (array (items_of (map written xs)))
list_prints written levels xs all =
    let items = items_print written levels xs all in
    let low = items.shallow in
    record { utf8 = ascii_then 91 _ refl (items.utf8 false); numbers = items.numbers; back = rw items.back refl; shallow = omega arith }

pub some_list_prints : {X : Type 0} (written : X → Data) (levels : ℕ) (xs : List X) → All (λ x. Prints levels (written x)) xs → PrintsIf (suc levels) (some_list (map written xs))
some_list_prints written levels [] all = tt
some_list_prints written levels (x ∷ xs) all = list_prints written levels (x ∷ xs) all

-- ---- members

pub record MembersPrint (levels : ℕ) (ms : Members) : Type 0 where
  pub utf8 : (later : Bool) → IsUtf8 (members_text later ms)
  pub numbers : tree.MembersHaveNumbers (members_outline ms)
  pub shallow : tree.members_depth (members_outline ms) ≤ levels

pub end_prints : (levels : ℕ) → MembersPrint levels no_members
end_prints levels = record { utf8 = λ later. ascii_then 125 [] refl (IsUtf8-are_ascii [] refl); numbers = tt; shallow = omega arith }

pub member_prints : (levels : ℕ) (name : List ℕ) (o : Option Data) (rest : Members) → are_ascii name ≡ true → PrintsIf levels o → MembersPrint levels rest → MembersPrint levels (member_if name o rest)
member_prints levels name None rest plain first others = others
member_prints levels name (Some d) rest plain first others =
    let low = first.shallow in
    let more = others.shallow in
    record {
      utf8 = λ later. comma_utf8 later _ (IsUtf8-append (quoted name) _ (IsUtf8-quoted name (IsUtf8-are_ascii name plain)) (ascii_then 58 _ refl (IsUtf8-append (compact_text d) _ first.utf8 (others.utf8 true))));
      numbers = (first.numbers, others.numbers);
      shallow = omega arith;
    }

pub object_prints : (levels : ℕ) (ms : Members) → MembersPrint levels ms → of_json (outline (object ms)) ≡ Some (object ms) → Prints (suc levels) (object ms)
object_prints levels ms members back =
    let low = members.shallow in
    record { utf8 = ascii_then 123 _ refl (members.utf8 false); numbers = members.numbers; back = back; shallow = omega arith }

-- a value that is there reads back
abbrev pub Back : Option Data → Type 0
Back None = Unit {0}
Back (Some d) = of_json (outline d) ≡ Some d

pub back_if : (levels : ℕ) (o : Option Data) → PrintsIf levels o → Back o
back_if levels None h = tt
back_if levels (Some d) h = h.back

pub deeper : (levels more : ℕ) (o : Option Data) → levels ≤ more → PrintsIf levels o → PrintsIf more o
deeper levels more None le h = tt
deeper levels more (Some d) le h = let low = h.shallow in record { utf8 = h.utf8; numbers = h.numbers; back = h.back; shallow = omega arith }

-- ---- what was printed is read

abbrev whole : Option (json.Json × List Token) → Option Data
whole o = option_and_then of_json (option_and_then (λ p. json.if_last p.0 p.1) o)

pub printed_json : (d : Data) → Prints max_depth d → json_of (compact_text d) ≡ Some d
printed_json d h =
    let written = outline d in
    let lexed : tokens (compact_text d) ≡ tree.json_tokens written =
    ap tokens (sym (print-outline d)) ∙ tokens-print (tree.json_tokens written) (ArePrintable-json_tokens written h.numbers) in
    let back : read (compact_text d) ≡ Some d =
    ap whole (ap (json.value max_depth) (lexed ∙ sym (append-nil (tree.json_tokens written))) ∙ value-json_tokens written max_depth [] h.shallow) ∙ h.back in
    rw (is_utf8-from_IsUtf8 (compact_text d) h.utf8, back) refl

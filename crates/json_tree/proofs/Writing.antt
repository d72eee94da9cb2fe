-- Tokens that are written one after another.
use Rattle.std.proofs.Common.{◌≡◌, ◌∙◌, ℕ, ◌+◌, ◌<◌, ◌≤◌, List, [], ◌∷◌, ◌++◌, length, get_or, drop, map, Result, Ok, Err, refl, sym, ap, append_assoc, append-nil}
use Rattle.std.proofs.lemmas.List.{drop_more, drop_all}
use Rattle.std.specs.Prelude.{OnOk, flat_map}
use Rattle.json.specs.Token.{Token}
use Rattle.json.specs.Tree.{items_tokens}
use Rattle.serde_json.specs.Data.{Data, array}
use Rattle.serde_json.specs.View.{items_of}
use Rattle.serde_json.specs.Written.{items_outline}
use Rattle.json_tree.specs.Tokens.{Appends, tokens_of}

-- ---- one write after another

pub nothing : (a : List Token) → Appends a a []
nothing a = record { tokens = sym (append-nil a) }

pub after : {a b c xs ys : List Token} → Appends a b xs → Appends b c ys → Appends a c (xs ++ ys)
after {a} {b} {c} {xs} {ys} p q = record { tokens = q.tokens ∙ ap (λ ts. ts ++ ys) p.tokens ∙ append_assoc a xs ys }

-- the last call may have failed
pub after_last : {E : Type 0} (r : Result (Unit {0}) E) {a b : List Token} (c : List Token) {xs : List Token} (ys : List Token) → Appends a b xs → OnOk r (Appends b c ys) → OnOk r (Appends a c (xs ++ ys))
after_last (Ok u) c ys p q = after p q
after_last (Err e) c ys p q = tt

-- ---- the items of a list

abbrev pub all_tokens : {X : Type 0} → (X → Data) → List X → List Token
all_tokens shown xs = flat_map (λ x. tokens_of (shown x)) xs

-- of all that is to be written, this is left
pub record Leaves {X : Type 0} (shown : X → Data) (all left : List X) (a b : List Token) : Type 0 where
  pub tokens : b ++ all_tokens shown left ≡ a ++ all_tokens shown all

pub leaves_all : {X : Type 0} (shown : X → Data) (all left : List X) (a : List Token) → left ≡ all → Leaves shown all left a a
leaves_all shown all left a is = record { tokens = ap (λ xs. a ++ all_tokens shown xs) is }

pub leaves_rest : {X : Type 0} {shown : X → Data} {all left : List X} {a b c : List Token} (x : X) (rest : List X) → Leaves shown all left a b → left ≡ x ∷ rest → Appends b c (tokens_of (shown x)) → Leaves shown all rest a c
leaves_rest {X} {shown} {all} {left} {a} {b} {c} x rest before is more = record {
  tokens =
      ap (λ ts. ts ++ all_tokens shown rest) more.tokens
      ∙ append_assoc b (tokens_of (shown x)) (all_tokens shown rest)
      ∙ ap (λ xs. b ++ all_tokens shown xs) (sym is)
      ∙ before.tokens;
}

pub leaves_none : {X : Type 0} {shown : X → Data} {all left : List X} {a b : List Token} → Leaves shown all left a b → left ≡ [] → Appends a b (all_tokens shown all)
leaves_none {X} {shown} {all} {left} {a} {b} before is = record {
  tokens = sym (append-nil b) ∙ ap (λ xs. b ++ all_tokens shown xs) (sym is) ∙ before.tokens;
}

-- the same of the items of a slice, from a position on
pub item_written : {X : Type 0} {shown : X → Data} {a b c : List Token} (xs : List X) (i : ℕ) (d x : X) → i < length xs → x ≡ get_or xs i d
    → Leaves shown xs (drop i xs) a b → Appends b c (tokens_of (shown x)) → Leaves shown xs (drop (i + 1) xs) a c
item_written {X} {shown} {a} {b} {c} xs i d x lt at before more =
    let here : drop i xs ≡ x ∷ drop (i + 1) xs = rw (drop_more xs i d lt, ← at) refl in
    leaves_rest x (drop (i + 1) xs) before here more

pub items_written : {X : Type 0} {shown : X → Data} {a b : List Token} (xs : List X) (i : ℕ) → length xs ≤ i → Leaves shown xs (drop i xs) a b → Appends a b (all_tokens shown xs)
items_written xs i ge before = leaves_none before (drop_all i xs ge)

items_end : {X : Type 0} (shown : X → Data) (xs : List X) → items_tokens (items_outline (items_of (map shown xs))) ≡ all_tokens shown xs ++ Token.end_array ∷ []
items_end shown [] = refl
items_end shown (x ∷ xs) = rw (items_end shown xs) (sym (append_assoc (tokens_of (shown x)) (all_tokens shown xs) (Token.end_array ∷ [])))

pub list_tokens : {X : Type 0} (shown : X → Data) (xs : List X) → tokens_of (array (items_of (map shown xs))) ≡ Token.begin_array ∷ (all_tokens shown xs ++ Token.end_array ∷ [])
list_tokens shown xs = ap (λ ts. Token.begin_array ∷ ts) (items_end shown xs)

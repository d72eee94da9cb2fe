-- Lists of texts without repeats.
use Rattle.std.specs.Prelude.{ℕ, List, [], ◌∷◌, Bool, ◌&&◌, not, filter, fold, map, bytes_eq}
use Rattle.std.specs.Borrow.{Bor}
use Rattle.std.specs.BTreeSet.{insert_key}
use Rattle.std.specs.Cmp.Lexicographic.{slice_cmp}
use Rattle.std.specs.List.{list_any}
use Rattle.std.specs.List.Sorted.{IsStrictlySortedBy}
use Rattle.std.specs.Ordering.{nat_cmp}

-- the list has the text
abbrev pub lists : List (List ℕ) → List ℕ → Bool
lists texts text = list_any (bytes_eq text) texts

-- each text once, at its first place
abbrev pub each_once : List (List ℕ) → List (List ℕ)
each_once [] = []
each_once (text ∷ texts) = text ∷ filter (λ other. not (bytes_eq text other)) (each_once texts)

-- the texts of a list that aren't in another, each once, at its first place
abbrev pub added_texts : List (List ℕ) → List (List ℕ) → List (List ℕ)
added_texts base new = filter (λ text. not (lists base text)) (each_once new)

-- neither a list nor the earlier texts have a text
abbrev pub is_added : (base earlier : List (List ℕ)) → List ℕ → Bool
is_added base earlier text = not (lists earlier text) && not (lists base text)

-- the new list has a text that the baseline's hasn't
abbrev pub adds_a_text : List (List ℕ) → List (List ℕ) → Bool
adds_a_text base new = list_any (λ text. not (lists base text)) new

-- texts in byte order, and others put in order among them, each unless it is there
abbrev pub put_in_order : List (List ℕ) → List (List ℕ) → List (List ℕ)
put_in_order ordered texts = fold (insert_key (slice_cmp nat_cmp)) ordered texts

-- each text once, in byte order
abbrev pub in_byte_order : List (List ℕ) → List (List ℕ)
in_byte_order texts = put_in_order [] texts

-- the texts that a list refers to
abbrev pub texts_in : List (Bor (List ℕ)) → List (List ℕ)
texts_in texts = map (λ text. text.now) texts

-- texts in byte order, each once
abbrev pub AreInOrder : List (Bor (List ℕ)) → Type 0
AreInOrder texts = IsStrictlySortedBy (slice_cmp nat_cmp) (texts_in texts)

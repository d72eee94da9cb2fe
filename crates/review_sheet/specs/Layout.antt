-- How a sheet is laid out: lines, and the items of a list within a line.
use Rattle.std.specs.Prelude.{◌≡◌, ℕ, List, [], ◌∷◌, ◌++◌, Option, Some, None, String, codes}
use Rattle.std.specs.Prelude.{decimal, flat_map, string_bytes}
use Rattle.std.specs.declared.alloc.Global.{Global}

-- a line, ended by a line feed
abbrev pub ended : List ℕ → List ℕ
ended line = line ++ 10 ∷ []

-- lines one after another
abbrev pub joined : List (List ℕ) → List ℕ
joined lines = flat_map ended lines

-- items, each with a space before it
abbrev pub spaced : List (List ℕ) → List ℕ
spaced items = flat_map (λ item. 32 ∷ item) items

-- the items of a list joined by single spaces, or `none`
abbrev pub items_text : List (List ℕ) → List ℕ
items_text [] = codes "none"
items_text (item ∷ items) = item ++ spaced items

-- a space and a number, where there is one
abbrev pub then_number : Option ℕ → List ℕ
then_number None = []
then_number (Some number) = 32 ∷ decimal number

-- a text has gained these bytes at its end, or these lines
abbrev pub Adds : String Global → String Global → List ℕ → Type 0
Adds old new bytes = string_bytes new ≡ string_bytes old ++ bytes

abbrev pub AddsLines : String Global → String Global → List (List ℕ) → Type 0
AddsLines old new lines = Adds old new (joined lines)

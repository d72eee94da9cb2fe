-- The members of an object, of which some may be left out: what is found under a name, and what holds of each.
use Rattle.std.proofs.Common.{◌≡◌, ◌∙◌, ℕ, List, [], ◌∷◌, Bool, true, false, cond, Option, Some, None, bytes_eq, refl, ap}
use Rattle.serde_json.specs.Data.{Data, Members, no_members}
use Rattle.profile_text.specs.FilterReads.{AllMembers}
use Rattle.profile_text.specs.Shape.{member_from, member_of}
use Rattle.profile_text.specs.Text.{member_if}

-- the names in order, each with its value, where it has one
abbrev pub Rows : Type 0
Rows = List (List ℕ × Option Data)

abbrev pub listed : Rows → Members
listed [] = no_members
listed (row ∷ rows) = member_if row.0 row.1 (listed rows)

abbrev or_else : Option Data → Option Data → Option Data
or_else None found = found
or_else (Some d) found = Some d

pub or_none : (o : Option Data) → or_else o None ≡ o
or_none None = refl
or_none (Some d) = refl

-- the value of a name
abbrev pub looked : Option Data → List ℕ → Rows → Option Data
looked found key [] = found
looked found key (row ∷ rows) = looked (cond (bytes_eq row.0 key) (or_else row.1 found) found) key rows

no_choice : (b : Bool) (found : Option Data) → found ≡ cond b found found
no_choice true found = refl
no_choice false found = refl

looked_from : (found : Option Data) (key : List ℕ) (rows : Rows) → member_from found key (listed rows) ≡ looked found key rows
looked_from found key [] = refl
looked_from found key ((name, None) ∷ rows) = looked_from found key rows ∙ ap (λ f. looked f key rows) (no_choice (bytes_eq name key) found)
looked_from found key ((name, Some d) ∷ rows) = looked_from (cond (bytes_eq name key) (Some d) found) key rows

-- the member of a name is its value
pub found_at : (key : List ℕ) (rows : Rows) (o : Option Data) → looked None key rows ≡ or_else o None → member_of key (listed rows) ≡ o
found_at key rows o is = looked_from None key rows ∙ is ∙ or_none o

-- what holds of each row that is there
abbrev pub HoldsIf : (List ℕ → Data → Type 0) → List ℕ → Option Data → Type 0
HoldsIf P name None = Unit {0}
HoldsIf P name (Some d) = P name d

abbrev pub EachRow : (List ℕ → Data → Type 0) → Rows → Type 0
EachRow P [] = Unit {0}
EachRow P (row ∷ rows) = HoldsIf P row.0 row.1 × EachRow P rows

pub all_listed : (P : List ℕ → Data → Type 0) (rows : Rows) → EachRow P rows → AllMembers P (listed rows)
all_listed P [] each = tt
all_listed P ((name, None) ∷ rows) each = all_listed P rows each.1
all_listed P ((name, Some d) ∷ rows) each = (each.0, all_listed P rows each.1)

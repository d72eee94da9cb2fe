-- The shapes of JSON values. A shape is known by the faults that a value has, in the order in which
-- a walk meets them: the members of an object in byte order of their names, in which serde_json has
-- them, and lists in order.
use Rattle.std.specs.Prelude.{ℕ, ◌+◌, List, [], ◌∷◌, ◌++◌, map, filter, find, Bool, not, ◌&&◌}
use Rattle.std.specs.Prelude.{if◌then◌else◌, Option, Some, None, is_some, bytes_eq, decimal}
use Rattle.serde_json.specs.Data.{Data, null, boolean, number, string, array, object, Items}
use Rattle.serde_json.specs.Data.{no_items, item, Members, no_members, member}
use Rattle.profile_text.specs.declared.fault.DocFault.{DocFault}
use Rattle.profile_text.specs.declared.fault.DocFault.TheVariants.{WrongShape, UnknownMember}
use Rattle.profile_text.specs.declared.fault.DocFault.TheVariants.{UnknownWord, NotInProfile}

-- the path of the member or the item of this name, below a path
abbrev pub below : List ℕ → List ℕ → List ℕ
below path name = path ++ 47 ∷ name

-- the faults of a value at a path
abbrev pub Shape : Type 0
Shape = List ℕ → Data → List DocFault

-- the value of the member of this name, the last one where the name stands twice
abbrev pub member_from : Option Data → List ℕ → Members → Option Data
member_from found name no_members = found
member_from found name (member n d ms) =
    member_from (if bytes_eq n name then Some d else found) name ms

abbrev pub member_of : List ℕ → Members → Option Data
member_of name ms = member_from None name ms

-- a text that is one of the words
unfoldable pub word_faults : (List ℕ → Bool) → Shape
word_faults is_word path (string s) = if is_word s then [] else UnknownWord path ∷ []
word_faults is_word path null = WrongShape path ∷ []
word_faults is_word path (boolean b) = WrongShape path ∷ []
word_faults is_word path (number n) = WrongShape path ∷ []
word_faults is_word path (array ds) = WrongShape path ∷ []
word_faults is_word path (object ms) = WrongShape path ∷ []

-- the items of a list, from a position on
unfoldable pub items_faults : Shape → List ℕ → ℕ → Items → List DocFault
items_faults shape path i no_items = []
items_faults shape path i (item d ds) =
    shape (below path (decimal i)) d ++ items_faults shape path (i + 1) ds

-- a list of values of one shape
unfoldable pub list_faults : Shape → Shape
list_faults shape path (array ds) = items_faults shape path 0 ds
list_faults shape path null = WrongShape path ∷ []
list_faults shape path (boolean b) = WrongShape path ∷ []
list_faults shape path (number n) = WrongShape path ∷ []
list_faults shape path (string s) = WrongShape path ∷ []
list_faults shape path (object ms) = WrongShape path ∷ []

-- null stands for an absent value
unfoldable pub optional_faults : Shape → Shape
optional_faults shape path null = []
optional_faults shape path (boolean b) = shape path (boolean b)
optional_faults shape path (number n) = shape path (number n)
optional_faults shape path (string s) = shape path (string s)
optional_faults shape path (array ds) = shape path (array ds)
optional_faults shape path (object ms) = shape path (object ms)

-- a value that documents here don't have
abbrev pub refused_faults : Shape
refused_faults path d = NotInProfile path ∷ []

-- a member that an object may have, and whether it must
pub record Row : Type 0 where
  pub name : List ℕ
  pub is_required : Bool
  pub shape : Shape

-- the row of a name in a table
abbrev pub row_named : List Row → List ℕ → Option Row
row_named rows name = find (λ row. bytes_eq name row.name) rows

-- a member is of the shape that its row asks for
abbrev pub row_faults : Option Row → Shape
row_faults None path d = UnknownMember path ∷ []
row_faults (Some row) path d = row.shape path d

-- the members of an object, one after another
unfoldable pub members_faults : List Row → List ℕ → Members → List DocFault
members_faults rows path no_members = []
members_faults rows path (member name d ms) =
    row_faults (row_named rows name) (below path name) d ++ members_faults rows path ms

-- what the members give, one after another, by a rule for one member more
abbrev pub members_over : {X : Type 0} → (List ℕ → Data → X → X) → X → Members → X
members_over with x no_members = x
members_over with x (member name d ms) = members_over with (with name d x) ms

-- the members that must be there and aren't, in the order of the table
abbrev pub missing_faults : List Row → List ℕ → Members → List DocFault
missing_faults rows path ms =
    map (λ row. WrongShape (below path row.name))
    (filter (λ row. row.is_required && not (is_some (member_of row.name ms))) rows)

-- the members that are there, and then those that are missing
unfoldable pub object_faults : List Row → List ℕ → Members → List DocFault
object_faults rows path ms = members_faults rows path ms ++ missing_faults rows path ms

-- What the lines of a sheet say of each other.
use Rattle.std.specs.Prelude.{◌≡◌, ℕ, List, [], ◌∷◌, ◌++◌, Bool, ◌||◌, bytes_eq, codes, count_by}
use Rattle.std.specs.Prelude.{decimal, length, if◌then◌else◌, reverse, take}

-- a line begins with two spaces
abbrev pub is_indented : List ℕ → Bool
is_indented line = bytes_eq (take 2 line) (codes "  ")

-- the indented lines that stand first
abbrev pub indented_first : List (List ℕ) → List (List ℕ)
indented_first [] = []
indented_first (line ∷ lines) = if is_indented line then line ∷ indented_first lines else []

-- a line ends with a text
abbrev pub ends_with : List ℕ → List ℕ → Bool
ends_with text line = bytes_eq (take (length text) (reverse line)) (reverse text)

-- the line of a vote says `approve`, or `reject`, and not `lapsed`
abbrev pub says_approve : List ℕ → Bool
says_approve line = ends_with (codes " approve") line || ends_with (codes " approve security") line

abbrev pub says_reject : List ℕ → Bool
says_reject line = ends_with (codes " reject") line || ends_with (codes " reject security") line

-- the part stands among the lines, whole and in order
pub record HasPart (part lines : List (List ℕ)) : Type 0 where
  pub above : List (List ℕ)
  pub below : List (List ℕ)
  pub whole : lines ≡ above ++ part ++ below

-- a line with this label says how many indented lines stand right below it
pub record CountsBelow (label : List ℕ) (lines : List (List ℕ)) : Type 0 where
  pub above : List (List ℕ)
  pub below : List (List ℕ)
  pub whole : lines ≡ above ++ ((label ++ decimal (length (indented_first below))) ∷ below)

-- the lines end with those of the votes, then how many of these say `approve`, and how many
-- `reject`
pub record CountsVotes (lines : List (List ℕ)) : Type 0 where
  pub above : List (List ℕ)
  pub votes : List (List ℕ)
  pub whole : lines ≡ above ++ ((codes "votes: " ++ decimal (length votes)) ∷ votes)
      ++ ((codes "approvals: " ++ decimal (count_by says_approve votes))
      ∷ (codes "rejections: " ++ decimal (count_by says_reject votes)) ∷ [])

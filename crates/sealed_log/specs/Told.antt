-- What the bytes of a file tell: the bodies up to the first byte that isn't sealed.
use Rattle.std.specs.Prelude.{◌≡◌, ◌⊎◌, ◌+◌, ◌<◌, ◌≤◌, ◌-◌, ◌==◌, ℕ, List, [], ◌∷◌, ◌++◌, Bool, true}
use Rattle.std.specs.Prelude.{false, ◌&&◌, bytes_eq, length, nat_lt, take, drop}
use Rattle.streams.specs.Lines.{NoFeed}
use Rattle.sealed_log.specs.Sealed.{IsBody, longest, seal_on, wrapped, no_seal, sealed_line}
use Rattle.sealed_log.specs.Sealed.{sealed_text, seal_of}

-- what stands in a line where a body does: behind 8 bytes, and before 75
abbrev pub body_in : List ℕ → List ℕ
body_in line = take (length line - 83) (drop 8 line)

-- the line isn't too long, and is that of its body, behind what has the seal `prior`
abbrev pub is_sealed : List ℕ → List ℕ → Bool
is_sealed prior line =
    nat_lt (length line) longest
    && bytes_eq line (wrapped (body_in line) (seal_on prior (body_in line)))

-- the line is sealed, and has this seal
pub record IsSeal (prior line seal : List ℕ) : Type 0 where
  pub long : 83 ≤ length line
  pub holds : is_sealed prior line ≡ true
  pub is : seal ≡ seal_on prior (body_in line)

-- what bytes tell behind what has the seal `prior`, and behind the beginning of a line
unfoldable pub told_from : List ℕ → List ℕ → List ℕ → List (List ℕ)
told_from prior line [] = []
told_from prior line (byte ∷ bytes) = elim (byte == 10) [
  | true ↦ elim (is_sealed prior line) [
    | true ↦ body_in line ∷ told_from (seal_on prior (body_in line)) [] bytes
    | false ↦ []
  ]
  | false ↦ told_from prior (line ++ byte ∷ []) bytes
]

abbrev pub told_behind : List ℕ → List ℕ → List (List ℕ)
told_behind prior bytes = told_from prior [] bytes

abbrev pub told : List ℕ → List (List ℕ)
told bytes = told_behind no_seal bytes

-- no line feed stands in the bytes, or none soon enough for a line
pub record IsUnended (bytes : List ℕ) : Type 0 where
  pub front : List ℕ
  pub rest : List ℕ
  pub is : bytes ≡ front ++ rest
  pub none : NoFeed front
  pub ends : (rest ≡ []) ⊎ (longest ≤ length front)

-- the file has these bytes and a tail of so many at most, whatever that is
pub record HasTail (bytes : List ℕ) (most : ℕ) (file : List ℕ) : Type 0 where
  pub tail : List ℕ
  pub short : length tail ≤ most
  pub is : file ≡ bytes ++ tail

-- more than the longest line stands behind what it tells
abbrev pub HasMore : List ℕ → Type 0
HasMore file = length (sealed_text (told file)) + longest < length file

-- no body but this is sealed behind these bodies
abbrev pub HasNoOther : List (List ℕ) → List ℕ → List ℕ → Type 0
HasNoOther bodies body file =
    (other rest : List ℕ) → IsBody other
    → file ≡ sealed_text bodies ++ (sealed_line (seal_of bodies) other ++ rest) → other ≡ body

-- no body is sealed behind these bodies
abbrev pub HasNone : List (List ℕ) → List ℕ → Type 0
HasNone bodies file =
    (other rest : List ℕ) → IsBody other
    → file ≡ sealed_text bodies ++ (sealed_line (seal_of bodies) other ++ rest) → ⊥

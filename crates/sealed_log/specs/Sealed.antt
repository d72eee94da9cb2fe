-- Lines that are sealed: beside a body stands the digest of it and of the seal before it.
use Rattle.std.specs.Prelude.{ℕ, ◌+◌, ◌≤◌, List, [], ◌∷◌, ◌++◌, length, replicate}
use Rattle.streams.specs.Lines.{NoFeed}
use Rattle.sha2.specs.Sha256.{sha256}
use Rattle.hex.specs.Hex.{encode_lower}

-- how many bytes a line has at most, with its line feed
abbrev pub longest : ℕ
longest = 2097152

-- no line feed stands in it, and its line isn't too long
pub record IsBody (bytes : List ℕ) : Type 0 where
  pub one : NoFeed bytes
  pub fits : length bytes + 84 ≤ longest

-- the seal of a body behind what has the seal `prior`
unfoldable pub seal_on : List ℕ → List ℕ → List ℕ
seal_on prior body = encode_lower (sha256 (prior ++ body))

-- the seal of nothing
unfoldable pub no_seal : List ℕ
no_seal = replicate 64 48

-- `{"line":`, `,"seal":"` and `"}`
unfoldable pub before_body : List ℕ
before_body = 123 ∷ 34 ∷ 108 ∷ 105 ∷ 110 ∷ 101 ∷ 34 ∷ 58 ∷ []

unfoldable pub before_seal : List ℕ
before_seal = 44 ∷ 34 ∷ 115 ∷ 101 ∷ 97 ∷ 108 ∷ 34 ∷ 58 ∷ 34 ∷ []

unfoldable pub behind_seal : List ℕ
behind_seal = 34 ∷ 125 ∷ []

-- a body and its seal
abbrev pub wrapped : List ℕ → List ℕ → List ℕ
wrapped body seal = before_body ++ (body ++ (before_seal ++ (seal ++ behind_seal)))

-- a body as it stands behind what has the seal `prior`
abbrev pub sealed_line : List ℕ → List ℕ → List ℕ
sealed_line prior body = wrapped body (seal_on prior body) ++ 10 ∷ []

-- bodies as they stand there, one after another
abbrev pub sealed_lines : List ℕ → List (List ℕ) → List ℕ
sealed_lines prior [] = []
sealed_lines prior (body ∷ more) = sealed_line prior body ++ sealed_lines (seal_on prior body) more

-- the seal of the last of them
abbrev pub last_seal : List ℕ → List (List ℕ) → List ℕ
last_seal prior [] = prior
last_seal prior (body ∷ more) = last_seal (seal_on prior body) more

-- a body behind such that go before it, as they stand there
abbrev pub sealed_with : (prior : List ℕ) → (settling : List (List ℕ)) → (body : List ℕ) → List ℕ
sealed_with prior settling body =
    sealed_lines prior settling ++ sealed_line (last_seal prior settling) body

-- the text of a log, and its seal, which names all of it
abbrev pub sealed_text : List (List ℕ) → List ℕ
sealed_text bodies = sealed_lines no_seal bodies

abbrev pub seal_of : List (List ℕ) → List ℕ
seal_of bodies = last_seal no_seal bodies

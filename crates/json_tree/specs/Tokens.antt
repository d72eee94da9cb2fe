-- The tokens of JSON values, which a writer appends one after another.
use Rattle.std.specs.Prelude.{◌≡◌, ℕ, List, [], ◌∷◌, ◌++◌, Option, Some, None}
use Rattle.json.specs.Token.{Token}
use Rattle.json.specs.Tree.{json_tokens}
use Rattle.serde_json.specs.Data.{Data, Members, no_members, member}
use Rattle.serde_json.specs.Written.{outline}

-- the tokens of a value
abbrev pub tokens_of : Data → List Token
tokens_of d = json_tokens (outline d)

-- the tokens of a member, where there is a value to write
abbrev pub member_tokens : List ℕ → Option Data → List Token
member_tokens name None = []
member_tokens name (Some d) = Token.key name ∷ tokens_of d

-- the tokens of members, without the brace that closes them
abbrev pub open_tokens : Members → List Token
open_tokens no_members = []
open_tokens (member name d ms) = Token.key name ∷ (tokens_of d ++ open_tokens ms)

-- the new tokens are the old ones, with the list's behind them
pub record Appends (old new : List Token) (ts : List Token) : Type 0 where
  pub tokens : new ≡ old ++ ts

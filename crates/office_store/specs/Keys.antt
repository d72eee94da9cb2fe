-- The parameters of the statements that ask by a key.
use Rattle.std.specs.Prelude.{ℕ, pos, List, [], ◌∷◌}
use Rattle.sqlite.specs.declared.types.Value.TheVariants.{Int, Text}
use Rattle.sqlite.specs.Order.{Row}
use Rattle.office_words.specs.declared.name.ProfileName.{ProfileName}

abbrev pub profile_params : ProfileName → Row
profile_params p = Text p.team ∷ Text p.profile ∷ []

abbrev pub revision_params : ProfileName → ℕ → Row
revision_params p n = Text p.team ∷ Text p.profile ∷ Int (pos n) ∷ []

abbrev pub author_params : ProfileName → List ℕ → Row
author_params p name = Text p.team ∷ Text p.profile ∷ Text name ∷ []

abbrev pub vote_params : ProfileName → ℕ → List ℕ → Row
vote_params p n voter = Text p.team ∷ Text p.profile ∷ Int (pos n) ∷ Text voter ∷ []

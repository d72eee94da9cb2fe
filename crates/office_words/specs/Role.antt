-- Sets of roles, as numbers whose bits stand for the roles.
use Rattle.std.specs.Prelude.{ℕ, Bool, ◌==◌}
use Rattle.std.specs.Int.{bit_at}
use Rattle.office_words.specs.declared.role.Role.{Role}
use Rattle.office_words.specs.declared.role.Role.TheVariants.{Registrar, Author, Reviewer}
use Rattle.office_words.specs.declared.role.Role.TheVariants.{Security, Issuer, Machine}

-- the bit of each role
abbrev pub place_of : Role → ℕ
place_of Registrar = 0
place_of Author = 1
place_of Reviewer = 2
place_of Security = 3
place_of Issuer = 4
place_of Machine = 5

-- whether a role is in a set
abbrev pub has_role : ℕ → Role → Bool
has_role roles role = bit_at roles (place_of role) == 1

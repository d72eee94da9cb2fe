-- Who is enrolled: what the last enrolment of a name gave it.
use Rattle.std.specs.Prelude.{ℕ, ◌^◌, List, [], ◌∷◌, Bool, false, if◌then◌else◌, Option, Some, None}
use Rattle.std.specs.Prelude.{option_and_then, bytes_eq, find}
use Rattle.office_words.specs.declared.role.Role.TheVariants.{Registrar}
use Rattle.office_words.specs.Role.{place_of}
use Rattle.office_words.specs.declared.row.UserRow.{UserRow}
use Rattle.office_policy.specs.History.{founded, enrolled, History}

-- the roles of the first user
abbrev pub registrar_alone : ℕ
registrar_alone = 2 ^ place_of Registrar

-- team, roles and digest of a name are those of the last enrolment that names it, the founding
-- being one as registrar
abbrev pub user_of : History → List ℕ → Option UserRow
user_of [] name = None
user_of (founded n t d listed ∷ before) name =
    if bytes_eq name n
    then Some (record { name = n; team = t; roles = registrar_alone; digest = d })
    else user_of before name
user_of (enrolled c n t r d ∷ before) name =
    if bytes_eq name n
    then Some (record { name = n; team = t; roles = r; digest = d })
    else user_of before name
user_of (_ ∷ before) name = user_of before name

-- the names that were enrolled, the last one first; a name stands once for each enrolment
abbrev pub names_of : History → List (List ℕ)
names_of [] = []
names_of (founded n t d listed ∷ before) = n ∷ names_of before
names_of (enrolled c n t r d ∷ before) = n ∷ names_of before
names_of (_ ∷ before) = names_of before

-- whether a user's present digest is this one
abbrev pub shows_digest : List ℕ → Option UserRow → Bool
shows_digest digest None = false
shows_digest digest (Some u) = bytes_eq u.digest digest

-- the user whose present digest is this one
abbrev pub user_showing : History → List ℕ → Option UserRow
user_showing h digest =
    option_and_then (user_of h) (find (λ name. shows_digest digest (user_of h name)) (names_of h))

-- whether the user has this name
abbrev pub is_named : Option UserRow → List ℕ → Bool
is_named None name = false
is_named (Some u) name = bytes_eq u.name name

-- whether the user is of this team
abbrev pub is_of_team : Option UserRow → List ℕ → Bool
is_of_team None team = false
is_of_team (Some u) team = bytes_eq u.team team

-- the name of a user, where there is one
abbrev pub name_of : Option UserRow → List ℕ
name_of None = []
name_of (Some u) = u.name

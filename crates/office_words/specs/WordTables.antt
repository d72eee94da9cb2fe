-- The words by which lines and pages name states, faults and roles.
use Rattle.std.specs.Prelude.{ℕ, List, [], ◌∷◌, Option, codes, filter, find, map}
use Rattle.std.specs.Str.{bytes_eq}
use Rattle.office_words.specs.Role.{has_role}
use Rattle.office_words.specs.declared.fault.Fault.{Fault}
use Rattle.office_words.specs.declared.fault.Fault.TheVariants.{NoMemory, Disk, Full, NotAnOffice}
use Rattle.office_words.specs.declared.revision.State.{State}
use Rattle.office_words.specs.declared.revision.State.TheVariants.{Open, Closed, Issued, Replaced}
use Rattle.office_words.specs.declared.revision.State.TheVariants.{Withdrawn}
use Rattle.office_words.specs.declared.role.Role.{Role}
use Rattle.office_words.specs.declared.role.Role.TheVariants.{Registrar, Author, Reviewer}
use Rattle.office_words.specs.declared.role.Role.TheVariants.{Security, Issuer, Machine}

-- the word of each state
abbrev pub state_word : State → List ℕ
state_word Open = codes "open"
state_word Closed = codes "closed"
state_word Issued = codes "issued"
state_word Replaced = codes "replaced"
state_word Withdrawn = codes "withdrawn"

-- the word of each fault
abbrev pub fault_word : Fault → List ℕ
fault_word (NoMemory _) = codes "memory"
fault_word Disk = codes "disk"
fault_word Full = codes "full"
fault_word NotAnOffice = codes "not-an-office"

-- the word of each role
abbrev pub role_word : Role → List ℕ
role_word Registrar = codes "registrar"
role_word Author = codes "author"
role_word Reviewer = codes "reviewer"
role_word Security = codes "security"
role_word Issuer = codes "issuer"
role_word Machine = codes "machine"

-- every role, by its bit
abbrev pub all_roles : List Role
all_roles = Registrar ∷ Author ∷ Reviewer ∷ Security ∷ Issuer ∷ Machine ∷ []

-- the role of this word, if there is one
abbrev pub role_of : List ℕ → Option Role
role_of text = find (λ role. bytes_eq text (role_word role)) all_roles

-- the words of those of these roles that are in a set
abbrev pub words_among : ℕ → List Role → List (List ℕ)
words_among roles among = map role_word (filter (has_role roles) among)

-- the words of the roles in a set
abbrev pub role_words : ℕ → List (List ℕ)
role_words roles = words_among roles all_roles

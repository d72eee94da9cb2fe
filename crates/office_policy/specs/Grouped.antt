-- What the revisions of a team say of its profiles, where those of one profile stand together, by
-- number.
use Rattle.std.specs.Prelude.{ℕ, List, [], ◌∷◌, Bool, true, not, if◌then◌else◌, Some, bytes_eq}
use Rattle.review_policy.specs.declared.answer.ListedProfile.{ListedProfile}
use Rattle.review_policy.specs.Rules.{is_issued}
use Rattle.office_words.specs.declared.listed.ListedRevision.{ListedRevision}

-- whether no revision of the same profile comes next
abbrev pub is_last : ListedRevision → List ListedRevision → Bool
is_last row [] = true
is_last row (next ∷ later) = not (bytes_eq row.profile next.profile)

-- the number that is issued, with one more revision of the profile
abbrev pub issued_with : ℕ → ListedRevision → ℕ
issued_with issued row = if is_issued (Some row.state) then row.number else issued

-- a profile, by its last revision and the number that is issued
abbrev pub listed_by : ℕ → ListedRevision → ListedProfile
listed_by issued row =
    record { profile = row.profile; issued = issued; revisions = row.number; state = row.state }

-- the profiles of the revisions that are left, where this number is issued among the earlier ones
-- of the first profile
abbrev pub profiles_left : ℕ → List ListedRevision → List ListedProfile
profiles_left issued [] = []
profiles_left issued (row ∷ later) =
    if is_last row later
    then listed_by (issued_with issued row) row ∷ profiles_left 0 later
    else profiles_left (issued_with issued row) later

-- the profiles of revisions, each by its last one; 0 where none of it is issued
abbrev pub profiles_in : List ListedRevision → List ListedProfile
profiles_in rows = profiles_left 0 rows

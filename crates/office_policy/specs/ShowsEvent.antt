-- What the tables show of an event, by which one sees whether it has reached them.
use Rattle.std.specs.Prelude.{◌≡◌, ℕ, List, Some}
use Rattle.review_policy.specs.declared.act.Effect.{Effect}
use Rattle.review_policy.specs.declared.act.Effect.TheVariants.{Issues, Withdraws, Adopts}
use Rattle.office_words.specs.declared.name.ProfileName.{ProfileName}
use Rattle.office_words.specs.declared.revision.State.TheVariants.{Open, Issued, Withdrawn}
use Rattle.office_words.specs.declared.role.Role.TheVariants.{Security}
use Rattle.review_policy.specs.Acts.{effect_of, holds}
use Rattle.office_words.specs.declared.row.RevisionRow.{RevisionRow}
use Rattle.office_words.specs.Lists.{holds_role}
use Rattle.office_words.specs.Reads.{IsLast}
use Rattle.office_words.specs.Tables.{Tables}
use Rattle.office_policy.specs.History.{Event, founded, enrolled, submitted, voted}
use Rattle.office_policy.specs.History.{on_revision, on_profile}
use Rattle.office_policy.specs.Users.{registrar_alone}
use Rattle.office_policy.specs.Revisions.{state_in}

-- a user has just this row
abbrev pub HasUser : Tables → (name team : List ℕ) → (roles : ℕ) → (digest : List ℕ) → Type 0
HasUser t name team roles digest =
    t.users name ≡ Some (record { name = name; team = team; roles = roles; digest = digest })

-- the last revision of a profile is open, by this caller and with this text
pub record LastIsOpen (t : Tables) (p : ProfileName) (caller bytes : List ℕ) : Type 0 where
  pub row : RevisionRow
  pub last : IsLast t p (Some row)
  pub still_open : row.state ≡ Open
  pub author : row.author ≡ caller
  pub text : row.body ≡ bytes

-- the tables have the effect of an act on a revision
abbrev pub ShowsEffect : Tables → Effect → ProfileName → ℕ → Type 0
ShowsEffect t Issues p n = state_in (t.revisions p n) ≡ Some Issued
ShowsEffect t Withdraws p n = state_in (t.revisions p n) ≡ Some Withdrawn
ShowsEffect t Adopts p n = t.baselines p.team ≡ Some (record { profile = p.profile; number = n })

-- the tables have what the event puts into them. A vote's security is that of the voter's present
-- row; the caller stands in the tables of a submission and of a vote alone
abbrev pub Shows : Tables → Event → Type 0
Shows t (founded name team digest listed) =
    HasUser t name team registrar_alone digest × (t.listed ≡ listed)
Shows t (enrolled caller name team roles digest) = HasUser t name team roles digest
Shows t (submitted caller p text) = LastIsOpen t p caller text
Shows t (voted caller p n digest approves) =
    t.votes p n caller
    ≡ Some (record { approves = approves; security = holds_role (t.users caller) Security })
Shows t (on_revision caller act p n) = ShowsEffect t (effect_of act) p n
Shows t (on_profile caller act p) = t.holds p ≡ holds act

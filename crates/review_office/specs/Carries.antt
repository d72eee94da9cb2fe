-- What carrying out what was allowed writes.
use Rattle.std.specs.Prelude.{ℕ, Result, ⊤}
use Rattle.sqlite.specs.Held.{Held}
use Rattle.sqlite.specs.Store.{Ghosts}
use Rattle.review_policy.specs.declared.act.Effect.{Effect}
use Rattle.review_policy.specs.declared.act.Effect.TheVariants.{Issues, Withdraws, Adopts}
use Rattle.review_policy.specs.declared.act.ProfileAct.{ProfileAct}
use Rattle.review_policy.specs.declared.act.ProfileAct.TheVariants.{Hold, Release}
use Rattle.office_words.specs.declared.name.ProfileName.{ProfileName}
use Rattle.office_words.specs.declared.role.Role.TheVariants.{Security}
use Rattle.review_policy.specs.Acts.{effect_of}
use Rattle.office_words.specs.Role.{has_role}
use Rattle.office_words.specs.declared.fault.Fault.{Fault}
use Rattle.office_words.specs.declared.row.UserRow.{UserRow}
use Rattle.office_store.specs.Connections.{MeetsOnErr, Writes}
use Rattle.office_store.specs.Entries.{vote_entry}
use Rattle.office_store.specs.Refusing.{Write, puts_user, adds_revision, issues, withdraws}
use Rattle.office_store.specs.Refusing.{puts_vote, puts_baseline, puts_hold, deletes_hold}
use Rattle.office_store.specs.Refusing.{statements_of, Makes}
use Rattle.office_policy.specs.declared.change.Change.{Change}
use Rattle.office_policy.specs.declared.change.Change.TheVariants as changes
use Rattle.office_policy.specs.declared.judge.Allowed.{Allowed}

-- the write of an effect on a revision
abbrev pub write_on_revision : Effect → ProfileName → ℕ → Write
write_on_revision Issues p n = issues p n
write_on_revision Withdraws p n = withdraws p n
write_on_revision Adopts p n = puts_baseline p n

-- the write of what is done to a profile
abbrev pub write_on_profile : ProfileAct → ProfileName → Write
write_on_profile Hold p = puts_hold p
write_on_profile Release p = deletes_hold p

-- the write of a change that this user asks for
abbrev pub write_by : UserRow → Change → Write
write_by caller (changes.Enrol user) = puts_user user
write_by caller (changes.AddRevision p row) = adds_revision p row
write_by caller (changes.Vote p n digest approves) =
    puts_vote (vote_entry p n caller.name approves (has_role caller.roles Security))
write_by caller (changes.ActOnRevision act p n) = write_on_revision (effect_of act) p n
write_by caller (changes.ActOnProfile act p) = write_on_profile act p

-- the write of what was allowed
abbrev pub write_of : Allowed → Write
write_of a = write_by a.caller a.change

module _ {S : Type 0} (g : Ghosts S) where
  -- the store was asked for this write
  pub record Asks (write : Write) (old new : Held S) (result : Result ⊤ Fault) : Type 0 where
    pub written : Writes g old new result (Makes write)
    pub cause : MeetsOnErr g old new (statements_of write) result

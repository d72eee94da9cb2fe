-- The founding that words describe, or why they describe none.
use Rattle.std.specs.Prelude.{◌≡◌, ◌⊎◌, ℕ, ◌&&◌, List, [], ◌∷◌, map, Option, Some, None, Result, Ok}
use Rattle.std.specs.Prelude.{Err, if◌then◌else◌}
use Rattle.sqlite.specs.Held.{Held, state}
use Rattle.sqlite.specs.Store.{Ghosts}
use Rattle.sqlite.specs.State.{HasCleanDisk}
use Rattle.command_line.specs.declared.command.InitWords.{InitWords}
use Rattle.office_rows.specs.Queries.{IsAsItWas}
use Rattle.office_founding.specs.Founding.{first_user, FailsToFound}
use Rattle.office_store.specs.Schema.{no_schema}
use Rattle.office_store.specs.Shown.{AreOffice, MayLeave}
use Rattle.office_founding.specs.declared.fault.FoundingFault.{FoundingFault}
use Rattle.office_policy.specs.History.{Event, History, founded}
use Rattle.office_policy.specs.Handled.{Stands}
use Rattle.office_policy.specs.TablesOf.{tables_of}
use Rattle.review_office.specs.Offices.{IsOffice}
use Rattle.review_office.specs.Meant.{meaning_over}
use Rattle.cap_sets.specs.Capability.{set_named}
use Rattle.office_words.specs.Digests.{digest_from_hex}
use Rattle.office_words.specs.Words.{is_word}
use Rattle.command_host.specs.declared.founding_fault.FoundingWordsFault.{FoundingWordsFault}
use Rattle.command_host.specs.declared.founding_fault.FoundingWordsFault.TheVariants as refusal
use Rattle.command_host.specs.Openings.{IsEnded, IsUnlimited, IsUnopened}
use Rattle.command_host.specs.declared.databases.Databases as databases
use Rattle.changing_commands.specs.declared.founding.Founding.{Founding}
use Rattle.command_host.specs.declared.fault.CommandFault.{CommandFault}
use Rattle.command_host.specs.declared.fault.CommandFault.TheVariants as fault

-- what words describe: a founding, or why it is none
abbrev pub Described : Type 0
Described = Result Founding FoundingWordsFault

-- the founding by these two words, where DIGEST is one and each CAP is a capability's name
abbrev pub founding_by : List ℕ → List ℕ → Option (List ℕ) → Option ℕ → Described
founding_by name team None listed = Err refusal.BadWord
founding_by name team (Some digest) None = Err refusal.UnknownCapability
founding_by name team (Some digest) (Some listed) =
    Ok (record { name = name; team = team; digest = digest; listed = listed })

-- the founding that NAME, TEAM, DIGEST and the CAPs describe, or the first refusal: of one of the
-- three, and then of a CAP
abbrev pub founding_of : (name team digest : List ℕ) → List (List ℕ) → Described
founding_of name team digest capabilities =
    if is_word name && is_word team
    then founding_by name team (digest_from_hex digest) (set_named capabilities)
    else Err refusal.BadWord

-- what is answered is what the words describe; memory may have been refused in place of it
abbrev pub Gives : Described → Described → Type 0
Gives (Ok founding) described = described ≡ Ok founding
Gives (Err refusal.BadWord) described = described ≡ Err refusal.BadWord
Gives (Err refusal.UnknownCapability) described = described ≡ Err refusal.UnknownCapability
Gives (Err (refusal.NoMemory _)) described = Unit {0}

-- the founding that the words of `init` describe
abbrev pub founding_of_words : InitWords → Described
founding_of_words words =
    founding_of words.name.now words.team.now words.digest.now
    (map (λ capability. capability.now) words.capabilities.items)

-- the event that a founding is
abbrev pub founding_event : Founding → Event
founding_event founding = founded founding.name founding.team founding.digest founding.listed

-- a history that is just this founding
abbrev pub history_of : Founding → History
history_of founding = founding_event founding ∷ []

-- what was founded is the office of just this founding, and stands
abbrev pub IsFoundedBy : {S : Type 0} → Ghosts S → Founding → Held S → Type 0
IsFoundedBy g founding office =
    IsOffice (history_of founding) (state g office)
    × (HasCleanDisk (state g office) → Stands (meaning_over g) (history_of founding) office)

-- the office of the founding that words describe was founded, and stands; where they describe none,
-- nothing is founded
abbrev pub IsFoundedAs : {S : Type 0} → Ghosts S → Described → Held S → Type 0
IsFoundedAs g (Ok founding) office = IsFoundedBy g founding office
IsFoundedAs g (Err fault) office = ⊥

-- an office was founded as words describe, in an empty database that was opened, of which this is known
pub record IsFoundedIn {S : Type 0} (g : Ghosts S) (Opened : Held S → Type 0)
    (described : Described) (office : Held S) : Type 0 where
  pub was : Held S
  pub opened : Opened was
  pub empty : (state g was).now.schema ≡ no_schema
  -- a disk that is clean was clean before
  pub clean : HasCleanDisk (state g office) → HasCleanDisk (state g was)
  pub founded : IsFoundedAs g described office

-- an office was founded as words describe, and closed without a mark, of which this is known
pub record WasFounded {S : Type 0} (g : Ghosts S) (Opened : Held S → Type 0)
    (Closed : Held S → Option ℕ → Type 0) (described : Described) : Type 0 where
  pub office : Held S
  pub founded : IsFoundedIn g Opened described office
  pub closed : Closed office None

-- No office of a founding is founded over a connection, for this. What is left of that has what it had.
-- A crash leaves what it could leave before, or the office of just this founding.
pub record IsNotFounded {S : Type 0} (g : Ghosts S) (founding : Founding) (conn left : Held S)
    (why : FoundingFault) : Type 0 where
  pub cause : HasCleanDisk (state g left)
      → FailsToFound g (first_user founding.name founding.team founding.digest) founding.listed
      conn left why
  pub same : (state g conn).now ≡ (state g conn).committed → HasCleanDisk (state g left)
      → IsAsItWas (state g conn) (state g left)
  pub crash : MayLeave (state g conn) (state g left)
      (λ trees. AreOffice trees (tables_of (history_of founding)))

-- no office is founded as words describe, for this, over a database that was opened, of which this is
-- known. What is left was closed as it was marked, of which that is known
abbrev pub WasNotFounded : {S : Type 0} → Ghosts S → (Opened : Held S → Type 0)
    → (Closed : Held S → Option ℕ → Type 0) → Described → FoundingFault → Type 0
WasNotFounded {S} g Opened Closed (Ok founding) why =
    (conn left : Held S) × IsUnlimited Opened conn × IsNotFounded g founding conn left why
    × Closed left None
WasNotFounded g Opened Closed (Err fault) why = ⊥

-- words describe a founding
abbrev pub IsDescribed : Described → Type 0
IsDescribed (Ok founding) = Unit {0}
IsDescribed (Err fault) = ⊥

-- why words describe none; memory may have been refused in place of that
abbrev pub IsUndescribed : Described → CommandFault → Type 0
IsUndescribed described (fault.FoundingWords why) = Gives (Err why) described
IsUndescribed described _ = ⊥

-- Why nothing is founded: by the words where they describe no founding; and where they describe one,
-- since no database was opened at the path, or by the store, whose database was then closed. Memory
-- may have been refused in place of either.
abbrev pub IsUnfoundedAs : {S D C : Type 0} → Ghosts S → databases.Ghosts D (Held S) C
    → (path : List ℕ) → Described → CommandFault → Type 0
IsUnfoundedAs g d path described why =
    IsUndescribed described why ⊎ (IsDescribed described × IsUnopened d path why)
    ⊎ ((refused : FoundingFault) × (why ≡ fault.Founding refused)
    × WasNotFounded g (d.opened path) (IsEnded d) described refused)

-- nothing is founded as words describe, for this; or an office was, in a database that was opened, and
-- couldn't be closed
abbrev pub IsUnfounded : {S D C : Type 0} → Ghosts S → databases.Ghosts D (Held S) C
    → (path : List ℕ) → Described → CommandFault → Type 0
IsUnfounded {S} g d path described why =
    IsUnfoundedAs g d path described why
    ⊎ ((why ≡ fault.Close) × (office : Held S) × IsFoundedIn g (d.opened path) described office
    × IsEnded d office None)

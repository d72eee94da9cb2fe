-- When an office is the one of a journal.
use Rattle.std.specs.Prelude.{◌≡◌, ◌⊎◌, ◌≤◌, ◌<◌, ℕ, List, length, Option, IfSome}
use Rattle.sqlite.specs.Held.{Held, state}
use Rattle.sqlite.specs.Store.{Ghosts}
use Rattle.memory_database.specs.MemoryStore.{over_memory}
use Rattle.office_words.specs.Tables.{Tables}
use Rattle.office_rows.specs.Causes.{HasFailed}
use Rattle.office_store.specs.Shown.{Shows}
use Rattle.office_policy.specs.Handled.{Stands}
use Rattle.office_policy.specs.History.{History}
use Rattle.office_policy.specs.Lawful.{IsLawfulHistory}
use Rattle.office_policy.specs.TablesOf.{tables_of}
use Rattle.review_office.specs.Meant.{meaning_over}
use Rattle.journal.specs.Journal.{IsJournalOf, IsSealedJournal}
use Rattle.sealed_log.specs.Told.{told}
use Rattle.journal_faults.specs.declared.difference.Difference.{Difference}
use Rattle.journal_faults.specs.declared.difference.Difference.TheVariants as difference
use Rattle.journal_verification.specs.declared.verification.KeptSeal.{KeptSeal}
use Rattle.journal_faults.specs.declared.unverified.Unverified.{Unverified}
use Rattle.journal_faults.specs.declared.unverified.Unverified.TheVariants as unverified
use Rattle.journal_verification.specs.declared.verification.Verified.{Verified}
use Rattle.journal_verification.specs.Compared.{Differs}
use Rattle.journal_verification.specs.Different.{DifferAt}
use Rattle.journal_verification.specs.KeptSeals.{HaveSeal}
use Rattle.journal_verification.specs.Refused.{IsNotRebuilt}

-- of a journal with these bytes, where they are known
module _ (bytes : Option (List ℕ)) where
  -- A lawful history has the journal, but its lines haven't the seal that was kept.
  pub record HasOtherSeal (kept : Option KeptSeal) : Type 0 where
    pub history : History
    pub journal : IfSome bytes (λ text. IsJournalOf text history)
    pub lawful : IsLawfulHistory history
    pub other : IfSome bytes (λ text. HaveSeal kept (told text) → ⊥)

-- of a journal with these bytes, where they are known, and of an office
module _ (bytes : Option (List ℕ)) {T : Type 0} (f : Ghosts T) where
  -- the office is that of the history that the journal is of, which is lawful and has so many
  -- events, the seal and the number of lines are the journal's, its lines have the seal that was
  -- kept, and the mark isn't above their number
  pub record IsVerified (kept : Option KeptSeal) (mark : ℕ) (office : Held T) (verified : Verified)
      : Type 0 where
    pub history : History
    pub journal : IfSome bytes (λ text. IsSealedJournal text history verified.seal)
    pub counted : verified.events ≡ length history
    pub lined : IfSome bytes (λ text. verified.lines ≡ length (told text))
    pub same_seal : IfSome bytes (λ text. HaveSeal kept (told text))
    pub marked : mark ≤ verified.lines
    pub lawful : IsLawfulHistory history
    pub shows : Shows (state f office) (tables_of history)
    pub stands : Stands (meaning_over f) history office

  -- The journal is of a lawful history, and from what shows its tables the office differs: where it
  -- shows tables, they differ from those of the history at the key that is named.
  pub record IsOther {S : Type 0} (g : Ghosts S) (office : Held T) (d : Difference)
      : Type 0 where
    pub history : History
    pub journal : IfSome bytes (λ text. IsJournalOf text history)
    pub lawful : IsLawfulHistory history
    pub built : Held S
    pub shows : Shows (state g built) (tables_of history)
    pub differs : Differs g f built office d
    pub differ : (u : Tables) → Shows (state f office) u → DifferAt (tables_of history) u d

  -- The office is that of the journal, but for the mark, which is above the number of its lines.
  pub record IsAhead (mark : ℕ) (office : Held T) : Type 0 where
    pub history : History
    pub journal : IfSome bytes (λ text. IsJournalOf text history)
    pub lawful : IsLawfulHistory history
    pub shows : Shows (state f office) (tables_of history)
    pub ahead : IfSome bytes (λ text. length (told text) < mark)

  -- no lawful history has the journal, by this line; or the seal is another; or the office or its mark
  -- is, as one that is built anew over such a store tells. Else the office can't be read, or memory is
  -- lacking
  abbrev pub IsUnverifiedOver : {S : Type 0} → Ghosts S → Option KeptSeal → (mark : ℕ)
      → (old new : Held T) → Unverified → Type 0
  IsUnverifiedOver g kept mark old new (unverified.Refused refused) = IsNotRebuilt bytes g refused
  IsUnverifiedOver g kept mark old new unverified.OtherSeal = HasOtherSeal bytes kept
  IsUnverifiedOver g kept mark old new (unverified.Differs d) =
      IsOther g old d ⊎ ((d ≡ difference.Line) × IsAhead mark new)
  IsUnverifiedOver g kept mark old new (unverified.Fault fault) =
      HasFailed (state f old) (state f new) fault

  -- over memory
  abbrev pub IsUnverified : Option KeptSeal → (mark : ℕ) → (old new : Held T) → Unverified → Type 0
  IsUnverified kept mark old new why = IsUnverifiedOver over_memory kept mark old new why

-- An office in a file that was compared with the one that a journal tells.
use Rattle.std.specs.Prelude.{◌≡◌, ◌⊎◌, ℕ, List, codes, Option, Some, None, Result}
use Rattle.std.specs.declared.alloc.Global.{Global}
use Rattle.std.specs.declared.io.Error.{Error as IoError}
use Rattle.std.specs.declared.path.buf.PathBuf.{PathBuf}
use Rattle.sqlite.specs.Held.{Held, state}
use Rattle.command_line.specs.declared.command.KeptSeal.{KeptSeal as WordsSeal}
use Rattle.database_files.specs.Extents.{user_version}
use Rattle.desk_http.specs.Lines.{IsCut, IsWhole}
use Rattle.journal_verification.specs.Looked.{HasLooked}
use Rattle.journal_verification.specs.Verified.{IsUnverified, IsVerified}
use Rattle.journal_verification.specs.declared.verification.KeptSeal.{KeptSeal}
use Rattle.journal_faults.specs.declared.unverified.Unverified.{Unverified}
use Rattle.journal_verification.specs.declared.verification.Verified.{Verified}
use Rattle.command_host.specs.declared.fault.CommandFault.{CommandFault}
use Rattle.command_host.specs.declared.fault.CommandFault.TheVariants as fault
use Rattle.command_host.specs.Marks.{least_lines}
use Rattle.command_host.specs.ReadFaults.{IsToldOf}
use Rattle.command_host.specs.JournalTexts.{IsNoText, IsTextAt}
use Rattle.command_host.specs.Said.{seal_line}
use Rattle.memory_database.specs.Copies.{CopyStore, over_copy}
use Rattle.reading_commands.specs.Copied.{HaveGiven, HaveGivenNone, IsCopiedOffice}
use Rattle.reading_commands.specs.Copied.{IsNoCopiedOffice}
use Rattle.reading_commands.specs.Places.{IsNoPlace, IsPlace}
use Rattle.reading_commands.specs.declared.place.Place.{Place}
use Rattle.streams.specs.declared.counted.Counted.{Counted}

-- the seal that was kept, as the comparison takes it
abbrev pub kept_of : Option WordsSeal → Option KeptSeal
kept_of None = None
kept_of (Some kept) = Some (record { line = kept.line; seal = kept.seal })

-- of files of which this is known as they are opened, and whose bytes are these
module _ {F : Type 0} (Opens : List ℕ → Result F IoError → Type 0) where
  -- of the two files of a database that lies there, of a journal of which this was to come, and of a
  -- seal that was kept
  module _ (bytes_of : F → Option (List ℕ)) (place : Place) (text : Option (List ℕ))
      (kept : Option WordsSeal) where
    -- An office in a copy of them was opened. It is that of the lawful history that the journal
    -- tells, of so many events; the journal has the seal that was kept, no fewer lines than the
    -- mark of the database tells, and this is its seal.
    pub record WasVerifiedIn (found : Verified) : Type 0 where
      pub log : List ℕ
      pub database : List ℕ
      pub given : HaveGiven Opens bytes_of place log database
      pub old : Held CopyStore
      pub new : Held CopyStore
      pub office : IsCopiedOffice log database old
      pub looked : HasLooked (state over_copy old) (state over_copy new)
      pub verified : IsVerified text over_copy (kept_of kept)
          (least_lines (user_version database)) new found

    -- an office in a copy of them was opened, and isn't that of the journal, for this
    pub record WasUnverifiedIn (why : Unverified) : Type 0 where
      pub log : List ℕ
      pub database : List ℕ
      pub given : HaveGiven Opens bytes_of place log database
      pub old : Held CopyStore
      pub new : Held CopyStore
      pub office : IsCopiedOffice log database old
      pub looked : HasLooked (state over_copy old) (state over_copy new)
      pub unverified :
          IsUnverified text over_copy (kept_of kept) (least_lines (user_version database))
          old new why

  -- what a call of read gives of one
  module _ (Gives : F → F → Result ℕ IoError → List ℕ → Type 0) (bytes_of : F → Option (List ℕ)) where
    -- the files gave no bytes, or these are of no office; or the office isn't that of the journal,
    -- which is told
    abbrev pub IsNotOf : (place : Place) (text : Option (List ℕ)) (kept : Option WordsSeal)
        → CommandFault → Type 0
    IsNotOf place text kept why = HaveGivenNone Opens Gives bytes_of place why
        ⊎ ((log : List ℕ) × (database : List ℕ) × HaveGiven Opens bytes_of place log database
        × IsNoCopiedOffice log database why)
        ⊎ ((met : Unverified) × WasUnverifiedIn bytes_of place text kept met
        × IsToldOf Gives (fault.Unverified met) why)

-- Of a journal, of the database at a path, and of a seal that was kept. This is known of files
-- as they are opened and read, and as it is asked where a database lies.
module _ {F : Type 0} (Opens : List ℕ → Result F IoError → Type 0)
    (Places : List ℕ → Result (PathBuf Global) IoError → Type 0) where
  -- the files that lie there, and a journal, were opened, and the office is that of the journal
  pub record WasVerified (bytes_of : F → Option (List ℕ)) (journal path : List ℕ)
      (kept : Option WordsSeal) (found : Verified) : Type 0 where
    pub text : Option (List ℕ)
    pub from_journal : IsTextAt (Opens journal) bytes_of text
    pub place : Place
    pub placed : IsPlace (Places path) place
    pub verified : WasVerifiedIn Opens bytes_of place text kept found

  -- a journal was opened, a database lies at the path, and no office there is that of the journal,
  -- for this
  pub record WasUnverified (Gives : F → F → Result ℕ IoError → List ℕ → Type 0)
      (bytes_of : F → Option (List ℕ)) (journal path : List ℕ) (kept : Option WordsSeal)
      (why : CommandFault) : Type 0 where
    pub text : Option (List ℕ)
    pub from_journal : IsTextAt (Opens journal) bytes_of text
    pub place : Place
    pub placed : IsPlace (Places path) place
    pub unverified : IsNotOf Opens Gives bytes_of place text kept why

  -- no text is there, or the database lies nowhere; or the office isn't that of the journal
  abbrev pub IsUnverifiedAt : (Gives : F → F → Result ℕ IoError → List ℕ → Type 0)
      → (F → Option (List ℕ)) → (journal path : List ℕ) → Option WordsSeal → CommandFault → Type 0
  IsUnverifiedAt Gives bytes_of journal path kept why =
      IsNoText (Opens journal) why ⊎ IsNoPlace (Places path) why
      ⊎ WasUnverified Gives bytes_of journal path kept why

  -- an output has this, after what it had
  module _ {O : Type 0} where
    -- of an office that is that of its journal, with the seal that was kept, the line was printed
    pub record HasVerified (bytes_of : F → Option (List ℕ)) (journal path : List ℕ)
        (kept : Option WordsSeal) (contents : O → Option (List ℕ)) (output wrote : Counted O)
        : Type 0 where
      pub verified : Verified
      pub office : WasVerified bytes_of journal path kept verified
      pub printed : IsWhole contents output wrote
          (seal_line (codes "verified") verified.events verified.seal)

    -- the line of an office that was verified wasn't printed, for want of memory, or was cut
    abbrev pub IsUnsaid : (contents : O → Option (List ℕ)) (output wrote : Counted O) → Verified
        → CommandFault → Type 0
    IsUnsaid contents output wrote verified (fault.NoMemory _) = wrote ≡ output
    IsUnsaid contents output wrote verified fault.Write = IsCut contents output wrote
        (seal_line (codes "verified") verified.events verified.seal)
    IsUnsaid contents output wrote verified _ = ⊥

    -- the office isn't that of the journal, and nothing was printed; or it is, and the line wasn't
    -- printed
    abbrev pub FailsToVerify : (Gives : F → F → Result ℕ IoError → List ℕ → Type 0)
        → (F → Option (List ℕ)) → (journal path : List ℕ) → Option WordsSeal
        → (contents : O → Option (List ℕ)) (output wrote : Counted O) → CommandFault → Type 0
    FailsToVerify Gives bytes_of journal path kept contents output wrote why =
        (IsUnverifiedAt Gives bytes_of journal path kept why × (wrote ≡ output))
        ⊎ ((verified : Verified) × WasVerified bytes_of journal path kept verified
        × IsUnsaid contents output wrote verified why)

-- What people read of a journal in a file.
use Rattle.std.specs.Prelude.{◌≡◌, ◌⊎◌, ℕ, List, false, Option, Some, None, Result}
use Rattle.std.specs.Prelude.{option_copied}
use Rattle.std.specs.declared.io.Error.{Error}
use Rattle.sqlite.specs.Held.{Held}
use Rattle.memory_database.specs.MemoryStore.{MemoryStore, over_memory}
use Rattle.command_line.specs.declared.command.EvidenceWords.{EvidenceWords}
use Rattle.command_line.specs.declared.command.HistoryWords.{HistoryWords}
use Rattle.desk_http.specs.Lines.{IsCut, IsWhole}
use Rattle.journal_reports.specs.Evidence.{IsEvidence, IsNoEvidence}
use Rattle.journal_reports.specs.History.{IsUnwritten, IsWritten}
use Rattle.journal_reports.specs.Passing.{Asked}
use Rattle.journal_faults.specs.declared.no_evidence.NoEvidence.{NoEvidence}
use Rattle.journal_faults.specs.declared.unwritten.Unwritten.{Unwritten}
use Rattle.command_host.specs.declared.fault.CommandFault.{CommandFault}
use Rattle.command_host.specs.declared.fault.CommandFault.TheVariants as fault
use Rattle.command_host.specs.ReadFaults.{IsToldOf}
use Rattle.command_host.specs.JournalTexts.{IsNoText, IsTextAt}
use Rattle.reading_commands.specs.declared.history.Names.{Names}
use Rattle.review_office.specs.Meant.{meaning_over}
use Rattle.office_words.specs.Words.{is_word}
use Rattle.office_words.specs.declared.name.ProfileName.{ProfileName}
use Rattle.streams.specs.declared.counted.Counted.{Counted}
use Rattle.no_memory.specs.Witness.{witness}

-- the text is no word, or there was no memory for it
abbrev pub IsNoWord : List ℕ → CommandFault → Type 0
IsNoWord text fault.NotAWord = is_word text ≡ false
IsNoWord text (fault.NoMemory _) = Unit {0}
IsNoWord text _ = ⊥

-- a text that is given is no word, or there was no memory for it
abbrev pub IsNoName : Option (List ℕ) → CommandFault → Type 0
IsNoName None why = ⊥
IsNoName (Some text) why = IsNoWord text why

-- the profile that the words of `evidence` name, or that they name none
abbrev pub profile_of : EvidenceWords → ProfileName
profile_of words = record { team = words.team.now; profile = words.profile.now }

abbrev pub IsNoProfile : EvidenceWords → CommandFault → Type 0
IsNoProfile words why = IsNoWord words.team.now why ⊎ IsNoWord words.profile.now why

-- what the words of `history` ask for
abbrev pub asked_of : HistoryWords → Asked
asked_of words = record {
  team = option_copied words.team;
  profile = option_copied words.profile;
  user = option_copied words.user;
  since = words.since;
  json = words.json;
}

-- the names are those that the words give
abbrev pub HasNames : HistoryWords → Names → Type 0
HasNames words names =
    (names.team ≡ option_copied words.team) × (names.profile ≡ option_copied words.profile)
    × (names.user ≡ option_copied words.user)

abbrev pub NamesNone : HistoryWords → CommandFault → Type 0
NamesNone words why =
    IsNoName (option_copied words.team) why ⊎ IsNoName (option_copied words.profile) why
    ⊎ IsNoName (option_copied words.user) why

-- of journals of which this is known as they are opened and read, and whose bytes are these
module _ {F : Type 0} (Opens : List ℕ → Result F Error → Type 0)
    (Gives : F → F → Result ℕ Error → List ℕ → Type 0) (bytes_of : F → Option (List ℕ)) where
  module _ (words : EvidenceWords) where
    -- a journal was opened at the path that the words name, and the text is its evidence, of the
    -- revision and the event that they name
    pub record IsEvidenceAt (text : List ℕ) : Type 0 where
      pub bytes : Option (List ℕ)
      pub journal : IsTextAt (Opens words.journal.now) bytes_of bytes
      pub left : Held MemoryStore
      pub evidence : IsEvidence bytes (profile_of words) words.revision words.line
          (meaning_over over_memory) left text

    -- a journal was opened there, and has no evidence, for this
    pub record HasNoEvidence (why : NoEvidence) : Type 0 where
      pub bytes : Option (List ℕ)
      pub journal : IsTextAt (Opens words.journal.now) bytes_of bytes
      pub conn : Held MemoryStore
      pub left : Held MemoryStore
      pub none : IsNoEvidence bytes (profile_of words) words.revision words.line over_memory conn
          left why

    -- the words name no profile; no journal can be opened; there was no memory; or the journal has
    -- no evidence, which is told
    abbrev pub IsNoEvidenceAt : CommandFault → Type 0
    IsNoEvidenceAt why =
        IsNoProfile words why ⊎ IsNoText (Opens words.journal.now) why ⊎ (why ≡ fault.NoMemory witness)
        ⊎ ((met : NoEvidence) × HasNoEvidence met × IsToldOf Gives (fault.NoEvidence met) why)

  -- What an output has after what it had.
  module _ {O : Type 0} (contents : O → Option (List ℕ)) (output wrote : Counted O) where
    module _ (words : EvidenceWords) where
      -- the evidence was printed
      pub record HasProved : Type 0 where
        pub text : List ℕ
        pub evidence : IsEvidenceAt words text
        pub printed : IsWhole contents output wrote text

      -- no evidence is there, and nothing was printed; or the text was cut
      abbrev pub FailsToProve : CommandFault → Type 0
      FailsToProve why =
          (IsNoEvidenceAt words why × (wrote ≡ output))
          ⊎ ((why ≡ fault.Write)
          × ((text : List ℕ) × IsEvidenceAt words text × IsCut contents output wrote text))

    module _ (words : HistoryWords) where
      -- a journal was opened at the path that the words name, and the lines of its events that they
      -- ask for were written
      pub record WasToldAt : Type 0 where
        pub bytes : Option (List ℕ)
        pub journal : IsTextAt (Opens words.journal.now) bytes_of bytes
        pub left : Held MemoryStore
        pub written : IsWritten bytes (asked_of words) (contents output.inner)
            (contents wrote.inner) (meaning_over over_memory) left

      -- a journal was opened there, and not each line was written, for this
      pub record WasUntold (why : Unwritten) : Type 0 where
        pub bytes : Option (List ℕ)
        pub journal : IsTextAt (Opens words.journal.now) bytes_of bytes
        pub conn : Held MemoryStore
        pub left : Held MemoryStore
        pub unwritten : IsUnwritten bytes (asked_of words) (contents output.inner)
            (contents wrote.inner) over_memory conn left why

      -- the words name no team, profile or user, no journal can be opened, or memory is
      -- lacking, and nothing was written. Or not each line was written, which is told
      abbrev pub IsUntoldAt : CommandFault → Type 0
      IsUntoldAt why =
          ((NamesNone words why ⊎ IsNoText (Opens words.journal.now) why ⊎ (why ≡ fault.NoMemory witness))
          × (wrote ≡ output))
          ⊎ ((met : Unwritten) × WasUntold met × IsToldOf Gives (fault.Unwritten met) why)

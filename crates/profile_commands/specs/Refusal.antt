-- What a command says of the bytes of a file, and why it says nothing of them.
use Rattle.std.specs.Prelude.{◌≡◌, ◌≢◌, ◌⊎◌, ℕ, List, [], ◌∷◌, ◌++◌, Result, Ok, Err}
use Rattle.std.specs.Prelude.{String, string_bytes}
use Rattle.std.specs.declared.alloc.Global.{Global}
use Rattle.streams.specs.declared.unread.Unread.TheVariants.{NoMemory}
use Rattle.profile_text.specs.declared.document.Document.{Document as ReadDocument}
use Rattle.profile_text.specs.declared.fault.DocFault.{DocFault}
use Rattle.profile_text.specs.declared.fault.DocFault.TheVariants as faults
use Rattle.profile_text.specs.declared.profile.Profile.{Profile}
use Rattle.profile_text.specs.Reading.{reading_of}
use Rattle.profile_text.specs.Text.{text_of}
use Rattle.profile_commands.specs.declared.fault.FileFault.{FileFault}
use Rattle.profile_commands.specs.declared.fault.FileFault.TheVariants as file
use Rattle.no_memory.specs.Witness.{witness}

-- out of memory, as a fault of a file
abbrev pub no_memory : FileFault
no_memory = file.Unread (NoMemory witness)

-- a fault of a document is reported as it is, but out of memory is no fault of it
abbrev pub IsRefusalOf : DocFault → FileFault → Type 0
IsRefusalOf fault refusal =
    ((fault ≡ faults.NoMemory witness) × (refusal ≡ no_memory))
    ⊎ ((fault ≢ faults.NoMemory witness) × (refusal ≡ file.Document fault))

-- bytes that are no JSON text are reported with a place where one is found
abbrev pub IsOfNoJson : FileFault → Type 0
IsOfNoJson (file.NotJson place) = Unit {0}
IsOfNoJson (file.Document faults.NotJson) = Unit {0}
IsOfNoJson _ = ⊥

-- a fault of bytes is that which they read as; or there was no memory to read them
abbrev pub RefusesAs : List ℕ → FileFault → Type 0
RefusesAs bytes (file.NotJson place) = reading_of bytes ≡ Err faults.NotJson
RefusesAs bytes (file.Document fault) = reading_of bytes ≡ Err fault
RefusesAs bytes (file.Unread (NoMemory _)) = Unit {0}
RefusesAs bytes (file.Unread _) = ⊥

-- the profile is what the bytes read as, or the fault is theirs
abbrev pub IsReadAs : List ℕ → Result ReadDocument FileFault → Type 0
IsReadAs bytes (Ok document) = reading_of bytes ≡ Ok document.profile
IsReadAs bytes (Err fault) = RefusesAs bytes fault

-- the text is the canonical one of what the bytes read as, with a line feed
abbrev pub IsChecked : List ℕ → Result (String Global) FileFault → Type 0
IsChecked bytes (Ok text) =
    (profile : Profile) × (reading_of bytes ≡ Ok profile)
    × (string_bytes text ≡ text_of profile ++ 10 ∷ [])
IsChecked bytes (Err fault) = RefusesAs bytes fault

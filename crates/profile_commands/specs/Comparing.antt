-- What a command says of two documents, and what is reported where one of them isn't read.
use Rattle.std.specs.Prelude.{◌≡◌, ◌≢◌, ◌⊎◌, ℕ, List, Ok, String, string_bytes}
use Rattle.std.specs.declared.alloc.Global.{Global}
use Rattle.profile_text.specs.declared.profile.Profile.{Profile}
use Rattle.profile_text.specs.Reading.{reading_of}
use Rattle.review_sheet.specs.Review.{findings_text}
use Rattle.widening.specs.Findings.{findings_of}
use Rattle.profile_commands.specs.declared.compare.ComparedFault.{ComparedFault}
use Rattle.profile_commands.specs.declared.compare.ComparedFault.TheVariants.{Base, New, NoMemory}
use Rattle.profile_commands.specs.declared.fault.FileFault.{FileFault}
use Rattle.profile_commands.specs.Refusal.{no_memory}
use Rattle.no_memory.specs.Witness.{witness}

-- a fault of reading is reported of its document, but out of memory is no fault of it
abbrev pub IsToldOfBase : FileFault → ComparedFault → Type 0
IsToldOfBase fault told =
    ((fault ≡ no_memory) × (told ≡ NoMemory witness))
    ⊎ ((fault ≢ no_memory) × (told ≡ Base fault))

abbrev pub IsToldOfNew : FileFault → ComparedFault → Type 0
IsToldOfNew fault told =
    ((fault ≡ no_memory) × (told ≡ NoMemory witness))
    ⊎ ((fault ≢ no_memory) × (told ≡ New fault))

-- the text is that of the findings between the documents that the bytes are
abbrev pub IsCompared : List ℕ → List ℕ → String Global → Type 0
IsCompared base new text =
    (old shown : Profile) × (reading_of base ≡ Ok old) × (reading_of new ≡ Ok shown)
    × (string_bytes text ≡ findings_text (findings_of old shown))

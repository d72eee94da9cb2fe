-- What bytes read as: a profile, or the first fault.
use Rattle.std.specs.Prelude.{◌≡◌, ◌⊎◌, ℕ, List, [], ◌∷◌, length, nat_lt, if◌then◌else◌, Option}
use Rattle.std.specs.Prelude.{Some, None, Result, Ok, Err, string_bytes}
use Rattle.std.specs.Str.{is_utf8}
use Rattle.serde_json.specs.Data.{Data}
use Rattle.serde_json.specs.Read.{read}
use Rattle.cap_sets.specs.declared.state.CapState.{CapState}
use Rattle.cap_sets.specs.declared.state.CapFault.{CapFault}
use Rattle.seccomp_doc.specs.declared.fault.FilterFault.{FilterFault}
use Rattle.seccomp_doc.specs.Filter.{FilterValue}
use Rattle.seccomp_doc.specs.Parts.{FilterPartsValue, filter_of}
use Rattle.seccomp_doc.specs.Checks.{fault_of}
use Rattle.profile_text.specs.declared.document.Document.{Document}
use Rattle.profile_text.specs.declared.document.TheConstants.{MOST_BYTES}
use Rattle.profile_text.specs.declared.fault.DocFault.{DocFault}
use Rattle.profile_text.specs.declared.fault.DocFault.TheVariants.{TooLong, NotJson, Caps, Filter}
use Rattle.profile_text.specs.declared.fault.DocFault.TheVariants.{NoMemory, TextTooLong}
use Rattle.profile_text.specs.declared.profile.Profile.{Profile}
use Rattle.profile_text.specs.Document.{document_faults}
use Rattle.profile_text.specs.Parts.{document_parts}
use Rattle.profile_text.specs.State.{state_of}
use Rattle.profile_text.specs.Text.{text_of}
use Rattle.no_memory.specs.Witness.{witness}

-- how many bytes a document and a canonical text may have
abbrev pub most_bytes : ℕ
most_bytes = MOST_BYTES

infixl 10 ◌>>=◌
-- the first fault stands in place of what comes after it
abbrev pub ◌>>=◌ : {X Y : Type 0} → Result X DocFault → (X → Result Y DocFault) → Result Y DocFault
(Ok x) >>= next = next x
(Err fault) >>= next = Err fault

-- the value, unless there are faults: then the first of them
abbrev pub unless_faulty : {X : Type 0} → List DocFault → X → Result X DocFault
unless_faulty [] x = Ok x
unless_faulty (fault ∷ faults) x = Err fault

-- the JSON value of the bytes, as serde_json reads them: UTF-8, of at most 127 levels
abbrev pub json_of : List ℕ → Option Data
json_of bytes = if is_utf8 bytes then read bytes else None

-- the fault of five sets is a fault of the document
abbrev pub caps_or_fault : Result CapState CapFault → Result CapState DocFault
caps_or_fault (Ok caps) = Ok caps
caps_or_fault (Err fault) = Err (Caps fault)

-- the filter, unless its parts have a fault, which is then a fault of the document
abbrev pub unless_unlawful : Option FilterFault → FilterValue → Result (Option FilterValue) DocFault
unless_unlawful None filter = Ok (Some filter)
unless_unlawful (Some fault) filter = Err (Filter fault)

-- the filter of its parts, where there are any
abbrev pub filter_or_fault : Option FilterPartsValue → Result (Option FilterValue) DocFault
filter_or_fault None = Ok None
filter_or_fault (Some parts) = unless_unlawful (fault_of parts) (filter_of parts)

-- a profile has a text that is not too long
abbrev pub if_short : Profile → Result Profile DocFault
if_short p = if nat_lt most_bytes (length (text_of p)) then Err TextTooLong else Ok p

-- the profile of a JSON value: the walk, the state of the sets, the filter
unfoldable pub profile_of : Data → Result Profile DocFault
profile_of d = do
  parts ← unless_faulty (document_faults d) (document_parts d)
  caps ← caps_or_fault (state_of parts.sets)
  filter ← filter_or_fault parts.filter
  Ok (record { caps = caps; filter = filter })

abbrev pub profile_of_json : Option Data → Result Profile DocFault
profile_of_json None = Err NotJson
profile_of_json (Some d) = profile_of d

-- what the bytes read as, however long the canonical text is, or the first fault
unfoldable pub stored_reading_of : List ℕ → Result Profile DocFault
stored_reading_of bytes =
    if nat_lt most_bytes (length bytes) then Err TooLong else profile_of_json (json_of bytes)

-- what the bytes read as, or the first fault; it is never out of memory
unfoldable pub reading_of : List ℕ → Result Profile DocFault
reading_of bytes = stored_reading_of bytes >>= if_short

-- what a reader gives is what is read; out of memory may stand in its place
abbrev pub Gives : {X : Type 0} → Result X DocFault → Result X DocFault → Type 0
Gives (Ok x) reading = reading ≡ Ok x
Gives (Err fault) reading = (fault ≡ NoMemory witness) ⊎ (reading ≡ Err fault)

-- a reader's value, as a rule sees it, is what is read; out of memory may stand in its place
abbrev pub GivesAs : {X Y : Type 0} → (X → Y) → Result X DocFault → Result Y DocFault → Type 0
GivesAs seen (Ok x) reading = reading ≡ Ok (seen x)
GivesAs seen (Err fault) reading = (fault ≡ NoMemory witness) ⊎ (reading ≡ Err fault)

-- the text of a document is the canonical one of its profile
abbrev pub HasItsText : Document → Type 0
HasItsText document = string_bytes document.text ≡ text_of document.profile

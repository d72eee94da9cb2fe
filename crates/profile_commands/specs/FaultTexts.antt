-- The words of why a command on documents in files gave nothing.
use Rattle.std.specs.Prelude.{ℕ, List, [], ◌++◌, Option, None, Some, codes, decimal, slice_get}
use Rattle.cap_sets.specs.Capability.{cap_names}
use Rattle.cap_sets.specs.declared.state.CapFault.{CapFault}
use Rattle.cap_sets.specs.declared.state.CapFault.TheVariants.{EffectiveOutside, AmbientOutside}
use Rattle.profile_text.specs.FaultText.{fault_text_of}
use Rattle.profile_text.specs.declared.fault.DocFault.{DocFault}
use Rattle.profile_text.specs.declared.fault.DocFault.TheVariants as document
use Rattle.streams.specs.declared.unread.Unread.{Unread}
use Rattle.streams.specs.declared.unread.Unread.TheVariants as unread
use Rattle.profile_commands.specs.declared.compare.ComparedFault.{ComparedFault}
use Rattle.profile_commands.specs.declared.compare.ComparedFault.TheVariants as compared
use Rattle.profile_commands.specs.declared.fault.FileFault.{FileFault}
use Rattle.profile_commands.specs.declared.fault.FileFault.TheVariants as file

-- the number of the capability that a fault of five sets tells
abbrev pub number_told : CapFault → ℕ
number_told (EffectiveOutside number) = number
number_told (AmbientOutside number) = number

-- a space and a name, where there is one
abbrev pub behind : Option (List ℕ) → List ℕ
behind None = []
behind (Some name) = codes " " ++ name

-- the name of the capability that a fault tells by number, where it tells one
abbrev pub name_told : DocFault → Option (List ℕ)
name_told (document.Caps fault) = slice_get cap_names (number_told fault)
name_told fault = None

-- why a file wasn't read
abbrev pub unread_word : Unread → List ℕ
unread_word unread.Failed = codes "read"
unread_word unread.TooManyReads = codes "too-many-reads"
unread_word (unread.NoMemory _) = codes "memory"

-- why a file gave nothing: of bytes that are no JSON the place, of bytes that are no document the
-- text of their fault, and the name behind it
abbrev pub file_fault_text : FileFault → List ℕ
file_fault_text (file.Unread why) = unread_word why
file_fault_text (file.NotJson place) =
    codes "not-json line " ++ decimal place.line ++ codes " column " ++ decimal place.column
file_fault_text (file.Document why) = fault_text_of why ++ behind (name_told why)

-- why two documents weren't compared
abbrev pub compared_fault_text : ComparedFault → List ℕ
compared_fault_text (compared.Base why) = codes "base: " ++ file_fault_text why
compared_fault_text (compared.New why) = codes "new: " ++ file_fault_text why
compared_fault_text (compared.NoMemory _) = codes "memory"

-- The documents of canonical texts.
use Rattle.std.specs.Prelude.{ℕ, List, Result, Ok, Err}
use Rattle.profile_text.specs.declared.profile.Profile.{Profile}
use Rattle.profile_text.specs.declared.fault.DocFault.{DocFault}
use Rattle.profile_text.specs.Profile.{closed_profile}
use Rattle.profile_text.specs.Reading.{stored_reading_of}

-- the profile that was read, else the closed one
abbrev pub read_or_closed : Result Profile DocFault → Profile
read_or_closed (Ok p) = p
read_or_closed (Err f) = closed_profile

-- the document of a canonical text; each text of a lawful history reads
abbrev pub document_of : List ℕ → Profile
document_of text = read_or_closed (stored_reading_of text)

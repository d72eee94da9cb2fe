-- Filters and files at a limit, and one past it.
use Rattle.std.specs.Prelude.{◌≡◌, ◌≤◌, ℕ, suc, List, [], ◌∷◌, None, Result, codes, replicate}
use Rattle.std.specs.declared.io.Error.{Error}
use Rattle.seccomp_doc.specs.declared.action.ActionWord.TheVariants.{Allow}
use Rattle.seccomp_doc.specs.declared.compare.Op.TheVariants.{Equal}
use Rattle.seccomp_doc.specs.declared.parts.ArgParts.{ArgParts}
use Rattle.seccomp_doc.specs.Parts.{EntryPartsValue, FilterPartsValue}

-- an entry of a call
abbrev pub entry : EntryPartsValue
entry = record { names = codes "read" ∷ []; word = Allow; errno = None; args = [] }

-- a filter that allows all
abbrev pub allowing_all : FilterPartsValue
allowing_all = record {
  default = Allow;
  default_errno = None;
  architectures = [];
  flags = [];
  entries = [];
}

-- one with so many entries, architectures or flags
abbrev pub with_entries : ℕ → FilterPartsValue
with_entries n = record allowing_all { entries = replicate n entry }

abbrev pub with_architectures : ℕ → FilterPartsValue
with_architectures n = record allowing_all { architectures = replicate n (codes "SCMP_ARCH_X86") }

abbrev pub with_flags : ℕ → FilterPartsValue
with_flags n = record allowing_all { flags = replicate n (codes "SECCOMP_FILTER_FLAG_LOG") }

-- an entry of so many names, or with so many arguments
abbrev pub with_names : ℕ → EntryPartsValue
with_names n = record entry { names = replicate n (codes "read") }

abbrev pub argument : ArgParts
argument = record { index = 0; op = Equal; value = 0; value_two = 0 }

abbrev pub with_arguments : ℕ → EntryPartsValue
with_arguments n = record entry { args = replicate n argument }

-- a file, which is how many calls of read were made of it: it gives something so many times
abbrev pub gives_times : ℕ → (old new : ℕ) → Result ℕ Error → List ℕ → Type 0
gives_times most old new result bytes = (new ≡ suc old) × (new ≤ most)

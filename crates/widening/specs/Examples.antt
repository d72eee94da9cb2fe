-- Filters that differ in what they list besides their entries.
use Rattle.std.specs.Prelude.{ℕ, List, [], codes}
use Rattle.seccomp_doc.specs.declared.action.Action.TheVariants.{Errno}
use Rattle.seccomp_doc.specs.Filter.{FilterValue}

-- a filter without an entry that lists these
abbrev pub listing : (architectures flags : List (List ℕ)) → FilterValue
listing architectures flags =
    record { default = Errno 1; architectures = architectures; flags = flags; entries = [] }

-- the name of one of these is the beginning of the other's
abbrev pub x86 : List ℕ
x86 = codes "SCMP_ARCH_X86"

abbrev pub x86_64 : List ℕ
x86_64 = codes "SCMP_ARCH_X86_64"

abbrev pub spec_allow : List ℕ
spec_allow = codes "SECCOMP_FILTER_FLAG_SPEC_ALLOW"

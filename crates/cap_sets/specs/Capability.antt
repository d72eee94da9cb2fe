-- The capabilities by number and name, and sets of them. A set is known by its members: a contract
-- sees it as the number whose bit n is set where capability n is a member.
use Rattle.std.specs.Prelude.{◌≡◌, ℕ, ◌+◌, ◌^◌, ◌==◌, ◌<◌, List, [], ◌∷◌, Option, Some, None}
use Rattle.std.specs.Prelude.{if◌then◌else◌, codes, drop, nat_eq, option_and_then, slice_get}
use Rattle.std.specs.Int.{bit_at}
use Rattle.std.specs.Int.RustNames.{bit_or}
use Rattle.std.specs.Cmp.Lexicographic.{pointwise}

-- the names of the capabilities by rising number, from 0 on, as in linux/capability.h
abbrev pub cap_names : List (List ℕ)
cap_names =
    codes "CAP_CHOWN" ∷
    codes "CAP_DAC_OVERRIDE" ∷
    codes "CAP_DAC_READ_SEARCH" ∷
    codes "CAP_FOWNER" ∷
    codes "CAP_FSETID" ∷
    codes "CAP_KILL" ∷
    codes "CAP_SETGID" ∷
    codes "CAP_SETUID" ∷
    codes "CAP_SETPCAP" ∷
    codes "CAP_LINUX_IMMUTABLE" ∷
    codes "CAP_NET_BIND_SERVICE" ∷
    codes "CAP_NET_BROADCAST" ∷
    codes "CAP_NET_ADMIN" ∷
    codes "CAP_NET_RAW" ∷
    codes "CAP_IPC_LOCK" ∷
    codes "CAP_IPC_OWNER" ∷
    codes "CAP_SYS_MODULE" ∷
    codes "CAP_SYS_RAWIO" ∷
    codes "CAP_SYS_CHROOT" ∷
    codes "CAP_SYS_PTRACE" ∷
    codes "CAP_SYS_PACCT" ∷
    codes "CAP_SYS_ADMIN" ∷
    codes "CAP_SYS_BOOT" ∷
    codes "CAP_SYS_NICE" ∷
    codes "CAP_SYS_RESOURCE" ∷
    codes "CAP_SYS_TIME" ∷
    codes "CAP_SYS_TTY_CONFIG" ∷
    codes "CAP_MKNOD" ∷
    codes "CAP_LEASE" ∷
    codes "CAP_AUDIT_WRITE" ∷
    codes "CAP_AUDIT_CONTROL" ∷
    codes "CAP_SETFCAP" ∷
    codes "CAP_MAC_OVERRIDE" ∷
    codes "CAP_MAC_ADMIN" ∷
    codes "CAP_SYSLOG" ∷
    codes "CAP_WAKE_ALARM" ∷
    codes "CAP_BLOCK_SUSPEND" ∷
    codes "CAP_AUDIT_READ" ∷
    codes "CAP_PERFMON" ∷
    codes "CAP_BPF" ∷
    codes "CAP_CHECKPOINT_RESTORE" ∷ []

-- capability n has this name
abbrev pub IsNamed : ℕ → List ℕ → Type 0
IsNamed n name = slice_get cap_names n ≡ Some name

-- capability n is in the set
abbrev pub Has : ℕ → ℕ → Type 0
Has caps n = bit_at caps n ≡ 1

-- each member of the first set is in the second
abbrev pub IsWithin : ℕ → ℕ → Type 0
IsWithin a b = (n : ℕ) → Has a n → Has b n

-- n is the lowest number with this property
pub record IsLowest (P : ℕ → Type 0) (n : ℕ) : Type 0 where
  pub holds : P n
  pub below : (k : ℕ) → k < n → ¬ P k

-- the set of this capability alone
abbrev pub single : ℕ → ℕ
single n = 2 ^ n

-- the number of a name, where the first of these names has number n
unfoldable pub number_from : ℕ → List (List ℕ) → List ℕ → Option ℕ
number_from n [] name = None
number_from n (first ∷ names) name =
    if pointwise nat_eq first name then Some n else number_from (n + 1) names name

-- the number of the capability of this name
abbrev pub number_named : List ℕ → Option ℕ
number_named name = number_from 0 cap_names name

-- the set with the capabilities of these names too, where each is one's
abbrev pub with_names : ℕ → List (List ℕ) → Option ℕ
with_names caps [] = Some caps
with_names caps (name ∷ names) =
    option_and_then (λ number. with_names (bit_or caps (single number)) names) (number_named name)

-- the set of just the capabilities of these names, where each is one's
abbrev pub set_named : List (List ℕ) → Option ℕ
set_named names = with_names 0 names

-- the names of the members, where the first of these names has number n
unfoldable pub names_from : ℕ → List (List ℕ) → ℕ → List (List ℕ)
names_from n [] caps = []
names_from n (name ∷ names) caps =
    if bit_at caps n == 1 then name ∷ names_from (n + 1) names caps
    else names_from (n + 1) names caps

-- the names of the members from this number on
abbrev pub names_left : ℕ → ℕ → List (List ℕ)
names_left next caps = names_from next (drop next cap_names) caps

-- the names of the members by rising number
abbrev pub names_of : ℕ → List (List ℕ)
names_of caps = names_from 0 cap_names caps

-- the names, each with the set of its capability alone, where the first has number n
abbrev pub rows_from : ℕ → List (List ℕ) → List (List ℕ × ℕ)
rows_from n [] = []
rows_from n (name ∷ names) = (name, single n) ∷ rows_from (n + 1) names

-- each name with the set of its capability alone
abbrev pub cap_table : List (List ℕ × ℕ)
cap_table = rows_from 0 cap_names

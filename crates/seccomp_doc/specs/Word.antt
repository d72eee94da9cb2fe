-- The forms of names.
use Rattle.std.specs.Prelude.{◌≡◌, ℕ, List, Bool, true, false, ◌&&◌, ◌||◌, ◌==◌, nat_lt, nat_le}
use Rattle.std.specs.Prelude.{Result, Ok, Err, length, take, drop, bytes_eq, codes}
use Rattle.std.specs.List.{list_all}
use Rattle.seccomp_doc.specs.declared.word.NameFault.{NameFault}
use Rattle.seccomp_doc.specs.declared.word.NameFault.TheVariants.{NotAWord, NoMemory}

abbrev pub is_upper_case : ℕ → Bool
is_upper_case b = nat_le 65 b && nat_le b 90

abbrev pub is_lower_case : ℕ → Bool
is_lower_case b = nat_le 97 b && nat_le b 122

abbrev pub is_digit : ℕ → Bool
is_digit b = nat_le 48 b && nat_le b 57

abbrev pub is_underscore : ℕ → Bool
is_underscore b = b == 95

-- 1 to a number of bytes of a kind
abbrev pub is_name : (ℕ → Bool) → ℕ → List ℕ → Bool
is_name kind most bytes =
    nat_lt 0 (length bytes) && nat_le (length bytes) most && list_all kind bytes

-- a prefix, and then 1 to 32 bytes of a kind
abbrev pub is_prefixed_name : List ℕ → (ℕ → Bool) → List ℕ → Bool
is_prefixed_name prefix kind text =
    bytes_eq (take (length prefix) text) prefix && is_name kind 32 (drop (length prefix) text)

abbrev pub is_arch_byte : ℕ → Bool
is_arch_byte b = is_upper_case b || is_digit b || is_underscore b

abbrev pub is_flag_byte : ℕ → Bool
is_flag_byte b = is_upper_case b || is_underscore b

abbrev pub is_call_byte : ℕ → Bool
is_call_byte b = is_lower_case b || is_digit b || is_underscore b

-- an architecture
unfoldable pub is_arch : List ℕ → Bool
is_arch text = is_prefixed_name (codes "SCMP_ARCH_") is_arch_byte text

-- a flag
unfoldable pub is_flag : List ℕ → Bool
is_flag text = is_prefixed_name (codes "SECCOMP_FILTER_FLAG_") is_flag_byte text

-- the name of a system call
unfoldable pub is_call_name : List ℕ → Bool
is_call_name text = is_name is_call_byte 64 text

-- what a reader answers: the text, where it is of the form, or that it isn't, or that memory was
-- refused
abbrev pub Reads : (List ℕ → Bool) → List ℕ → Result (List ℕ) NameFault → Type 0
Reads form text (Ok word) = (form text ≡ true) × (word ≡ text)
Reads form text (Err NotAWord) = form text ≡ false
Reads form text (Err (NoMemory _)) = form text ≡ true

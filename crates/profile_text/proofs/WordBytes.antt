-- Names of calls, architectures and flags are ASCII.
use Rattle.std.proofs.Common.{◌≡◌, ℕ, ◌<◌, List, [], ◌∷◌, take, drop, length, Bool, true, bytes_eq, refl, sym, subst, arith, lt-ltb}
use Rattle.std.specs.Prelude.{IsUtf8, codes}
use Rattle.std.specs.List.{list_all}
use Rattle.std.proofs.lemmas.Bool.{and_parts}
use Rattle.std.proofs.lemmas.Bool.Decides.{nat_tests}
use Rattle.std.proofs.lemmas.List.{take-append-drop}
use Rattle.std.proofs.lemmas.Str.{IsUtf8-append}
use Rattle.json.proofs.Printed.Utf8.{are_ascii, IsUtf8-are_ascii}
use Rattle.seccomp_doc.specs.Word.{is_arch, is_arch_byte, is_call_byte, is_call_name, is_flag, is_flag_byte, is_name, is_prefixed_name}
use Rattle.profile_text.proofs.Picks.{same_name}

call_byte_small : (b : ℕ) → is_call_byte b ≡ true → b < 128
call_byte_small b h = grind (arith, nat_tests)

arch_byte_small : (b : ℕ) → is_arch_byte b ≡ true → b < 128
arch_byte_small b h = grind (arith, nat_tests)

flag_byte_small : (b : ℕ) → is_flag_byte b ≡ true → b < 128
flag_byte_small b h = grind (arith, nat_tests)

all_ascii : (kind : ℕ → Bool) → ((b : ℕ) → kind b ≡ true → b < 128) → (bytes : List ℕ) → list_all kind bytes ≡ true → are_ascii bytes ≡ true
all_ascii kind small [] h = refl
all_ascii kind small (b ∷ bytes) h =
    let parts = and_parts (kind b) (list_all kind bytes) h in
    rw (lt-ltb b 128 (small b parts.0)) (all_ascii kind small bytes parts.1)

name_utf8 : (kind : ℕ → Bool) → ((b : ℕ) → kind b ≡ true → b < 128) → (most : ℕ) (text : List ℕ) → is_name kind most text ≡ true → IsUtf8 text
name_utf8 kind small most text h = IsUtf8-are_ascii text (all_ascii kind small text (and_parts _ (list_all kind text) h).1)

prefixed_utf8 : (prefix : List ℕ) → are_ascii prefix ≡ true → (kind : ℕ → Bool) → ((b : ℕ) → kind b ≡ true → b < 128) → (text : List ℕ) → is_prefixed_name prefix kind text ≡ true → IsUtf8 text
prefixed_utf8 prefix plain kind small text h =
    let parts = and_parts (bytes_eq (take (length prefix) text) prefix) (is_name kind 32 (drop (length prefix) text)) h in
    let front : IsUtf8 (take (length prefix) text) = subst IsUtf8 (sym (same_name _ prefix parts.0)) (IsUtf8-are_ascii prefix plain) in
    subst IsUtf8 (take-append-drop (length prefix) text) (IsUtf8-append _ _ front (name_utf8 kind small 32 (drop (length prefix) text) parts.1))

pub call_name_utf8 : (text : List ℕ) → is_call_name text ≡ true → IsUtf8 text
unfolding is_call_name
call_name_utf8 text h = name_utf8 is_call_byte call_byte_small 64 text h

pub arch_utf8 : (text : List ℕ) → is_arch text ≡ true → IsUtf8 text
unfolding is_arch
arch_utf8 text h = prefixed_utf8 (codes "SCMP_ARCH_") refl is_arch_byte arch_byte_small text h

pub flag_utf8 : (text : List ℕ) → is_flag text ≡ true → IsUtf8 text
unfolding is_flag
flag_utf8 text h = prefixed_utf8 (codes "SECCOMP_FILTER_FLAG_") refl is_flag_byte flag_byte_small text h

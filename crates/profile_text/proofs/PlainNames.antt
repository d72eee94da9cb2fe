-- The names and the words of a profile stand within quotes as they are.
use Rattle.std.proofs.Common.{◌≡◌, ℕ, ◌+◌, List, [], ◌∷◌, take, drop, length, Bool, true, false, ◌==◌, bytes_eq, refl, sym, ap, ap₂, ◌∙◌, arith}
use Rattle.std.specs.Prelude.{◌&&◌, codes, if◌then◌else◌}
use Rattle.std.specs.Int.{bit_at}
use Rattle.std.specs.List.{list_all}
use Rattle.std.proofs.lemmas.Bool.{and_parts}
use Rattle.std.proofs.lemmas.Bool.Decides.{nat_tests}
use Rattle.std.proofs.lemmas.List.{take-append-drop}
use Rattle.std.proofs.lemmas.List.Folds.{list_all-append}
use Rattle.cap_sets.specs.Capability.{cap_names, names_from, names_of}
use Rattle.json.specs.Run.{is_plain}
use Rattle.json_tree.specs.Plain.{are_plain}
use Rattle.seccomp_doc.specs.declared.action.ActionWord.{ActionWord}
use Rattle.seccomp_doc.specs.declared.action.ActionWord.TheVariants as words
use Rattle.seccomp_doc.specs.declared.compare.Op.{Op}
use Rattle.seccomp_doc.specs.declared.compare.Op.TheVariants as ops
use Rattle.seccomp_doc.specs.Action.{action_word_text}
use Rattle.seccomp_doc.specs.Compare.{op_text}
use Rattle.seccomp_doc.specs.Word.{is_arch, is_arch_byte, is_call_byte, is_call_name, is_flag, is_flag_byte, is_name, is_prefixed_name}
use Rattle.profile_text.proofs.Picks.{same_name}

-- ---- words

pub action_plain : (word : ActionWord) → are_plain (action_word_text word) ≡ true
action_plain words.KillProcess = refl
action_plain words.KillThread = refl
action_plain words.Trap = refl
action_plain words.Errno = refl
action_plain words.Trace = refl
action_plain words.Log = refl
action_plain words.Allow = refl

pub op_plain : (op : Op) → are_plain (op_text op) ≡ true
op_plain ops.NotEqual = refl
op_plain ops.LessThan = refl
op_plain ops.LessOrEqual = refl
op_plain ops.Equal = refl
op_plain ops.GreaterOrEqual = refl
op_plain ops.GreaterThan = refl
op_plain ops.MaskedEqual = refl

-- ---- names of a form

call_byte_plain : (b : ℕ) → is_call_byte b ≡ true → is_plain b ≡ true
call_byte_plain b h = grind (arith, nat_tests)

arch_byte_plain : (b : ℕ) → is_arch_byte b ≡ true → is_plain b ≡ true
arch_byte_plain b h = grind (arith, nat_tests)

flag_byte_plain : (b : ℕ) → is_flag_byte b ≡ true → is_plain b ≡ true
flag_byte_plain b h = grind (arith, nat_tests)

all_plain : (kind : ℕ → Bool) → ((b : ℕ) → kind b ≡ true → is_plain b ≡ true) → (bytes : List ℕ) → list_all kind bytes ≡ true → are_plain bytes ≡ true
all_plain kind plain [] h = refl
all_plain kind plain (b ∷ bytes) h =
    let parts = and_parts (kind b) (list_all kind bytes) h in
    rw (plain b parts.0) (all_plain kind plain bytes parts.1)

name_plain : (kind : ℕ → Bool) → ((b : ℕ) → kind b ≡ true → is_plain b ≡ true) → (most : ℕ) (text : List ℕ) → is_name kind most text ≡ true → are_plain text ≡ true
name_plain kind plain most text h = all_plain kind plain text (and_parts _ (list_all kind text) h).1

prefixed_plain : (prefix : List ℕ) → are_plain prefix ≡ true → (kind : ℕ → Bool) → ((b : ℕ) → kind b ≡ true → is_plain b ≡ true) → (text : List ℕ) → is_prefixed_name prefix kind text ≡ true → are_plain text ≡ true
prefixed_plain prefix front kind plain text h =
    let n = length prefix in
    let parts = and_parts (bytes_eq (take n text) prefix) (is_name kind 32 (drop n text)) h in
    let first : are_plain (take n text) ≡ true = ap are_plain (same_name _ prefix parts.0) ∙ front in
    let rest = name_plain kind plain 32 (drop n text) parts.1 in
    ap are_plain (sym (take-append-drop n text)) ∙ list_all-append is_plain (take n text) (drop n text) ∙ ap₂ (λ a b. a && b) first rest

pub call_name_plain : (text : List ℕ) → is_call_name text ≡ true → are_plain text ≡ true
unfolding is_call_name
call_name_plain text h = name_plain is_call_byte call_byte_plain 64 text h

pub arch_plain : (text : List ℕ) → is_arch text ≡ true → are_plain text ≡ true
unfolding is_arch
arch_plain text h = prefixed_plain (codes "SCMP_ARCH_") refl is_arch_byte arch_byte_plain text h

pub flag_plain : (text : List ℕ) → is_flag text ≡ true → are_plain text ≡ true
unfolding is_flag
flag_plain text h = prefixed_plain (codes "SECCOMP_FILTER_FLAG_") refl is_flag_byte flag_byte_plain text h

-- ---- names of capabilities

abbrev pub all_plain_texts : List (List ℕ) → Bool
all_plain_texts texts = list_all are_plain texts

kept_plain : (b : Bool) (name : List ℕ) (names : List (List ℕ)) → are_plain name ≡ true → all_plain_texts names ≡ true → all_plain_texts (if b then name ∷ names else names) ≡ true
kept_plain true name names first rest = ap₂ (λ a b. a && b) first rest
kept_plain false name names first rest = rest

names_plain : (n : ℕ) (names : List (List ℕ)) (caps : ℕ) → all_plain_texts names ≡ true → all_plain_texts (names_from n names caps) ≡ true
unfolding names_from
names_plain n [] caps all = refl
names_plain n (name ∷ names) caps all =
    let parts = and_parts (are_plain name) (all_plain_texts names) all in
    kept_plain (bit_at caps n == 1) name _ parts.0 (names_plain (n + 1) names caps parts.1)

pub caps_plain : (caps : ℕ) → all_plain_texts (names_of caps) ≡ true
caps_plain caps = names_plain 0 cap_names caps refl

-- of names that are all plain, the first is, and the others are
pub first_plain : (names rest : List (List ℕ)) (name : List ℕ) → all_plain_texts names ≡ true → names ≡ name ∷ rest → (are_plain name ≡ true) × (all_plain_texts rest ≡ true)
first_plain names rest name all is = and_parts (are_plain name) (all_plain_texts rest) (ap all_plain_texts (sym is) ∙ all)

-- The canonical text of a profile, read as JSON, is the value that was written.
use Rattle.std.proofs.Common.{◌≡◌, ℕ, ◌+◌, ◌^◌, ◌<◌, ◌≤◌, List, [], ◌∷◌, All, map, Option, Some, None, Bool, true, false, cond, refl, arith, lit≤}
use Rattle.std.specs.Prelude.{codes, IsUtf8, IfSome, ◌&&◌, ◌==◌}
use Rattle.std.specs.Int.{bit_at}
use Rattle.std.proofs.lemmas.Bool.{and_parts}
use Rattle.std.proofs.lemmas.List.Elements.{All-nil, All-cons, All-weaker}
use Rattle.json.proofs.Printed.Utf8.{are_ascii, IsUtf8-are_ascii}
use Rattle.serde_json.specs.Data.{Data, string, number, unsigned, object, no_members, member}
use Rattle.serde_json.specs.Read.{of_json, max_depth}
use Rattle.serde_json.specs.Written.{outline}
use Rattle.cap_sets.specs.Capability.{cap_names, names_from, names_of}
use Rattle.cap_sets.specs.declared.state.CapState.{CapState}
use Rattle.seccomp_doc.specs.declared.action.Action.{Action}
use Rattle.seccomp_doc.specs.declared.action.Action.TheVariants as actions
use Rattle.seccomp_doc.specs.declared.action.ActionWord.{ActionWord}
use Rattle.seccomp_doc.specs.declared.action.ActionWord.TheVariants as words
use Rattle.seccomp_doc.specs.declared.compare.Compare.{Compare}
use Rattle.seccomp_doc.specs.declared.compare.Op.{Op}
use Rattle.seccomp_doc.specs.declared.compare.Op.TheVariants.{NotEqual, LessThan, LessOrEqual, Equal, GreaterOrEqual, GreaterThan, MaskedEqual}
use Rattle.seccomp_doc.specs.Action.{action_word_text, errno_of, word_of}
use Rattle.seccomp_doc.specs.Compare.{op_text}
use Rattle.seccomp_doc.specs.Filter.{EntryValue, FilterValue}
use Rattle.seccomp_doc.specs.Lawful.{IsLawfulAction, IsLawfulCompare, IsLawfulEntry}
use Rattle.seccomp_doc.specs.Word.{is_arch, is_call_name, is_flag}
use Rattle.profile_text.specs.declared.profile.Profile.{Profile}
use Rattle.profile_text.specs.Reading.{json_of}
use Rattle.profile_text.specs.Reads.{IsWhole, HasWholeFilter}
use Rattle.profile_text.specs.Text.{arg_data, caps_data, entry_data, errno_data, filter_data, member_if, profile_data, seccomp_data, set_data, some_list, text_of, texts_data, value_two_data}
use Rattle.profile_text.proofs.Printing.{Back, Prints, PrintsIf, back_if, deeper, end_prints, list_prints, member_prints, number_prints, object_prints, printed_json, some_list_prints, text_prints}
use Rattle.profile_text.proofs.WordBytes.{arch_utf8, call_name_utf8, flag_utf8}

-- a value that is there, printed on fewer levels
here : (levels more : ℕ) (d : Data) → levels ≤ more → Prints levels d → PrintsIf more (Some d)
here levels more d le h = deeper levels more (Some d) le h

-- ---- capabilities

abbrev all_ascii : List (List ℕ) → Bool
all_ascii [] = true
all_ascii (name ∷ names) = are_ascii name && all_ascii names

abbrev TextPrints : List ℕ → Type 0
TextPrints s = Prints 0 (string s)

names_print : (n : ℕ) (names : List (List ℕ)) (caps : ℕ) → all_ascii names ≡ true → All TextPrints (names_from n names caps)
unfolding names_from
names_print n [] caps h = All-nil TextPrints
names_print n (name ∷ names) caps h =
    let parts = and_parts (are_ascii name) (all_ascii names) h in
    let rest = names_print (n + 1) names caps parts.1 in
    elim (bit_at caps n == 1) as (λ b. All TextPrints (cond b (name ∷ names_from (n + 1) names caps) (names_from (n + 1) names caps))) [
      | true ↦ All-cons TextPrints name (names_from (n + 1) names caps) (text_prints name (IsUtf8-are_ascii name parts.0)) rest
      | false ↦ rest
    ]

set_prints : (caps : ℕ) → Prints 1 (set_data caps)
set_prints caps = list_prints string 0 (names_of caps) (names_print 0 cap_names caps refl)

caps_back : (a b e i p : Data) → of_json (outline a) ≡ Some a → of_json (outline b) ≡ Some b → of_json (outline e) ≡ Some e → of_json (outline i) ≡ Some i → of_json (outline p) ≡ Some p
    → of_json (outline (object (member (codes "ambient") a (member (codes "bounding") b (member (codes "effective") e (member (codes "inheritable") i (member (codes "permitted") p no_members)))))))
    ≡ Some (object (member (codes "ambient") a (member (codes "bounding") b (member (codes "effective") e (member (codes "inheritable") i (member (codes "permitted") p no_members))))))
caps_back a b e i p is_a is_b is_e is_i is_p = rw (is_a, is_b, is_e, is_i, is_p) refl

caps_print : (s : CapState) → Prints 2 (caps_data s)
caps_print s =
    let a = set_prints s.ambient in
    let b = set_prints s.bounding in
    let e = set_prints s.effective in
    let i = set_prints s.inheritable in
    let p = set_prints s.permitted in
    object_prints 1 _
    (member_prints 1 (codes "ambient") (Some (set_data s.ambient)) _ refl a
    (member_prints 1 (codes "bounding") (Some (set_data s.bounding)) _ refl b
    (member_prints 1 (codes "effective") (Some (set_data s.effective)) _ refl e
    (member_prints 1 (codes "inheritable") (Some (set_data s.inheritable)) _ refl i
    (member_prints 1 (codes "permitted") (Some (set_data s.permitted)) no_members refl p (end_prints 1))))))
    (caps_back _ _ _ _ _ a.back b.back e.back i.back p.back)

-- ---- arguments

op_prints : (op : Op) → TextPrints (op_text op)
op_prints op = text_prints (op_text op) (IsUtf8-are_ascii (op_text op) (ascii op))
  where
    ascii : (op : Op) → are_ascii (op_text op) ≡ true
    ascii NotEqual = refl
    ascii LessThan = refl
    ascii LessOrEqual = refl
    ascii Equal = refl
    ascii GreaterOrEqual = refl
    ascii GreaterThan = refl
    ascii MaskedEqual = refl

two_prints : (op : Op) (two : ℕ) → two < 2 ^ 64 → PrintsIf 0 (value_two_data op two)
two_prints NotEqual two h = tt
two_prints LessThan two h = tt
two_prints LessOrEqual two h = tt
two_prints Equal two h = tt
two_prints GreaterOrEqual two h = tt
two_prints GreaterThan two h = tt
two_prints MaskedEqual two h = number_prints two h

arg_back : (i o v : Data) (two : Option Data) → of_json (outline i) ≡ Some i → of_json (outline o) ≡ Some o → of_json (outline v) ≡ Some v → Back two
    → of_json (outline (object (member (codes "index") i (member (codes "op") o (member (codes "value") v (member_if (codes "valueTwo") two no_members))))))
    ≡ Some (object (member (codes "index") i (member (codes "op") o (member (codes "value") v (member_if (codes "valueTwo") two no_members)))))
arg_back i o v None is_i is_o is_v is_two = rw (is_i, is_o, is_v) refl
arg_back i o v (Some d) is_i is_o is_v is_two = rw (is_i, is_o, is_v, is_two) refl

arg_prints : (c : Compare) → IsLawfulCompare c → Prints 1 (arg_data c)
arg_prints c h =
    let low = h.index in
    let index = number_prints c.index (omega arith) in
    let op = op_prints c.op in
    let value = number_prints c.value h.value in
    let two = two_prints c.op c.value_two h.value_two in
    object_prints 0 _
    (member_prints 0 (codes "index") (Some (number (unsigned c.index))) _ refl index
    (member_prints 0 (codes "op") (Some (string (op_text c.op))) _ refl op
    (member_prints 0 (codes "value") (Some (number (unsigned c.value))) _ refl value
    (member_prints 0 (codes "valueTwo") (value_two_data c.op c.value_two) no_members refl two (end_prints 0)))))
    (arg_back _ _ _ _ index.back op.back value.back (back_if 0 _ two))

-- ---- entries

word_prints : (word : ActionWord) → TextPrints (action_word_text word)
word_prints word = text_prints (action_word_text word) (IsUtf8-are_ascii (action_word_text word) (ascii word))
  where
    ascii : (word : ActionWord) → are_ascii (action_word_text word) ≡ true
    ascii words.KillProcess = refl
    ascii words.KillThread = refl
    ascii words.Trap = refl
    ascii words.Errno = refl
    ascii words.Trace = refl
    ascii words.Log = refl
    ascii words.Allow = refl

errno_prints : (a : Action) → IsLawfulAction a → PrintsIf 0 (errno_data (errno_of a))
errno_prints actions.KillProcess h = tt
errno_prints actions.KillThread h = tt
errno_prints actions.Trap h = tt
errno_prints (actions.Errno n) h = let small = h n refl in number_prints n (omega arith)
errno_prints (actions.Trace n) h = let small = h n refl in number_prints n (omega arith)
errno_prints actions.Log h = tt
errno_prints actions.Allow h = tt

-- texts of a form that is UTF-8
texts_print : (form : List ℕ → Bool) → ((s : List ℕ) → form s ≡ true → IsUtf8 s) → (texts : List (List ℕ)) → All (λ s. form s ≡ true) texts → All TextPrints texts
texts_print form utf8 texts all = All-weaker (λ s. form s ≡ true) TextPrints (λ s is. text_prints s (utf8 s is)) texts all

entry_back : (a n : Data) (args errno : Option Data) → of_json (outline a) ≡ Some a → of_json (outline n) ≡ Some n → Back args → Back errno
    → of_json (outline (object (member (codes "action") a (member_if (codes "args") args (member_if (codes "errnoRet") errno (member (codes "names") n no_members))))))
    ≡ Some (object (member (codes "action") a (member_if (codes "args") args (member_if (codes "errnoRet") errno (member (codes "names") n no_members)))))
entry_back a n None None is_a is_n is_args is_errno = rw (is_a, is_n) refl
entry_back a n None (Some e) is_a is_n is_args is_errno = rw (is_a, is_n, is_errno) refl
entry_back a n (Some d) None is_a is_n is_args is_errno = rw (is_a, is_n, is_args) refl
entry_back a n (Some d) (Some e) is_a is_n is_args is_errno = rw (is_a, is_n, is_args, is_errno) refl

entry_prints : (e : EntryValue) → IsLawfulEntry e → Prints 3 (entry_data e)
entry_prints e h =
    let action = word_prints (word_of e.action) in
    let args = some_list_prints arg_data 1 e.args (All-weaker IsLawfulCompare (λ c. Prints 1 (arg_data c)) arg_prints e.args h.args) in
    let errno = errno_prints e.action h.action in
    let names = list_prints string 0 e.names (texts_print is_call_name call_name_utf8 e.names h.names) in
    object_prints 2 _
    (member_prints 2 (codes "action") (Some (string (action_word_text (word_of e.action)))) _ refl (here 0 2 _ (lit≤ tt) action)
    (member_prints 2 (codes "args") (some_list (map arg_data e.args)) _ refl args
    (member_prints 2 (codes "errnoRet") (errno_data (errno_of e.action)) _ refl (deeper 0 2 _ (lit≤ tt) errno)
    (member_prints 2 (codes "names") (Some (texts_data e.names)) no_members refl (here 1 2 _ (lit≤ tt) names) (end_prints 2)))))
    (entry_back _ _ _ _ action.back names.back (back_if 2 _ args) (back_if 0 _ errno))

-- ---- filters

-- the members from `flags` on read back after those before
abbrev filter_object : (a : Option Data) (d : Data) (e f s : Option Data) → Data
filter_object a d e f s =
    object (member_if (codes "architectures") a (member (codes "defaultAction") d (member_if (codes "defaultErrnoRet") e (member_if (codes "flags") f (member_if (codes "syscalls") s no_members)))))

filter_back : (d : Data) (a e f s : Option Data) → of_json (outline d) ≡ Some d → Back a → Back e → Back f → Back s → of_json (outline (filter_object a d e f s)) ≡ Some (filter_object a d e f s)
filter_back d None None None None is a e f s = rw is refl
filter_back d None None None (Some w) is a e f s = rw (is, s) refl
filter_back d None None (Some v) None is a e f s = rw (is, f) refl
filter_back d None None (Some v) (Some w) is a e f s = rw (is, f, s) refl
filter_back d None (Some u) None None is a e f s = rw (is, e) refl
filter_back d None (Some u) None (Some w) is a e f s = rw (is, e, s) refl
filter_back d None (Some u) (Some v) None is a e f s = rw (is, e, f) refl
filter_back d None (Some u) (Some v) (Some w) is a e f s = rw (is, e, f, s) refl
filter_back d (Some t) None None None is a e f s = rw (is, a) refl
filter_back d (Some t) None None (Some w) is a e f s = rw (is, a, s) refl
filter_back d (Some t) None (Some v) None is a e f s = rw (is, a, f) refl
filter_back d (Some t) None (Some v) (Some w) is a e f s = rw (is, a, f, s) refl
filter_back d (Some t) (Some u) None None is a e f s = rw (is, a, e) refl
filter_back d (Some t) (Some u) None (Some w) is a e f s = rw (is, a, e, s) refl
filter_back d (Some t) (Some u) (Some v) None is a e f s = rw (is, a, e, f) refl
filter_back d (Some t) (Some u) (Some v) (Some w) is a e f s = rw (is, a, e, f, s) refl

filter_prints : (f : FilterValue) → IsWhole f → Prints 5 (filter_data f)
filter_prints f h =
    let architectures = some_list_prints string 0 f.architectures (texts_print is_arch arch_utf8 f.architectures h.architectures) in
    let default = word_prints (word_of f.default) in
    let errno = errno_prints f.default h.lawful.default in
    let flags = some_list_prints string 0 f.flags (texts_print is_flag flag_utf8 f.flags h.flags) in
    let entries = some_list_prints entry_data 3 f.entries (All-weaker IsLawfulEntry (λ e. Prints 3 (entry_data e)) entry_prints f.entries h.lawful.entries) in
    object_prints 4 _
    (member_prints 4 (codes "architectures") (some_list (map string f.architectures)) _ refl (deeper 1 4 _ (lit≤ tt) architectures)
    (member_prints 4 (codes "defaultAction") (Some (string (action_word_text (word_of f.default)))) _ refl (here 0 4 _ (lit≤ tt) default)
    (member_prints 4 (codes "defaultErrnoRet") (errno_data (errno_of f.default)) _ refl (deeper 0 4 _ (lit≤ tt) errno)
    (member_prints 4 (codes "flags") (some_list (map string f.flags)) _ refl (deeper 1 4 _ (lit≤ tt) flags)
    (member_prints 4 (codes "syscalls") (some_list (map entry_data f.entries)) no_members refl entries (end_prints 4))))))
    (filter_back _ _ _ _ _ default.back (back_if 1 _ architectures) (back_if 0 _ errno) (back_if 1 _ flags) (back_if 4 _ entries))

-- ---- profiles

profile_back : (c : Data) (s : Option Data) → of_json (outline c) ≡ Some c → Back s
    → of_json (outline (object (member (codes "capabilities") c (member_if (codes "seccomp") s no_members)))) ≡ Some (object (member (codes "capabilities") c (member_if (codes "seccomp") s no_members)))
profile_back c None is_c is_s = rw is_c refl
profile_back c (Some d) is_c is_s = rw (is_c, is_s) refl

seccomp_prints : (o : Option FilterValue) → IfSome o IsWhole → PrintsIf 5 (seccomp_data o)
seccomp_prints None h = tt
seccomp_prints (Some f) h = filter_prints f h

profile_prints : (p : Profile) → HasWholeFilter p → Prints 6 (profile_data p)
profile_prints p h =
    let caps = caps_print p.caps in
    let filter = seccomp_prints p.filter h in
    object_prints 5 _
    (member_prints 5 (codes "capabilities") (Some (caps_data p.caps)) _ refl (here 2 5 _ (lit≤ tt) caps)
    (member_prints 5 (codes "seccomp") (seccomp_data p.filter) no_members refl filter (end_prints 5)))
    (profile_back _ _ caps.back (back_if 5 _ filter))

pub text_json : (p : Profile) → HasWholeFilter p → json_of (text_of p) ≡ Some (profile_data p)
unfolding text_of
text_json p h = printed_json (profile_data p) (here 6 max_depth _ (lit≤ tt) (profile_prints p h))

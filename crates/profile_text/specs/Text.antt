-- The canonical text of a profile: compact JSON, with the members of each object in byte order
-- of their names.
use Rattle.std.specs.Prelude.{ℕ, List, [], ◌∷◌, map, codes, Option, Some, None}
use Rattle.serde_json.specs.Data.{Data, string, number, unsigned, array, object, Members}
use Rattle.serde_json.specs.Data.{no_members, member}
use Rattle.serde_json.specs.View.{items_of}
use Rattle.serde_json.specs.Written.{compact_text}
use Rattle.cap_sets.specs.Capability.{names_of}
use Rattle.cap_sets.specs.declared.state.CapState.{CapState}
use Rattle.seccomp_doc.specs.declared.compare.Compare.{Compare}
use Rattle.seccomp_doc.specs.declared.compare.Op.{Op}
use Rattle.seccomp_doc.specs.declared.compare.Op.TheVariants.{MaskedEqual}
use Rattle.seccomp_doc.specs.Action.{action_word_text, errno_of, word_of}
use Rattle.seccomp_doc.specs.Compare.{op_text}
use Rattle.seccomp_doc.specs.Filter.{EntryValue, FilterValue}
use Rattle.profile_text.specs.declared.profile.Profile.{Profile}

-- a list of texts
abbrev pub texts_data : List (List ℕ) → Data
texts_data texts = array (items_of (map string texts))

-- a set is written as the names of its members, by rising number
abbrev pub set_data : ℕ → Data
set_data caps = texts_data (names_of caps)

-- all five sets are written
abbrev pub caps_data : CapState → Data
caps_data state =
    object (member (codes "ambient") (set_data state.ambient)
    (member (codes "bounding") (set_data state.bounding)
    (member (codes "effective") (set_data state.effective)
    (member (codes "inheritable") (set_data state.inheritable)
    (member (codes "permitted") (set_data state.permitted) no_members)))))

-- a member that is left out where there is nothing to write
abbrev pub member_if : List ℕ → Option Data → Members → Members
member_if name None rest = rest
member_if name (Some d) rest = member name d rest

-- a list, where it isn't empty
abbrev pub some_list : List Data → Option Data
some_list [] = None
some_list (d ∷ ds) = Some (array (items_of (d ∷ ds)))

-- the number that an action carries, for ERRNO and TRACE alone
abbrev pub errno_data : Option ℕ → Option Data
errno_data None = None
errno_data (Some n) = Some (number (unsigned n))

-- the second value, for MASKED_EQ alone
abbrev pub value_two_data : Op → ℕ → Option Data
value_two_data MaskedEqual n = Some (number (unsigned n))
value_two_data _ n = None

abbrev pub arg_data : Compare → Data
arg_data c =
    object (member (codes "index") (number (unsigned c.index))
    (member (codes "op") (string (op_text c.op))
    (member (codes "value") (number (unsigned c.value))
    (member_if (codes "valueTwo") (value_two_data c.op c.value_two) no_members))))

abbrev pub entry_data : EntryValue → Data
entry_data e =
    object (member (codes "action") (string (action_word_text (word_of e.action)))
    (member_if (codes "args") (some_list (map arg_data e.args))
    (member_if (codes "errnoRet") (errno_data (errno_of e.action))
    (member (codes "names") (texts_data e.names) no_members))))

abbrev pub filter_data : FilterValue → Data
filter_data f =
    object (member_if (codes "architectures") (some_list (map string f.architectures))
    (member (codes "defaultAction") (string (action_word_text (word_of f.default)))
    (member_if (codes "defaultErrnoRet") (errno_data (errno_of f.default))
    (member_if (codes "flags") (some_list (map string f.flags))
    (member_if (codes "syscalls") (some_list (map entry_data f.entries)) no_members)))))

-- the filter, where there is one
abbrev pub seccomp_data : Option FilterValue → Option Data
seccomp_data None = None
seccomp_data (Some f) = Some (filter_data f)

abbrev pub profile_data : Profile → Data
profile_data p =
    object (member (codes "capabilities") (caps_data p.caps)
    (member_if (codes "seccomp") (seccomp_data p.filter) no_members))

-- the canonical text
unfoldable pub text_of : Profile → List ℕ
text_of p = compact_text (profile_data p)

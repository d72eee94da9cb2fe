-- The members that the objects of a filter may have: Seccomp in config-linux.md of the OCI Runtime
-- Specification.
use Rattle.std.specs.Prelude.{ℕ, List, [], ◌∷◌, Bool, true, false, if◌then◌else◌, is_some, bytes_eq}
use Rattle.std.specs.Prelude.{codes}
use Rattle.serde_json.specs.Data.{Data, null, boolean, number, string, array, object}
use Rattle.seccomp_doc.specs.Action.{action_word_named}
use Rattle.seccomp_doc.specs.Compare.{op_named}
use Rattle.seccomp_doc.specs.Word.{is_arch, is_flag}
use Rattle.profile_text.specs.declared.fault.DocFault.TheVariants.{WrongShape, BadNumber}
use Rattle.profile_text.specs.FilterParts.{u64_of}
use Rattle.profile_text.specs.Shape.{Shape, Row, word_faults, list_faults, optional_faults}
use Rattle.profile_text.specs.Shape.{refused_faults, object_faults}

-- a whole number from 0 to 2^64 - 1
unfoldable pub number_faults : Shape
number_faults path (number n) = if is_some (u64_of n) then [] else BadNumber path ∷ []
number_faults path null = WrongShape path ∷ []
number_faults path (boolean b) = WrongShape path ∷ []
number_faults path (string s) = WrongShape path ∷ []
number_faults path (array ds) = WrongShape path ∷ []
number_faults path (object ms) = WrongShape path ∷ []

abbrev pub is_text : List ℕ → Bool
is_text s = true

-- any text
abbrev pub text_faults : Shape
text_faults path d = word_faults is_text path d

-- the name of an action
abbrev pub is_action_name : List ℕ → Bool
is_action_name s = is_some (action_word_named s)

-- the action that asks a listener: what a listener decides isn't in a document
abbrev pub is_notify : Data → Bool
is_notify (string s) = bytes_eq s (codes "SCMP_ACT_NOTIFY")
is_notify null = false
is_notify (boolean b) = false
is_notify (number n) = false
is_notify (array ds) = false
is_notify (object ms) = false

-- an action
unfoldable pub action_faults : Shape
action_faults path d =
    if is_notify d then refused_faults path d else word_faults is_action_name path d

-- the name of an operator
abbrev pub is_op_name : List ℕ → Bool
is_op_name s = is_some (op_named s)

abbrev pub op_faults : Shape
op_faults path d = word_faults is_op_name path d

-- an object with members of a table
unfoldable pub table_faults : List Row → Shape
table_faults rows path (object ms) = object_faults rows path ms
table_faults rows path null = WrongShape path ∷ []
table_faults rows path (boolean b) = WrongShape path ∷ []
table_faults rows path (number n) = WrongShape path ∷ []
table_faults rows path (string s) = WrongShape path ∷ []
table_faults rows path (array ds) = WrongShape path ∷ []

abbrev required : List ℕ → Shape → Row
required name shape = record { name = name; is_required = true; shape = shape }

abbrev optional : List ℕ → Shape → Row
optional name shape = record { name = name; is_required = false; shape = shape }

-- an argument
abbrev pub arg_rows : List Row
arg_rows =
    required (codes "index") number_faults
    ∷ required (codes "op") op_faults
    ∷ required (codes "value") number_faults
    ∷ optional (codes "valueTwo") (optional_faults number_faults)
    ∷ []

abbrev pub arg_faults : Shape
arg_faults path d = table_faults arg_rows path d

-- an entry
abbrev pub entry_rows : List Row
entry_rows =
    required (codes "action") action_faults
    ∷ optional (codes "args") (optional_faults (list_faults arg_faults))
    ∷ optional (codes "errnoRet") (optional_faults number_faults)
    ∷ required (codes "names") (list_faults text_faults)
    ∷ []

abbrev pub entry_faults : Shape
entry_faults path d = table_faults entry_rows path d

-- `seccomp`
abbrev pub seccomp_rows : List Row
seccomp_rows =
    optional (codes "architectures") (optional_faults (list_faults (word_faults is_arch)))
    ∷ required (codes "defaultAction") action_faults
    ∷ optional (codes "defaultErrnoRet") (optional_faults number_faults)
    ∷ optional (codes "flags") (optional_faults (list_faults (word_faults is_flag)))
    ∷ optional (codes "listenerMetadata") refused_faults
    ∷ optional (codes "listenerPath") refused_faults
    ∷ optional (codes "syscalls") (optional_faults (list_faults entry_faults))
    ∷ []

abbrev pub seccomp_faults : Shape
seccomp_faults path d = optional_faults (table_faults seccomp_rows) path d

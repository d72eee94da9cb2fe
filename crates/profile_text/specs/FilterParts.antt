-- The parts of a filter that a document names. A value that isn't of the shape that its place asks
-- for has a fault, and what stands here for it is never told.
use Rattle.std.specs.Prelude.{ℕ, ◌^◌, List, [], ◌∷◌, nat_lt, if◌then◌else◌, Option, Some, None}
use Rattle.std.specs.Prelude.{option_map, unwrap_or, codes}
use Rattle.std.specs.Option.{option_map_or}
use Rattle.serde_json.specs.Data.{Num, unsigned, negative, float, Data, null, boolean, number}
use Rattle.serde_json.specs.Data.{string, array, object, Items, no_items, item, Members}
use Rattle.seccomp_doc.specs.declared.action.ActionWord.{ActionWord}
use Rattle.seccomp_doc.specs.declared.action.ActionWord.TheVariants.{KillProcess}
use Rattle.seccomp_doc.specs.declared.compare.Op.{Op}
use Rattle.seccomp_doc.specs.declared.compare.Op.TheVariants.{Equal}
use Rattle.seccomp_doc.specs.declared.parts.ArgParts.{ArgParts}
use Rattle.seccomp_doc.specs.Action.{action_word_named}
use Rattle.seccomp_doc.specs.Compare.{op_named}
use Rattle.seccomp_doc.specs.Parts.{EntryPartsValue, FilterPartsValue}
use Rattle.profile_text.specs.Shape.{member_of}

-- a whole number from 0 to 2^64 - 1; 1.0, 1e0 and -0 are none
unfoldable pub u64_of : Num → Option ℕ
u64_of (unsigned n) = if nat_lt n (2 ^ 64) then Some n else None
u64_of (negative z) = None
u64_of (float x) = None

-- ---- what a value is

-- a number, or absent
abbrev pub whole_number : Data → Option ℕ
whole_number (number n) = u64_of n
whole_number null = None
whole_number (boolean b) = None
whole_number (string s) = None
whole_number (array ds) = None
whole_number (object ms) = None

abbrev pub number_in : Data → ℕ
number_in d = unwrap_or (whole_number d) 0

abbrev pub action_named : List ℕ → ActionWord
action_named s = unwrap_or (action_word_named s) KillProcess

abbrev pub action_in : Data → ActionWord
action_in (string s) = action_named s
action_in null = KillProcess
action_in (boolean b) = KillProcess
action_in (number n) = KillProcess
action_in (array ds) = KillProcess
action_in (object ms) = KillProcess

abbrev pub op_in : Data → Op
op_in (string s) = unwrap_or (op_named s) Equal
op_in null = Equal
op_in (boolean b) = Equal
op_in (number n) = Equal
op_in (array ds) = Equal
op_in (object ms) = Equal

abbrev pub string_in : Data → List ℕ
string_in (string s) = s
string_in null = []
string_in (boolean b) = []
string_in (number n) = []
string_in (array ds) = []
string_in (object ms) = []

-- each item of a list, read by one rule
unfoldable pub items_as : {X : Type 0} → (Data → X) → Items → List X
items_as read no_items = []
items_as read (item d ds) = read d ∷ items_as read ds

-- a list; null stands for the empty one
unfoldable pub list_as : {X : Type 0} → (Data → X) → Data → List X
list_as read (array ds) = items_as read ds
list_as read null = []
list_as read (boolean b) = []
list_as read (number n) = []
list_as read (string s) = []
list_as read (object ms) = []

-- ---- what the member of a name is

-- a required member, read by one rule
abbrev pub member_as : {X : Type 0} → (Data → X) → List ℕ → Members → Option X
member_as read name ms = option_map read (member_of name ms)

-- a number, where one is there
abbrev pub number_at : List ℕ → Members → Option ℕ
number_at name ms = option_map_or whole_number (member_of name ms) None

-- a list; an absent one is empty
abbrev pub list_at : {X : Type 0} → (Data → X) → List ℕ → Members → List X
list_at read name ms = option_map_or (list_as read) (member_of name ms) []

-- ---- the objects

-- a comparison; an absent second value is 0
unfoldable pub arg_at : Members → ArgParts
arg_at ms = record {
  index = unwrap_or (member_as number_in (codes "index") ms) 0;
  op = unwrap_or (member_as op_in (codes "op") ms) Equal;
  value = unwrap_or (member_as number_in (codes "value") ms) 0;
  value_two = option_map_or number_in (member_of (codes "valueTwo") ms) 0;
}

abbrev pub no_arg : ArgParts
no_arg = record { index = 0; op = Equal; value = 0; value_two = 0 }

unfoldable pub arg_in : Data → ArgParts
arg_in (object ms) = arg_at ms
arg_in null = no_arg
arg_in (boolean b) = no_arg
arg_in (number n) = no_arg
arg_in (string s) = no_arg
arg_in (array ds) = no_arg

-- an entry
unfoldable pub entry_at : Members → EntryPartsValue
entry_at ms = record {
  names = unwrap_or (member_as (list_as string_in) (codes "names") ms) [];
  word = unwrap_or (member_as action_in (codes "action") ms) KillProcess;
  errno = number_at (codes "errnoRet") ms;
  args = list_at arg_in (codes "args") ms;
}

abbrev pub no_entry : EntryPartsValue
no_entry = record { names = []; word = KillProcess; errno = None; args = [] }

unfoldable pub entry_in : Data → EntryPartsValue
entry_in (object ms) = entry_at ms
entry_in null = no_entry
entry_in (boolean b) = no_entry
entry_in (number n) = no_entry
entry_in (string s) = no_entry
entry_in (array ds) = no_entry

-- a filter
unfoldable pub filter_at : Members → FilterPartsValue
filter_at ms = record {
  default = unwrap_or (member_as action_in (codes "defaultAction") ms) KillProcess;
  default_errno = number_at (codes "defaultErrnoRet") ms;
  architectures = list_at string_in (codes "architectures") ms;
  flags = list_at string_in (codes "flags") ms;
  entries = list_at entry_in (codes "syscalls") ms;
}

-- `seccomp`; null stands for an absent filter
unfoldable pub seccomp_in : Data → Option FilterPartsValue
seccomp_in (object ms) = Some (filter_at ms)
seccomp_in null = None
seccomp_in (boolean b) = None
seccomp_in (number n) = None
seccomp_in (string s) = None
seccomp_in (array ds) = None

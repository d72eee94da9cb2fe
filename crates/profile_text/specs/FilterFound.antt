-- What the members of the objects of a filter give, one after another.
use Rattle.std.specs.Prelude.{ℕ, List, if◌then◌else◌, Option, Some, option_map, bytes_eq, codes}
use Rattle.std.specs.Option.{option_map_or}
use Rattle.serde_json.specs.Data.{Data, Members}
use Rattle.seccomp_doc.specs.declared.action.ActionWord.{ActionWord}
use Rattle.seccomp_doc.specs.declared.parts.ArgParts.{ArgParts}
use Rattle.seccomp_doc.specs.Parts.{EntryPartsValue}
use Rattle.profile_text.specs.declared.argument.FoundArg.{FoundArg}
use Rattle.profile_text.specs.declared.entry.FoundEntry.{FoundEntry}
use Rattle.profile_text.specs.declared.filter.FoundFilter.{FoundFilter}
use Rattle.profile_text.specs.FilterParts.{whole_number, number_in, action_in, op_in, string_in}
use Rattle.profile_text.specs.FilterParts.{list_as, list_at, member_as, number_at, arg_in, entry_in}
use Rattle.profile_text.specs.Shape.{member_of}

-- ---- a comparison

abbrev pub arg_found : Members → FoundArg
arg_found ms = record {
  index = member_as number_in (codes "index") ms;
  op = member_as op_in (codes "op") ms;
  value = member_as number_in (codes "value") ms;
  value_two = option_map_or number_in (member_of (codes "valueTwo") ms) 0;
}

-- what was found so far, with one member more
abbrev pub arg_found_with : List ℕ → Data → FoundArg → FoundArg
arg_found_with name d found = record {
  index = if bytes_eq name (codes "index") then Some (number_in d) else found.index;
  op = if bytes_eq name (codes "op") then Some (op_in d) else found.op;
  value = if bytes_eq name (codes "value") then Some (number_in d) else found.value;
  value_two = if bytes_eq name (codes "valueTwo") then number_in d else found.value_two;
}

-- ---- an entry

pub record EntryMembers : Type 0 where
  pub word : Option ActionWord
  pub args : List ArgParts
  pub errno : Option ℕ
  pub names : Option (List (List ℕ))

abbrev pub entry_seen : FoundEntry → EntryMembers
entry_seen found = record {
  word = found.word;
  args = found.args.items;
  errno = found.errno;
  names = option_map (λ names. names.items) found.names;
}

abbrev pub entry_found : Members → EntryMembers
entry_found ms = record {
  word = member_as action_in (codes "action") ms;
  args = list_at arg_in (codes "args") ms;
  errno = number_at (codes "errnoRet") ms;
  names = member_as (list_as string_in) (codes "names") ms;
}

abbrev pub entry_found_with : List ℕ → Data → EntryMembers → EntryMembers
entry_found_with name d found = record {
  word = if bytes_eq name (codes "action") then Some (action_in d) else found.word;
  args = if bytes_eq name (codes "args") then list_as arg_in d else found.args;
  errno = if bytes_eq name (codes "errnoRet") then whole_number d else found.errno;
  names = if bytes_eq name (codes "names") then Some (list_as string_in d) else found.names;
}

-- ---- a filter

pub record FilterMembers : Type 0 where
  pub architectures : List (List ℕ)
  pub default : Option ActionWord
  pub default_errno : Option ℕ
  pub flags : List (List ℕ)
  pub entries : List EntryPartsValue

abbrev pub filter_seen : FoundFilter → FilterMembers
filter_seen found = record {
  architectures = found.architectures.items;
  default = found.default;
  default_errno = found.default_errno;
  flags = found.flags.items;
  entries = found.entries.items;
}

abbrev pub filter_found : Members → FilterMembers
filter_found ms = record {
  architectures = list_at string_in (codes "architectures") ms;
  default = member_as action_in (codes "defaultAction") ms;
  default_errno = number_at (codes "defaultErrnoRet") ms;
  flags = list_at string_in (codes "flags") ms;
  entries = list_at entry_in (codes "syscalls") ms;
}

abbrev pub filter_found_with : List ℕ → Data → FilterMembers → FilterMembers
filter_found_with name d found = record {
  architectures =
      if bytes_eq name (codes "architectures") then list_as string_in d else found.architectures;
  default = if bytes_eq name (codes "defaultAction") then Some (action_in d) else found.default;
  default_errno =
      if bytes_eq name (codes "defaultErrnoRet") then whole_number d else found.default_errno;
  flags = if bytes_eq name (codes "flags") then list_as string_in d else found.flags;
  entries = if bytes_eq name (codes "syscalls") then list_as entry_in d else found.entries;
}

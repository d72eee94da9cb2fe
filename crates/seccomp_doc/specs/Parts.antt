-- The parts of a filter as plain values, and the filter that lawful parts make.
use Rattle.std.specs.Prelude.{ℕ, List, Option, if◌then◌else◌, map, unwrap_or}
use Rattle.seccomp_doc.specs.declared.action.ActionWord.{ActionWord}
use Rattle.seccomp_doc.specs.declared.action.ActionWord.TheVariants as words
use Rattle.seccomp_doc.specs.declared.action.Action.{Action}
use Rattle.seccomp_doc.specs.declared.action.Action.TheVariants as actions
use Rattle.seccomp_doc.specs.declared.compare.Compare.{Compare}
use Rattle.seccomp_doc.specs.declared.parts.ArgParts.{ArgParts}
use Rattle.seccomp_doc.specs.Compare.{is_masked}
use Rattle.seccomp_doc.specs.Filter.{EntryValue, FilterValue}

pub record EntryPartsValue : Type 0 where
  pub names : List (List ℕ)
  pub word : ActionWord
  pub errno : Option ℕ
  pub args : List ArgParts

pub record FilterPartsValue : Type 0 where
  pub default : ActionWord
  pub default_errno : Option ℕ
  pub architectures : List (List ℕ)
  pub flags : List (List ℕ)
  pub entries : List EntryPartsValue

-- an absent number is 1
abbrev pub action_of : ActionWord → Option ℕ → Action
action_of words.KillProcess errno = actions.KillProcess
action_of words.KillThread errno = actions.KillThread
action_of words.Trap errno = actions.Trap
action_of words.Errno errno = actions.Errno (unwrap_or errno 1)
action_of words.Trace errno = actions.Trace (unwrap_or errno 1)
action_of words.Log errno = actions.Log
action_of words.Allow errno = actions.Allow

-- the second value counts where the operator is masked
abbrev pub compare_of : ArgParts → Compare
compare_of a = record {
  index = a.index;
  op = a.op;
  value = a.value;
  value_two = if is_masked a.op then a.value_two else 0;
}

abbrev pub entry_of : EntryPartsValue → EntryValue
entry_of e =
    record { names = e.names; action = action_of e.word e.errno; args = map compare_of e.args }

-- the filter that the parts make, with the same lists in the same order
abbrev pub filter_of : FilterPartsValue → FilterValue
filter_of p = record {
  default = action_of p.default p.default_errno;
  architectures = p.architectures;
  flags = p.flags;
  entries = map entry_of p.entries;
}

-- Entries and filters as plain values: names are lists of bytes.
use Rattle.std.specs.Prelude.{ℕ, List}
use Rattle.seccomp_doc.specs.declared.action.Action.{Action}
use Rattle.seccomp_doc.specs.declared.compare.Compare.{Compare}

-- the calls that an entry speaks of, what becomes of them, and the comparisons that must all hold
pub record EntryValue : Type 0 where
  pub names : List (List ℕ)
  pub action : Action
  pub args : List Compare

-- what becomes of a call that no entry matches, and the rest in the order of the document
pub record FilterValue : Type 0 where
  pub default : Action
  pub architectures : List (List ℕ)
  pub flags : List (List ℕ)
  pub entries : List EntryValue

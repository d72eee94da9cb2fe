-- Lawful entries and filters: those that none of the refusals stands against.
use Rattle.std.specs.Prelude.{◌≡◌, ℕ, ◌<◌, ◌≤◌, ◌^◌, List, [], ◌∷◌, Bool, true, false, ◌||◌, ◌==◌}
use Rattle.std.specs.Prelude.{All, Contains, length, map, Some}
use Rattle.std.specs.List.{list_any}
use Rattle.seccomp_doc.specs.declared.action.Action.{Action}
use Rattle.seccomp_doc.specs.declared.compare.Compare.{Compare}
use Rattle.seccomp_doc.specs.Action.{errno_of}
use Rattle.seccomp_doc.specs.Compare.{is_masked}
use Rattle.seccomp_doc.specs.Word.{is_call_name}
use Rattle.seccomp_doc.specs.Filter.{EntryValue, FilterValue}
use Rattle.seccomp_doc.specs.Meaning.{has_name}

-- a comparison is of one of six arguments, of 64 bits, with a second value only where it is masked
pub record IsLawfulCompare (c : Compare) : Type 0 where
  pub index : c.index < 6
  pub value : c.value < 2 ^ 64
  pub value_two : c.value_two < 2 ^ 64
  pub unused : is_masked c.op ≡ false → c.value_two ≡ 0

-- a number stands twice
abbrev pub has_repeat : List ℕ → Bool
has_repeat [] = false
has_repeat (n ∷ ns) = list_any (λ m. n == m) ns || has_repeat ns

-- an error number has 16 bits
abbrev pub IsLawfulAction : Action → Type 0
IsLawfulAction action = (n : ℕ) → errno_of action ≡ Some n → n < 2 ^ 16

-- an entry has names, all of the form, a lawful action, and lawful comparisons, each of another
-- argument
pub record IsLawfulEntry (e : EntryValue) : Type 0 where
  pub named : 0 < length e.names
  pub names : All (λ name. is_call_name name ≡ true) e.names
  pub action : IsLawfulAction e.action
  pub args : All IsLawfulCompare e.args
  pub once : has_repeat (map (λ c. c.index) e.args) ≡ false

-- all entries of a name have one action
abbrev pub HasOneAction : List EntryValue → Type 0
HasOneAction entries =
    (d e : EntryValue) → Contains entries d → Contains entries e →
    (name : List ℕ) → has_name name d ≡ true → has_name name e ≡ true → d.action ≡ e.action

-- the counts are within their limits, each entry is lawful, and no name has two actions
pub record IsLawfulFilter (f : FilterValue) : Type 0 where
  pub few_architectures : length f.architectures ≤ 64
  pub few_flags : length f.flags ≤ 64
  pub few_entries : length f.entries ≤ 2048
  pub few_names : All (λ e. length e.names ≤ 1024) f.entries
  pub few_args : All (λ e. length e.args ≤ 6) f.entries
  pub default : IsLawfulAction f.default
  pub entries : All IsLawfulEntry f.entries
  pub one_action : HasOneAction f.entries

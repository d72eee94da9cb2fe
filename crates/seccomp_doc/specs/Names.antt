-- What a map from names to actions knows of some entries.
use Rattle.std.specs.Prelude.{◌≡◌, ℕ, List, true, false, Bool, not, Option, Some, None, is_some}
use Rattle.std.specs.BTreeMap.{BTreeMap, get_by}
use Rattle.std.specs.Cmp.Lexicographic.{slice_cmp}
use Rattle.std.specs.List.{list_any}
use Rattle.std.specs.Ordering.{nat_cmp}
use Rattle.std.specs.Borrow.{Bor}
use Rattle.seccomp_doc.specs.declared.action.Action.{Action}
use Rattle.seccomp_doc.specs.Action.{same_action}
use Rattle.seccomp_doc.specs.Checks.{contradicts}
use Rattle.seccomp_doc.specs.Filter.{EntryValue}
use Rattle.seccomp_doc.specs.Meaning.{has_name}

-- the entry has the action
abbrev pub has_action : Action → EntryValue → Bool
has_action action e = same_action e.action action

-- the action under a name
abbrev pub action_under : BTreeMap (Bor (List ℕ)) Action → List ℕ → Option Action
action_under m name = get_by (λ k. slice_cmp nat_cmp name k.now) m

-- no action is under the name
abbrev pub is_unknown : BTreeMap (Bor (List ℕ)) Action → List ℕ → Bool
is_unknown m name = not (is_some (action_under m name))

-- no entry has the name, or those that have it have this action
abbrev pub IsActionOf : List EntryValue → List ℕ → Option Action → Type 0
IsActionOf entries name None = list_any (has_name name) entries ≡ false
IsActionOf entries name (Some action) =
    (list_any (has_name name) entries ≡ true) × (list_any (contradicts name action) entries ≡ false)

-- the map knows the action of each name
abbrev pub Knows : List EntryValue → BTreeMap (Bor (List ℕ)) Action → Type 0
Knows entries m = (name : List ℕ) → IsActionOf entries name (action_under m name)

-- the name is new, or has this action already
abbrev pub AgreesWith : Option Action → Action → Type 0
AgreesWith None action = Unit {0}
AgreesWith (Some known) action = same_action known action ≡ true

-- the name has another action already
abbrev pub DiffersFrom : Option Action → Action → Type 0
DiffersFrom None action = ⊥
DiffersFrom (Some known) action = same_action known action ≡ false

use Rattle.std.proofs.Common.{◌≡◌, List, [], ◌∷◌, ◌++◌, None, map, take}
use Rattle.seccomp_doc.specs.Checks.{first_fault, name_check}
use Rattle.seccomp_doc.specs.Filter.{EntryValue}
use Rattle.seccomp_doc.specs.Names.{Knows}
use Rattle.seccomp_doc.proofs.NameFacts.{naming}
use Rattle.seccomp_doc.proofs.names.learn_names.Given as goal

abbrev pub invariant-loop-name : goal.invariant-loop-name
invariant-loop-name l = (earlier : List EntryValue) → Knows earlier l.fn.actions →
    Knows (earlier ++ naming (take l.name-index l.name-items) l.action l.entry.args ∷ []) l.actions
    × (first_fault (map (name_check earlier l.action) (take l.name-index l.name-items)) ≡ None)

use Rattle.std.proofs.Common.{◌≡◌, [], take, drop}
use Rattle.seccomp_doc.specs.Checks.{first_fault, all_name_checks}
use Rattle.seccomp_doc.specs.Names.{Knows}
use Rattle.seccomp_doc.proofs.names.compare_names.Given as goal

abbrev pub invariant-loop-entry : goal.invariant-loop-entry
invariant-loop-entry l =
    Knows (take l.entry-index l.entries) l.actions
    × (first_fault (all_name_checks [] l.entries) ≡ first_fault (all_name_checks (take l.entry-index l.entries) (drop l.entry-index l.entries)))

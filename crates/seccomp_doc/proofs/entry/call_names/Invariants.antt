use Rattle.std.proofs.Common.{◌≡◌, false}
use Rattle.std.specs.List.{list_any}
use Rattle.seccomp_doc.specs.Checks.{is_no_call_name}
use Rattle.seccomp_doc.proofs.entry.call_names.Given as goal

abbrev pub invariant-loop-text : goal.invariant-loop-text
invariant-loop-text l =
    (goal.iterator-loop-text).can_next l.text-iterator ×
    (goal.iterator-loop-text).is_finite l.text-iterator ×
    (l.names.items ≡ l.yielded) ×
    (list_any is_no_call_name l.yielded ≡ false)

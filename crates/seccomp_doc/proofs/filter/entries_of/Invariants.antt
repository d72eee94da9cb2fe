use Rattle.std.proofs.Common.{◌≡◌, None, All, map}
use Rattle.std.specs.List.{flat_map}
use Rattle.seccomp_doc.specs.Checks.{entry_checks, first_fault}
use Rattle.seccomp_doc.specs.Lawful.{IsLawfulEntry}
use Rattle.seccomp_doc.specs.Parts.{entry_of}
use Rattle.seccomp_doc.proofs.filter.entries_of.Given as goal

abbrev pub invariant-loop-part : goal.invariant-loop-part
invariant-loop-part l =
    (goal.iterator-loop-part).can_next l.part-iterator ×
    (goal.iterator-loop-part).is_finite l.part-iterator ×
    (l.entries.items ≡ map entry_of l.yielded) ×
    (first_fault (flat_map entry_checks l.yielded) ≡ None) ×
    All IsLawfulEntry l.entries.items

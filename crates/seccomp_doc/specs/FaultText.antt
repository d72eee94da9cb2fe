-- The texts of a filter's faults.
use Rattle.std.specs.Prelude.{ℕ, List, ◌++◌, codes}
use Rattle.seccomp_doc.specs.declared.fault.FilterFault.{FilterFault}
use Rattle.seccomp_doc.specs.declared.fault.FilterFault.TheVariants as faults

-- a fault's word, and the name of the call that has two actions
abbrev pub filter_fault_text : FilterFault → List ℕ
filter_fault_text faults.NoNames = codes "no-names"
filter_fault_text faults.BadCallName = codes "bad-call-name"
filter_fault_text faults.BadIndex = codes "bad-index"
filter_fault_text faults.IndexTwice = codes "index-twice"
filter_fault_text faults.ErrnoNotTaken = codes "errno-not-taken"
filter_fault_text faults.ErrnoTooLarge = codes "errno-too-large"
filter_fault_text (faults.TwoActions name) = codes "two-actions " ++ name
filter_fault_text faults.TooMany = codes "too-many"
filter_fault_text (faults.NoMemory _) = codes "memory"

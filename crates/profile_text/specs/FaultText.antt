-- The texts of faults.
use Rattle.std.specs.Prelude.{ℕ, List, ◌++◌, codes}
use Rattle.cap_sets.specs.Lawful.{fault_text}
use Rattle.seccomp_doc.specs.FaultText.{filter_fault_text}
use Rattle.profile_text.specs.declared.fault.DocFault.{DocFault}
use Rattle.profile_text.specs.declared.fault.DocFault.TheVariants as faults

-- a fault's word, and the path or the number that goes with it
abbrev pub fault_text_of : DocFault → List ℕ
fault_text_of faults.TooLong = codes "too-long"
fault_text_of faults.NotJson = codes "not-json"
fault_text_of (faults.WrongShape path) = codes "wrong-shape " ++ path
fault_text_of (faults.UnknownMember path) = codes "unknown-member " ++ path
fault_text_of (faults.UnknownWord path) = codes "unknown-word " ++ path
fault_text_of (faults.NotInProfile path) = codes "not-in-profile " ++ path
fault_text_of (faults.BadNumber path) = codes "bad-number " ++ path
fault_text_of (faults.Caps fault) = fault_text fault
fault_text_of (faults.Filter fault) = filter_fault_text fault
fault_text_of (faults.NoMemory _) = codes "memory"
fault_text_of faults.TextTooLong = codes "text-too-long"

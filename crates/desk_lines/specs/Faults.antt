-- The words of why the desk stopped.
use Rattle.std.specs.Prelude.{ℕ, List, codes}
use Rattle.desk_lines.specs.declared.fault.DeskFault.{DeskFault}
use Rattle.desk_lines.specs.declared.fault.DeskFault.TheVariants.{Read, Write, TooManyReads, NoMemory, Unbegun}

abbrev pub desk_fault_word : DeskFault → List ℕ
desk_fault_word (Read line) = codes "read"
desk_fault_word (Write line) = codes "write"
desk_fault_word (TooManyReads line) = codes "too-many-reads"
desk_fault_word (NoMemory line _) = codes "memory"
desk_fault_word (Unbegun _) = codes "memory"

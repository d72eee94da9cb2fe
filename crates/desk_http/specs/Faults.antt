-- The words of the faults of exchanges.
use Rattle.std.specs.Prelude.{ℕ, List, codes}
use Rattle.desk_http.specs.declared.fault.HttpFault.{HttpFault}
use Rattle.desk_http.specs.declared.fault.HttpFault.TheVariants.{Read, Ended, TooManyReads, Write}
use Rattle.desk_http.specs.declared.fault.HttpFault.TheVariants.{NoMemory}

abbrev pub fault_word : HttpFault → List ℕ
fault_word Read = codes "read"
fault_word Ended = codes "ended"
fault_word TooManyReads = codes "too-many-reads"
fault_word (Write status want) = codes "write"
fault_word (NoMemory status _) = codes "memory"

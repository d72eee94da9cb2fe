-- Whether a part of a line was read.
use Rattle.std.specs.Prelude.{◌≡◌, Bool, true, false, Result, Ok, Err}
use Rattle.json_requests.specs.declared.fault.LineFault.{LineFault}
use Rattle.json_requests.specs.declared.fault.LineFault.TheVariants.{NotJson, NotARequest, NoMemory}
use Rattle.no_memory.specs.declared.witness.NoMemory.{«NoMemory» as Want}

-- it is told whether a part was read; or that there was no memory to read it
abbrev pub TellsRead : {X : Type 0} → Result X LineFault → Result Bool Want → Type 0
TellsRead (Ok x) told = told ≡ Ok true
TellsRead (Err (NoMemory memory)) told = told ≡ Err memory
TellsRead (Err NotJson) told = told ≡ Ok false
TellsRead (Err NotARequest) told = told ≡ Ok false

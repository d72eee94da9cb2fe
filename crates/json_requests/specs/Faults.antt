-- What a reader of a line, or of a part of one, returns, against what the definition gives; out
-- of memory may come in place of both.
use Rattle.std.specs.Prelude.{◌≡◌, Option, Some, None, Result, Ok, Err}
use Rattle.review_policy.specs.declared.ask.Request.{Request}
use Rattle.json_requests.specs.declared.bad.BadLine.{BadLine}
use Rattle.json_requests.specs.declared.bad.BadLine.TheVariants as bad
use Rattle.json_requests.specs.declared.fault.LineFault.{LineFault}
use Rattle.json_requests.specs.declared.fault.LineFault.TheVariants.{NotJson, NotARequest, NoMemory}
use Rattle.json_requests.specs.Plain.{PlainRequest, plain}

-- a part of a line is refused where it isn't of its form
abbrev pub Lacks : {Y : Type 0} → LineFault → Option Y → Type 0
Lacks NotJson part = ⊥
Lacks NotARequest part = part ≡ None
Lacks (NoMemory _) part = Unit {0}

-- a part of a line is read as the definition has it
abbrev pub Gives : {X Y : Type 0} → (X → Y) → Result X LineFault → Option Y → Type 0
Gives view (Ok x) part = part ≡ Some (view x)
Gives view (Err e) part = Lacks e part

-- the fault of a line is the definition's
abbrev pub Tells : LineFault → Result PlainRequest BadLine → Type 0
Tells NotJson asked = asked ≡ Err bad.NotJson
Tells NotARequest asked = asked ≡ Err bad.NotARequest
Tells (NoMemory _) asked = Unit {0}

-- a line is read as the definition has it
abbrev pub Reads : Result Request LineFault → Result PlainRequest BadLine → Type 0
Reads (Ok r) asked = asked ≡ Ok (plain r)
Reads (Err e) asked = Tells e asked

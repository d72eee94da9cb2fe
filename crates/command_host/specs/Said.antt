-- What is said on standard error, and the line that several commands print.
use Rattle.std.specs.Prelude.{◌⊎◌, ℕ, List, ◌++◌, codes, decimal, Option, Some, None}
use Rattle.streams.specs.declared.counted.Counted.{Counted}
use Rattle.desk_http.specs.Lines.{IsCut, IsWhole}
use Rattle.command_host.specs.FaultTexts.{command_fault_text}
use Rattle.command_host.specs.Plain.{plain, plain_lines}
use Rattle.command_host.specs.declared.fault.CommandFault.{CommandFault}
use Rattle.no_memory.specs.declared.witness.NoMemory.{«NoMemory» as Want}

-- why a command was refused or failed, and behind that what it is about, as a file that couldn't be
-- read
abbrev pub refusal_text : CommandFault → (subject : Option (List ℕ)) → List ℕ
refusal_text why None = codes "office: " ++ command_fault_text why
refusal_text why (Some subject) =
    codes "office: " ++ (command_fault_text why ++ (codes " " ++ subject))

-- the line that says so: no character before its end controls a terminal
abbrev pub refusal_line : CommandFault → (subject : Option (List ℕ)) → List ℕ
refusal_line why subject = plain (refusal_text why subject) ++ codes "\n"

-- the line that says that there is no memory
abbrev pub memory_line : List ℕ
memory_line = codes "office: memory\n"

-- the line that says what was done with an office, how many events it has, and the seal of its journal
abbrev pub seal_line : (done : List ℕ) (events : ℕ) (seal : List ℕ) → List ℕ
seal_line done events seal =
    done ++ codes " " ++ decimal events ++ codes " events, seal " ++ seal ++ codes "\n"

module _ {E : Type 0} (contents : E → Option (List ℕ)) (old new : Counted E) where
  -- a text was said: whole, or as far as it could be written
  abbrev pub IsSaid : List ℕ → Type 0
  IsSaid text = IsWhole contents old new text ⊎ IsCut contents old new text

  -- a text was said; or in place of it, by a want of memory, that there is none
  abbrev pub IsSaidOr : List ℕ → Option Want → Type 0
  IsSaidOr text None = IsSaid text
  IsSaidOr text (Some want) = IsSaid memory_line

  -- what was said is lines, of which no character but their ends controls a terminal
  abbrev pub AreSaid : List ℕ → Option Want → Type 0
  AreSaid lines want = IsSaidOr (plain_lines lines) want

  -- what was said is why a command was refused or failed, and what that is about
  abbrev pub IsRefusal : CommandFault → (subject : Option (List ℕ)) → Option Want → Type 0
  IsRefusal why subject want = IsSaidOr (refusal_line why subject) want

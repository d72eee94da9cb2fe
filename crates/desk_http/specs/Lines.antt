-- The lines that tell exchanges, and what of them is written.
use Rattle.std.specs.Prelude.{◌≡◌, ℕ, List, [], ◌∷◌, ◌++◌, codes, decimal, Option, Result, Ok, Err}
use Rattle.std.specs.Io.KnownBytes.{Appends}
use Rattle.streams.specs.Counts.{one_more}
use Rattle.streams.specs.Steps.{AppendsPart}
use Rattle.streams.specs.declared.counted.Counted.{Counted}
use Rattle.streams.specs.declared.whole.WriteFailed.{WriteFailed}
use Rattle.desk_http.specs.Faults.{fault_word}
use Rattle.desk_http.specs.declared.fault.HttpFault.{HttpFault}
use Rattle.desk_http.specs.declared.served.Served.{Served}

-- the line that tells an exchange: its status, or its fault
abbrev pub line_of : Result Served HttpFault → List ℕ
line_of (Ok served) = decimal served.status ++ codes "\n"
line_of (Err e) = codes "fault " ++ fault_word e ++ codes "\n"

-- the lines that tell some
abbrev pub lines_of : List (Result Served HttpFault) → List ℕ
lines_of [] = []
lines_of (r ∷ results) = line_of r ++ lines_of results

module _ {O : Type 0} (contents : O → Option (List ℕ)) where
  -- a text was written whole, and no call of the writer failed
  abbrev pub IsWhole : (old new : Counted O) → List ℕ → Type 0
  IsWhole old new text =
      Appends (contents old.inner) (contents new.inner) text × (new.faults ≡ old.faults)

  -- a call of the writer failed, and only a front part of a text was written
  abbrev pub IsCut : (old new : Counted O) → List ℕ → Type 0
  IsCut old new text = AppendsPart (contents old.inner) (contents new.inner) text
      × (new.faults ≡ one_more old.faults)

  -- which of both is told
  abbrev pub IsPut : (old new : Counted O) → List ℕ → Result (Unit {0}) WriteFailed → Type 0
  IsPut old new text (Ok done) = IsWhole old new text
  IsPut old new text (Err failed) = IsCut old new text

  -- just the lines of these exchanges were written; or those before the last, and of the last a
  -- front part
  abbrev pub AreLined : (old new : Counted O) → List (Result Served HttpFault)
      → Result (Unit {0}) WriteFailed → Type 0
  AreLined old new results (Ok done) = IsWhole old new (lines_of results)
  AreLined old new results (Err failed) =
      (told : List (Result Served HttpFault)) × (last : Result Served HttpFault) × (between : Counted O)
      × (results ≡ told ++ last ∷ []) × IsWhole old between (lines_of told)
      × IsCut between new (line_of last)

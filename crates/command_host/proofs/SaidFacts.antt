-- What is said of a text, however that came out.
use Rattle.std.proofs.Common.{◌≡◌, ℕ, List, Option, Result, Ok, Err, inl, inr}
use Rattle.std.specs.Io.KnownBytes.{Appends}
use Rattle.std.specs.Prelude.{OnErr, OnOk}
use Rattle.streams.specs.Counts.{one_more}
use Rattle.streams.specs.Steps.{AppendsPart}
use Rattle.streams.specs.declared.counted.Counted.{Counted}
use Rattle.streams.specs.declared.whole.WriteFailed.{WriteFailed}
use Rattle.command_host.specs.Said.{IsSaid}

pub said_so : {E : Type 0} (contents : E → Option (List ℕ)) (old new : Counted E) (text : List ℕ) (result : Result (Unit {0}) WriteFailed)
    → OnOk result (Appends (contents old.inner) (contents new.inner) text) → OnErr result (AppendsPart (contents old.inner) (contents new.inner) text)
    → OnOk result (new.faults ≡ old.faults) → OnErr result (new.faults ≡ one_more old.faults) → IsSaid contents old new text
said_so contents old new text (Ok done) whole part no_fault fault = inl (whole, no_fault)
said_so contents old new text (Err failed) whole part no_fault fault = inr (part, fault)

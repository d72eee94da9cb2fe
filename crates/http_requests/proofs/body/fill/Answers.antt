use Rattle.std.proofs.Common.{◌∙◌, arith}
use Rattle.streams.specs.declared.some.SomeRead.TheVariants.{Bytes}
use Rattle.http_requests.proofs.FillFacts.{filling_more}
use Rattle.http_requests.proofs.body.fill.Goals as goal

pub loop-filled-smaller : goal.loop-filled-smaller
loop-filled-smaller g c =
    omega (arith, c.in-Bytes.ensures.calls.0, c.in-Bytes.ensures.calls.1)

pub loop-filled-preserved : goal.loop-filled-preserved
loop-filled-preserved g c = record {
  filling = filling_more _ _ _ _ _ _ c.loop-filled.invariant.filling _ _ (Bytes c.in-Bytes.count) c.in-Bytes.ensures.bytes;
  calls = c.in-Bytes.ensures.calls.1;
  faults = c.in-Bytes.ensures.faults ∙ c.loop-filled.invariant.faults;
}

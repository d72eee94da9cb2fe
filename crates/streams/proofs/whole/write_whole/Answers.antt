use Rattle.std.proofs.Common.{◌<◌, rules, length}
use Rattle.std.proofs.lemmas.List.{take_rest}
use Rattle.streams.proofs.WholeFacts.{more_written, part_written, none_taken}
use Rattle.streams.proofs.whole.write_whole.Goals as goal

pub returns-in-Ok-eq0-clause-part : goal.returns-in-Ok-eq0-clause-part
returns-in-Ok-eq0-clause-part g c =
    let some : 0 < length c.loop-rest.rest.now = search rules in
    part_written _ _ _ _ _ c.loop-rest.invariant.written some (none_taken _ _ _ _ c.in-Ok-eq0.field-0-test c.in-Ok-eq0.ensures.bytes)

pub loop-rest-preserved : goal.loop-rest-preserved
loop-rest-preserved g c = record {
  written = rw (take_rest c.loop-rest.rest.now c.in-Ok.taken) (more_written _ _ _ _ _ _ c.loop-rest.invariant.written c.in-Ok.ensures.bytes);
  faults = search rules;
}

pub returns-in-Err-clause-part : goal.returns-in-Err-clause-part
returns-in-Err-clause-part g c =
    let some : 0 < length c.loop-rest.rest.now = search rules in
    part_written _ _ _ _ _ c.loop-rest.invariant.written some c.in-Err.ensures.bytes

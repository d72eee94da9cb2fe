use Rattle.std.proofs.Common.{ap, sym, take, arith}
use Rattle.widening.specs.Calls.{is_permitted_more}
use Rattle.widening.proofs.WiderFacts.{call_found, call_none}
use Rattle.widening.proofs.wider.gains_a_call_of.Goals as goal

pub returns-then-gains_a_new_call : goal.returns-then-gains_a_new_call
returns-then-gains_a_new_call c =
    sym (call_found (is_permitted_more c.args.base.now c.args.new.now) c.args.entries.now _ c.loop-i.i c.index-entries-i.result c.names.result.now
    c.gains_a_new_call.result c.loop-i-test.true c.index-entries-i.is c.names.ensures.names c.gains_a_new_call.ensures c.if-gains_a_new_call.true
    (ap (λ n. take n c.args.entries.now) (omega arith)))

pub loop-i-preserved : goal.loop-i-preserved
loop-i-preserved c =
    call_none (is_permitted_more c.args.base.now c.args.new.now) c.args.entries.now _ c.loop-i.i c.index-entries-i.result c.names.result.now
    c.gains_a_new_call.result c.loop-i-test.true c.index-entries-i.is c.names.ensures.names c.loop-i.invariant c.gains_a_new_call.ensures c.if-gains_a_new_call.false
    (ap (λ n. take n c.args.entries.now) (omega arith))

use Rattle.std.proofs.Common.{ap, take, not, ◌&&◌, arith}
use Rattle.std.specs.List.{list_any}
use Rattle.seccomp_doc.specs.Meaning.{has_name}
use Rattle.widening.specs.Calls.{is_permitted_more}
use Rattle.widening.proofs.WiderFacts.{new_name_more}
use Rattle.widening.proofs.wider.gains_a_new_call.Goals as goal

pub loop-i-preserved : goal.loop-i-preserved
loop-i-preserved c =
    new_name_more (λ name. not (list_any (has_name name) c.args.earlier.now) && is_permitted_more c.args.base.now c.args.new.now name)
    c.args.names.now _ c.loop-i.i c.index-names-i.result c.as_str.result.now c.is_new_and_more.result c.loop-i-test.true c.index-names-i.is c.as_str.ensures.text
    c.loop-i.invariant c.is_new_and_more.ensures c.if-is_new_and_more.false (ap (λ n. take n c.args.names.now) (omega arith))

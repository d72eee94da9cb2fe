use Rattle.std.proofs.Common.{get_or, refl}
use Rattle.std.specs.Prelude.{codes}
use Rattle.seccomp_doc.specs.declared.compare.Compare.{Compare}
use Rattle.seccomp_doc.specs.declared.compare.Op.TheVariants.{NotEqual}
use Rattle.profile_text.specs.Text.{arg_data}
use Rattle.json_tree.proofs.Writing.{item_written, items_written, leaves_all, nothing, after_last}
use Rattle.profile_text.proofs.Writing.{none_tokens, not_empty, some_tokens}
use Rattle.profile_text.proofs.filter_text.write_args.Goals as goal

-- what a slice of comparisons has past its end
abbrev no_compare : Compare
no_compare = record { index = 0; op = NotEqual; value = 0; value_two = 0 }

pub loop-arg-init : goal.loop-arg-init
loop-arg-init c = leaves_all arg_data c.args.args.now _ _ refl

pub loop-arg-preserved : goal.loop-arg-preserved
loop-arg-preserved c =
    let arg = get_or c.args.args.now c.loop-arg.arg-index no_compare in
    item_written c.args.args.now c.loop-arg.arg-index no_compare arg c.loop-arg-test.true refl c.loop-arg.invariant c.in_ok-write_arg.ensures

pub returns-then-is_empty : goal.returns-then-is_empty
returns-then-is_empty c = rw (none_tokens (codes "args") arg_data c.args.args.now c.is_empty.ensures c.if-is_empty.true) (nothing _)

pub returns : goal.returns
returns c =
    rw (some_tokens (codes "args") arg_data c.args.args.now (not_empty c.args.args.now c.is_empty.ensures c.if-is_empty.false)) (after_last _ _ _ c.in_ok-plain_key.ensures (after_last _ _ _ c.in_ok-begin_array.ensures
    (after_last _ _ _ (items_written c.args.args.now c.loop-arg.arg-index c.loop-arg-test.false c.loop-arg.invariant) c.end_array.ensures)))

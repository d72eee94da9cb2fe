use Rattle.std.proofs.Common.{refl}
use Rattle.std.specs.Prelude.{codes}
use Rattle.serde_json.specs.Data.{string}
use Rattle.json_tree.proofs.Writing.{item_written, items_written, leaves_all, nothing, after_last}
use Rattle.profile_text.proofs.Writing.{none_tokens, not_empty, some_tokens}
use Rattle.profile_text.proofs.PlainNames.{arch_plain}
use Rattle.profile_text.proofs.filter_text.write_architectures.Goals as goal

pub loop-architecture-init : goal.loop-architecture-init
loop-architecture-init c = leaves_all string c.args.architectures.now _ _ refl

pub loop-architecture-preserved : goal.loop-architecture-preserved
loop-architecture-preserved c = item_written c.args.architectures.now c.loop-architecture.architecture-index c.architecture-item.result c.architecture-item.result c.loop-architecture-test.true c.architecture-item.is c.loop-architecture.invariant (rw c.as_str.ensures.text at c.in_ok-plain_string.ensures)

pub returns-then-is_empty : goal.returns-then-is_empty
returns-then-is_empty c = rw (none_tokens (codes "architectures") string c.args.architectures.now c.is_empty.ensures c.if-is_empty.true) (nothing _)

pub returns : goal.returns
returns c =
    rw (some_tokens (codes "architectures") string c.args.architectures.now (not_empty c.args.architectures.now c.is_empty.ensures c.if-is_empty.false)) (after_last _ _ _ c.in_ok-plain_key.ensures (after_last _ _ _ c.in_ok-begin_array.ensures
    (after_last _ _ _ (items_written c.args.architectures.now c.loop-architecture.architecture-index c.loop-architecture-test.false c.loop-architecture.invariant) c.end_array.ensures)))

pub plain_string-requires : goal.plain_string-requires
plain_string-requires c = rw c.as_str.ensures.text (arch_plain _ c.as_str.ensures.form)

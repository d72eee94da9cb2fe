use Rattle.std.proofs.Common.{refl}
use Rattle.std.specs.Prelude.{codes}
use Rattle.serde_json.specs.Data.{string}
use Rattle.json_tree.proofs.Writing.{item_written, items_written, leaves_all, nothing, after_last}
use Rattle.profile_text.proofs.Writing.{none_tokens, not_empty, some_tokens}
use Rattle.profile_text.proofs.PlainNames.{flag_plain}
use Rattle.profile_text.proofs.filter_text.write_flags.Goals as goal

pub loop-flag-init : goal.loop-flag-init
loop-flag-init c = leaves_all string c.args.flags.now _ _ refl

pub loop-flag-preserved : goal.loop-flag-preserved
loop-flag-preserved c = item_written c.args.flags.now c.loop-flag.flag-index c.flag-item.result c.flag-item.result c.loop-flag-test.true c.flag-item.is c.loop-flag.invariant (rw c.as_str.ensures.text at c.in_ok-plain_string.ensures)

pub returns-then-is_empty : goal.returns-then-is_empty
returns-then-is_empty c = rw (none_tokens (codes "flags") string c.args.flags.now c.is_empty.ensures c.if-is_empty.true) (nothing _)

pub returns : goal.returns
returns c =
    rw (some_tokens (codes "flags") string c.args.flags.now (not_empty c.args.flags.now c.is_empty.ensures c.if-is_empty.false)) (after_last _ _ _ c.in_ok-plain_key.ensures (after_last _ _ _ c.in_ok-begin_array.ensures
    (after_last _ _ _ (items_written c.args.flags.now c.loop-flag.flag-index c.loop-flag-test.false c.loop-flag.invariant) c.end_array.ensures)))

pub plain_string-requires : goal.plain_string-requires
plain_string-requires c = rw c.as_str.ensures.text (flag_plain _ c.as_str.ensures.form)

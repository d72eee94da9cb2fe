use Rattle.std.proofs.Common.{refl}
use Rattle.serde_json.specs.Data.{string}
use Rattle.json_tree.proofs.Writing.{item_written, items_written, leaves_all, list_tokens, after_last}
use Rattle.profile_text.proofs.PlainNames.{call_name_plain}
use Rattle.profile_text.proofs.filter_text.write_names.Goals as goal

pub loop-name-init : goal.loop-name-init
loop-name-init c = leaves_all string c.args.names.now _ _ refl

pub loop-name-preserved : goal.loop-name-preserved
loop-name-preserved c = item_written c.args.names.now c.loop-name.name-index c.name-item.result c.name-item.result c.loop-name-test.true c.name-item.is c.loop-name.invariant (rw c.as_str.ensures.text at c.in_ok-plain_string.ensures)

pub returns : goal.returns
returns c =
    rw (list_tokens string c.args.names.now) (after_last _ _ _ c.in_ok-plain_key.ensures (after_last _ _ _ c.in_ok-begin_array.ensures
    (after_last _ _ _ (items_written c.args.names.now c.loop-name.name-index c.loop-name-test.false c.loop-name.invariant) c.end_array.ensures)))

pub plain_string-requires : goal.plain_string-requires
plain_string-requires c = rw c.as_str.ensures.text (call_name_plain _ c.as_str.ensures.form)

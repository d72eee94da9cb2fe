use Rattle.std.proofs.Common.{refl}
use Rattle.std.specs.Prelude.{codes}
use Rattle.profile_text.specs.Text.{entry_data}
use Rattle.json_tree.proofs.Writing.{item_written, items_written, leaves_all, nothing, after_last}
use Rattle.profile_text.proofs.Writing.{none_tokens, not_empty, some_tokens}
use Rattle.profile_text.proofs.filter_text.write_entries.Goals as goal

pub loop-entry-init : goal.loop-entry-init
loop-entry-init c = leaves_all entry_data c.args.entries.now _ _ refl

pub loop-entry-preserved : goal.loop-entry-preserved
loop-entry-preserved c = item_written c.args.entries.now c.loop-entry.entry-index c.entry-item.result c.entry-item.result c.loop-entry-test.true c.entry-item.is c.loop-entry.invariant c.in_ok-write_entry.ensures

pub returns-then-is_empty : goal.returns-then-is_empty
returns-then-is_empty c = rw (none_tokens (codes "syscalls") entry_data c.args.entries.now c.is_empty.ensures c.if-is_empty.true) (nothing _)

pub returns : goal.returns
returns c =
    rw (some_tokens (codes "syscalls") entry_data c.args.entries.now (not_empty c.args.entries.now c.is_empty.ensures c.if-is_empty.false)) (after_last _ _ _ c.in_ok-plain_key.ensures (after_last _ _ _ c.in_ok-begin_array.ensures
    (after_last _ _ _ (items_written c.args.entries.now c.loop-entry.entry-index c.loop-entry-test.false c.loop-entry.invariant) c.end_array.ensures)))

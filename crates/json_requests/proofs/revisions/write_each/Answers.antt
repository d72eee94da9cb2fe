use Rattle.std.proofs.Common.{refl}
use Rattle.json_tree.proofs.Writing.{after_last, item_written, items_written, leaves_all, list_tokens}
use Rattle.json_requests.specs.Answers.{revision_data}
use Rattle.json_requests.proofs.revisions.write_each.Goals as goal

pub loop-revision-init : goal.loop-revision-init
loop-revision-init c = leaves_all revision_data c.args.revisions.now _ _ refl

pub loop-revision-preserved : goal.loop-revision-preserved
loop-revision-preserved c = item_written c.args.revisions.now c.loop-revision.revision-index c.revision-item.result c.revision-item.result c.loop-revision-test.true c.revision-item.is c.loop-revision.invariant c.in_ok-write_revision.ensures

pub returns : goal.returns
returns c =
    rw (list_tokens revision_data c.args.revisions.now) (after_last _ _ _ c.in_ok-begin_array.ensures
    (after_last _ _ _ (items_written c.args.revisions.now c.loop-revision.revision-index c.loop-revision-test.false c.loop-revision.invariant) c.end_array.ensures))

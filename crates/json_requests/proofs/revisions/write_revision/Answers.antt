use Rattle.json_tree.proofs.Writing.{after_last}
use Rattle.json_requests.proofs.revisions.write_revision.Goals as goal

pub returns : goal.returns
returns c =
    after_last _ _ _ c.in_ok-begin_object.ensures (after_last _ _ _ (rw c.as_str.ensures.text at c.in_ok-write_text.ensures) (after_last _ _ _ c.in_ok-write_digest.ensures
    (after_last _ _ _ c.in_ok-write_number.ensures (after_last _ _ _ (rw c.word.ensures at c.in_ok-write_text-2.ensures) c.end_object.ensures))))

use Rattle.json_tree.proofs.Writing.{after_last}
use Rattle.journal.proofs.members.write_revision.Goals as goal

pub returns : goal.returns
returns c =
    after_last _ _ _ (rw c.as_str.ensures.text at c.in_ok-write_text.ensures) (after_last _ _ _ c.in_ok-write_number.ensures (rw c.as_str-2.ensures.text at c.write_text-2.ensures))

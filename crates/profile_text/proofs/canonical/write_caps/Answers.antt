use Rattle.json_tree.proofs.Writing.{after_last}
use Rattle.profile_text.proofs.canonical.write_caps.Goals as goal

pub returns : goal.returns
returns c =
    after_last _ _ _ c.in_ok-begin_object.ensures (after_last _ _ _ c.in_ok-write_set.ensures (after_last _ _ _ c.in_ok-write_set-2.ensures (after_last _ _ _ c.in_ok-write_set-3.ensures
    (after_last _ _ _ c.in_ok-write_set-4.ensures (after_last _ _ _ c.in_ok-write_set-5.ensures c.end_object.ensures)))))

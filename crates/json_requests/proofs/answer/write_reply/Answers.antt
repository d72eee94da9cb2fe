use Rattle.json_tree.proofs.Writing.{after_last}
use Rattle.json_requests.proofs.answer.write_reply.Goals as goal

pub returns-in_ok-write_text-in-Shown : goal.returns-in_ok-write_text-in-Shown
returns-in_ok-write_text-in-Shown c =
    rw c.in-Shown.is (after_last _ _ _ c.in_ok-write_digest-in-Shown.ensures (after_last _ _ _ (rw c.as_str.ensures at c.in_ok-write_text-in-Shown.ensures)
    (rw c.word.ensures at c.write_text-in-Shown.ensures)))

pub returns-in_ok-write_text-in-Fetched : goal.returns-in_ok-write_text-in-Fetched
returns-in_ok-write_text-in-Fetched c =
    rw c.in-Fetched.is (after_last _ _ _ c.in_ok-write_digest-in-Fetched.ensures (after_last _ _ _ (rw c.as_str-in-Fetched.ensures at c.in_ok-write_text-in-Fetched.ensures) c.write_number.ensures))

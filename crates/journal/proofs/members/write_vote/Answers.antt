use Rattle.std.specs.Prelude.{Some, codes}
use Rattle.serde_json.specs.Data.{no_members}
use Rattle.json_requests.specs.Answers.{text_member}
use Rattle.json_tree.proofs.Writing.{after_last}
use Rattle.review_sheet.specs.Review.{vote_word}
use Rattle.journal.specs.Lines.{revision_members}
use Rattle.journal.proofs.TextFacts.{deed_first}
use Rattle.journal.proofs.members.write_vote.Goals as goal

pub returns : goal.returns
returns c =
    rw (deed_first c.args.caller.now (Some c.args.digest.now) (codes "vote") c.args.line (revision_members c.args.name.now c.args.number (text_member (codes "vote") (vote_word c.args.approves) no_members)))
    (after_last _ _ _ c.in_ok-begin_object.ensures (after_last _ _ _ c.in_ok-write_deed.ensures (after_last _ _ _ c.in_ok-write_revision.ensures
    (after_last _ _ _ (rw c.vote_word.ensures at c.in_ok-write_text.ensures) c.end_object.ensures))))

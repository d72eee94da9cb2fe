use Rattle.std.specs.Prelude.{codes}
use Rattle.serde_json.specs.Data.{member, no_members}
use Rattle.json_tree.proofs.Writing.{after_last}
use Rattle.profile_text.specs.Text.{set_data}
use Rattle.journal.specs.Lines.{user_members}
use Rattle.journal.proofs.TextFacts.{kind_first}
use Rattle.journal.proofs.members.write_founding.Goals as goal

pub returns : goal.returns
returns c =
    rw (kind_first (codes "found") c.args.line (member (codes "listed") (set_data c.args.listed) (user_members c.args.user.now c.args.team.now no_members)))
    (after_last _ _ _ c.in_ok-begin_object.ensures (after_last _ _ _ c.in_ok-write_digest.ensures (after_last _ _ _ c.in_ok-write_kind.ensures
    (after_last _ _ _ c.in_ok-write_set.ensures (after_last _ _ _ c.in_ok-write_user.ensures c.end_object.ensures)))))

use Rattle.serde_json.specs.Data.{no_members}
use Rattle.json_tree.proofs.Writing.{after_last}
use Rattle.journal.specs.Lines.{profile_members}
use Rattle.journal.proofs.TextFacts.{kind_first}
use Rattle.journal.proofs.members.write_on_profile.Goals as goal

pub returns : goal.returns
returns c =
    rw (kind_first c.args.word.now c.args.line (profile_members c.args.name.now no_members))
    (after_last _ _ _ c.in_ok-begin_object.ensures (after_last _ _ _ (rw c.as_str.ensures.text at c.in_ok-write_text.ensures) (after_last _ _ _ c.in_ok-write_kind.ensures
    (after_last _ _ _ c.in_ok-write_profile.ensures c.end_object.ensures))))

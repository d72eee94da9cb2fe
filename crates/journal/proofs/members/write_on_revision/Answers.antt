use Rattle.std.proofs.Common.{option_map}
use Rattle.serde_json.specs.Data.{no_members}
use Rattle.json_tree.proofs.Writing.{after_last}
use Rattle.journal.specs.Lines.{revision_members}
use Rattle.journal.proofs.TextFacts.{deed_first}
use Rattle.journal.proofs.members.write_on_revision.Goals as goal

pub returns : goal.returns
returns c =
    rw (deed_first c.args.caller.now (option_map (λ d. d.now) c.args.digest) c.args.word.now c.args.line (revision_members c.args.name.now c.args.number no_members))
    (after_last _ _ _ c.in_ok-begin_object.ensures (after_last _ _ _ c.in_ok-write_deed.ensures (after_last _ _ _ c.in_ok-write_revision.ensures
    c.end_object.ensures)))

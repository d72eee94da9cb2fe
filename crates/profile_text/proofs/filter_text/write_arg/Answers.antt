use Rattle.std.proofs.Common.{◌≡◌, rules}
use Rattle.std.specs.Prelude.{codes}
use Rattle.serde_json.specs.Data.{no_members}
use Rattle.profile_text.specs.Text.{value_two_data}
use Rattle.json_tree.proofs.Writing.{after_last}
use Rattle.profile_text.proofs.Writing.{member_first}
use Rattle.profile_text.proofs.PlainNames.{op_plain}
use Rattle.profile_text.proofs.filter_text.write_arg.Goals as goal

pub returns : goal.returns
returns c =
    let arg = c.args.arg.now in
    let index : c.from-index.result ≡ arg.index = search rules in
    rw (member_first (codes "valueTwo") (value_two_data arg.op arg.value_two) no_members)
    (after_last _ _ _ c.in_ok-begin_object.ensures (after_last _ _ _ (rw index at c.in_ok-write_number.ensures) (after_last _ _ _ (rw c.word.ensures.text at c.in_ok-write_text.ensures)
    (after_last _ _ _ c.in_ok-write_number-2.ensures (after_last _ _ _ c.in_ok-write_value_two.ensures c.end_object.ensures)))))

pub write_text-requires-clause-text : goal.write_text-requires-clause-text
write_text-requires-clause-text c = rw c.word.ensures.text (op_plain _)

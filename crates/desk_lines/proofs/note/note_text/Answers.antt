use Rattle.desk_lines.proofs.NoteFacts.{note_is}
use Rattle.desk_lines.proofs.note.note_text.Goals as goal

pub returns : goal.returns
returns c =
    note_is c.args.number c.args.found c.format.result.now c.new-note.ensures c.push_str.ensures.bytes c.push_str-2.ensures.bytes c.format.ensures.text c.push_str-3.ensures.bytes c.push_word.ensures
    c.push_str-4.ensures.bytes

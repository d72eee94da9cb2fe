use Rattle.std.proofs.Common.{◌∷◌, [], codes}
use Rattle.std.specs.Prelude.{string_bytes}
use Rattle.review_sheet.specs.Sets.{set_line}
use Rattle.review_sheet.proofs.Adding.{line_then, three_lines}
use Rattle.review_sheet.proofs.sets.push_state.Goals as goal

pub returns : goal.returns
returns c =
    let state = c.args.state.now in
    let effective = set_line (codes "effective") state.effective in
    let permitted = set_line (codes "permitted") state.permitted in
    let inheritable = set_line (codes "inheritable") state.inheritable in
    let bounding = set_line (codes "bounding") state.bounding in
    let ambient = set_line (codes "ambient") state.ambient in
    let one = string_bytes c.push_set.new.text in
    let two = string_bytes c.push_set-2.new.text in
    let three = string_bytes c.push_set-3.new.text in
    let four = string_bytes c.push_set-4.new.text in
    let five = string_bytes c.push_set-5.new.text in
    line_then (string_bytes c.args.text.now) one five effective (permitted ∷ inheritable ∷ bounding ∷ ambient ∷ []) c.in_ok-push_set.ensures
    (line_then one two five permitted (inheritable ∷ bounding ∷ ambient ∷ []) c.in_ok-push_set-2.ensures
    (three_lines two three four five inheritable bounding ambient c.in_ok-push_set-3.ensures c.in_ok-push_set-4.ensures c.in_ok-push_set-5.ensures))

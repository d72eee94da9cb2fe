use Rattle.std.proofs.Common.{◌∙◌, ◌++◌, ap}
use Rattle.std.specs.Prelude.{string_bytes}
use Rattle.review_sheet.specs.AfterExecve.{after_plain, after_root}
use Rattle.review_sheet.specs.Layout.{joined}
use Rattle.review_sheet.specs.Sets.{caps_lines, plain_lines, root_lines, state_lines}
use Rattle.review_sheet.proofs.Adding.{then_lines}
use Rattle.review_sheet.proofs.AfterFacts.{same_plain_lines, same_root_lines}
use Rattle.review_sheet.proofs.sets.push_caps.Goals as goal

pub returns : goal.returns
unfolding caps_lines
returns c =
    let state = c.args.state.now in
    let start = string_bytes c.args.text.now in
    let one = string_bytes c.push_state.new.text in
    let two = string_bytes c.push_plain.new.text in
    let three = string_bytes c.push_root.new.text in
    let plain = plain_lines (after_plain state).0 in
    let root = root_lines (after_root state).0 in
    then_lines start two three (state_lines state ++ plain) root
    (then_lines start one two (state_lines state) plain c.in_ok-push_state.ensures
    (c.in_ok-push_plain.ensures ∙ ap (λ lines. one ++ joined lines) (same_plain_lines state c.after_plain.result c.after_plain.ensures)))
    (c.in_ok-push_root.ensures ∙ ap (λ lines. two ++ joined lines) (same_root_lines state c.execve_root.result c.execve_root.ensures))

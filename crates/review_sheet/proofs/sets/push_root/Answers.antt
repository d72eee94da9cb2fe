use Rattle.std.proofs.Common.{codes}
use Rattle.std.specs.Prelude.{string_bytes}
use Rattle.review_sheet.specs.Sets.{set_line}
use Rattle.review_sheet.proofs.Adding.{three_lines}
use Rattle.review_sheet.proofs.sets.push_root.Goals as goal

pub returns : goal.returns
returns c =
    let after = c.args.after.now in
    three_lines (string_bytes c.args.text.now) (string_bytes c.push_set.new.text) (string_bytes c.push_set-2.new.text) (string_bytes c.push_set-3.new.text)
    (set_line (codes "root permitted") after.permitted) (set_line (codes "root effective") after.effective) (set_line (codes "root ambient") after.ambient)
    c.in_ok-push_set.ensures c.in_ok-push_set-2.ensures c.in_ok-push_set-3.ensures

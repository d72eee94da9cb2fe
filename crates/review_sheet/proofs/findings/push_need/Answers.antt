use Rattle.std.proofs.Common.{◌∙◌, ◌==◌, ◌++◌, ap, codes}
use Rattle.std.specs.Prelude.{not, string_bytes}
use Rattle.review_policy.specs.Rules.{need_of}
use Rattle.review_sheet.specs.Layout.{ended}
use Rattle.review_sheet.specs.Review.{need_text}
use Rattle.review_sheet.specs.Sets.{set_line}
use Rattle.review_sheet.proofs.Adding.{two_lines}
use Rattle.review_sheet.proofs.findings.push_need.Goals as goal

pub returns : goal.returns
returns c =
    let listed = c.args.listed in
    let need = need_of c.args.wide (not (listed == 0)) in
    let one = string_bytes c.push_set.new.text in
    let text = c.need_text.ensures ∙ ap need_text c.need.ensures ∙ ap (λ n. need_text (need_of c.args.wide (not (n == 0)))) c.bits.ensures.value in
    two_lines (string_bytes c.args.text.now) one (string_bytes c.push_line.new.text) (set_line (codes "listed") listed) (codes "need: " ++ need_text need)
    c.in_ok-push_set.ensures (c.in_ok-push_line.ensures ∙ ap (λ t. one ++ ended (codes "need: " ++ t)) text)

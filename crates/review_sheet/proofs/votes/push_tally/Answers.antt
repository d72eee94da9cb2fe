use Rattle.std.proofs.Common.{◌∙◌, ◌++◌, ap, codes, decimal}
use Rattle.std.specs.Prelude.{count_by, string_bytes}
use Rattle.review_sheet.specs.Layout.{ended}
use Rattle.office_words.specs.Votes.{is_approval, is_rejection}
use Rattle.review_sheet.proofs.Adding.{two_lines}
use Rattle.review_sheet.proofs.votes.push_tally.Goals as goal

pub returns : goal.returns
returns c =
    let votes = c.args.votes.now in
    let start = string_bytes c.args.text.now in
    let one = string_bytes c.push_count.new.text in
    two_lines start one (string_bytes c.push_count-2.new.text)
    (codes "approvals: " ++ decimal (count_by is_approval votes)) (codes "rejections: " ++ decimal (count_by is_rejection votes))
    (c.in_ok-push_count.ensures ∙ ap (λ n. start ++ ended (codes "approvals: " ++ decimal n)) c.approvals.ensures)
    (c.in_ok-push_count-2.ensures ∙ ap (λ n. one ++ ended (codes "rejections: " ++ decimal n)) c.rejections.ensures)

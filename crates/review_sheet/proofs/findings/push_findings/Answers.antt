use Rattle.std.proofs.Common.{◌++◌, codes, decimal, length, map}
use Rattle.std.specs.Prelude.{string_bytes}
use Rattle.review_sheet.specs.Review.{finding_line, findings_lines}
use Rattle.review_sheet.proofs.Adding.{line_then}
use Rattle.review_sheet.proofs.findings.push_findings.Goals as goal

pub returns : goal.returns
unfolding findings_lines
returns c =
    let found = c.args.found.now in
    line_then (string_bytes c.args.text.now) (string_bytes c.push_count.new.text) (string_bytes c.push_each.new.text)
    (codes "findings: " ++ decimal (length found)) (map finding_line found) c.in_ok-push_count.ensures c.in_ok-push_each.ensures

use Rattle.std.proofs.Common.{◌∙◌, ◌+◌, ◌++◌, ap, codes}
use Rattle.std.specs.Prelude.{string_bytes}
use Rattle.profile_text.specs.Digest.{digest_of}
use Rattle.journal_reports.specs.Lines.{on_revision, short_digest}
use Rattle.journal_reports.proofs.Adding.{then_part}
use Rattle.journal_reports.proofs.line.push_submission.Goals as goal

pub returns : goal.returns
returns c =
    let start = string_bytes c.args.text.now in
    let one = string_bytes c.push_on_revision.new.text in
    then_part start one (string_bytes c.push_digest.new.text) _ _
    (c.in_ok-push_on_revision.ensures ∙ ap (λ n. start ++ on_revision c.args.caller.now (codes "submitted") c.args.name.now (n + 1)) c.number_of.ensures)
    (c.in_ok-push_digest.ensures ∙ ap (λ d. one ++ short_digest d) (c.digest.ensures ∙ ap digest_of (c.as_bytes.ensures.value ∙ c.as_str.ensures)))

use Rattle.std.specs.Prelude.{string_bytes}
use Rattle.journal_reports.proofs.Adding.{then_part}
use Rattle.journal_reports.proofs.line.push_on_found.Goals as goal

pub returns : goal.returns
returns c =
    then_part (string_bytes c.args.text.now) (string_bytes c.push_on_revision.new.text) (string_bytes c.push_found.new.text) _ _ c.in_ok-push_on_revision.ensures c.in_ok-push_found.ensures

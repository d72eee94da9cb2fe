use Rattle.std.proofs.Common.{◌++◌, codes, decimal}
use Rattle.std.specs.Prelude.{string_bytes}
use Rattle.journal_reports.specs.Lines.{on_profile}
use Rattle.journal_reports.proofs.Adding.{then_part}
use Rattle.journal_reports.proofs.line.push_on_revision.Goals as goal

pub returns : goal.returns
returns c =
    then_part (string_bytes c.args.text.now) (string_bytes c.push_on_profile.new.text) (string_bytes c.write.new.self)
    (on_profile c.args.caller.now c.args.did.now c.args.name.now) (codes " " ++ decimal c.args.number) c.in_ok-push_on_profile.ensures c.in_ok-write.ensures.bytes

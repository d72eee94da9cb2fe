use Rattle.std.proofs.Common.{arith, ◌∙◌, ◌++◌, ap}
use Rattle.std.specs.Prelude.{string_bytes}
use Rattle.review_sheet.specs.Layout.{spaced}
use Rattle.cap_sets.specs.Capability.{names_of}
use Rattle.journal_reports.proofs.Adding.{or_none}
use Rattle.journal_reports.proofs.line.push_names.Goals as goal

pub returns : goal.returns
returns c =
    or_none (string_bytes c.args.text.now) (string_bytes c.push_each_name.new.text) (string_bytes c.push_none_at.new.text) c.len-before.result (names_of c.args.caps)
    (omega (arith, c.len-before.ensures, c.args.text.now.bytes.ok.0)) (c.in_ok-push_each_name.ensures ∙ ap (λ names. string_bytes c.args.text.now ++ spaced names) c.names.ensures.rising) c.in_ok-push_none_at.ensures

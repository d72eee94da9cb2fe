use Rattle.std.proofs.Common.{◌∙◌, arith}
use Rattle.std.specs.Prelude.{string_bytes}
use Rattle.journal_reports.proofs.StruckFacts.{all_written, pair_written}
use Rattle.journal_reports.proofs.struck.push_struck_lines.Goals as goal

pub pairs-preserved : goal.pairs-preserved
pairs-preserved c =
    pair_written c.args.filter.now c.pairs.at c.args.last (string_bytes c.pairs.text) (string_bytes c.push_pair.new.text) _ (omega (arith, c.pairs-test.true, c.saturating_sub.ensures)) c.pairs.invariant c.in_ok-push_pair.ensures

pub returns : goal.returns
returns c =
    all_written c.args.filter.now c.pairs.at c.args.last (string_bytes c.pairs.text) _ (omega (arith, c.pairs-test.false, c.saturating_sub.ensures)) c.pairs.invariant

use Rattle.std.proofs.Common.{rules}
use Rattle.reading_commands.proofs.FailingFacts.{compare_cut, failed_by}
use Rattle.reading_commands.proofs.documents.run_compare.Goals as goal

pub returns-clause-done : goal.returns-clause-done
returns-clause-done g c =
    let read = c.in_ok-text.ensures.compared in
    record {
      base = read.0;
      base_opened = read.2;
      shown = read.1;
      shown_opened = read.3;
      text = c.in_ok-text.text;
      compared = read.4;
      printed = search rules;
      ended = c.findings_status.ensures;
    }

pub returns-in_err-print-clause-failed : goal.returns-in_err-print-clause-failed
returns-in_err-print-clause-failed g c =
    failed_by _ _ c.in_err-print.field-0.0 c.from_residual-in_err-print.ensures.1
    (compare_cut (g.F.PassFiles.opens c.args.files.now) g.F.PassFiles.gives g.F.File.Read.remaining g.O.Write.contents c.args.output.now c.print.new.output
    c.args.base.now c.args.new.now c.in_err-print.field-0.0 c.in_ok-text.text _ c.in_ok-text.ensures.compared c.as_str.ensures.value c.in_err-print.ensures.fault)

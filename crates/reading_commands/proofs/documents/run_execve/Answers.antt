use Rattle.std.proofs.Common.{rules, sym}
use Rattle.profile_commands.proofs.ReadFacts.{executed_of}
use Rattle.reading_commands.proofs.FailingFacts.{execve_cut, failed_by}
use Rattle.reading_commands.proofs.documents.run_execve.Goals as goal

pub returns-in-Done-clause-done : goal.returns-in-Done-clause-done
returns-in-Done-clause-done g c =
    let read = c.in_ok-bytes.ensures.bytes in
    record {
      file = read.0;
      opened = read.1;
      execution = c.in_ok-execution.execution;
      outcome = c.in_ok-outcome.outcome;
      described = search rules;
      executed = executed_of (g.F.File.Read.remaining read.0) c.in_ok-bytes.bytes.items c.in_ok-execution.execution c.in_ok-outcome.outcome read.2
          (rw c.deref.ensures.value at c.in_ok-outcome.ensures);
      printed = search rules;
      ended = search rules;
    }

pub returns-clause-done : goal.returns-clause-done
returns-clause-done g c =
    let read = c.in_ok-bytes.ensures.bytes in
    record {
      file = read.0;
      opened = read.1;
      execution = c.in_ok-execution.execution;
      outcome = c.in_ok-outcome.outcome;
      described = search rules;
      executed = executed_of (g.F.File.Read.remaining read.0) c.in_ok-bytes.bytes.items c.in_ok-execution.execution c.in_ok-outcome.outcome read.2
          (rw c.deref.ensures.value at c.in_ok-outcome.ensures);
      printed = search rules;
      ended = search rules;
    }

pub returns-in_err-print-in-Done-clause-failed : goal.returns-in_err-print-in-Done-clause-failed
returns-in_err-print-in-Done-clause-failed g c =
    let read = c.in_ok-bytes.ensures.bytes in
    let bytes_of = g.F.File.Read.remaining in
    failed_by _ _ c.in_err-print-in-Done.field-0.0 c.from_residual-in_err-print-in-Done.ensures.1
    (execve_cut (g.F.PassFiles.opens c.args.files.now) g.F.PassFiles.gives bytes_of g.O.Write.contents c.args.output.now c.print.new.output
    c.args.words.now c.in_ok-execution.execution (sym c.in_ok-execution.ensures) c.in_err-print-in-Done.field-0.0 read.0 c.in_ok-outcome.outcome _ read.1
    (executed_of (bytes_of read.0) c.in_ok-bytes.bytes.items c.in_ok-execution.execution c.in_ok-outcome.outcome read.2 (rw c.deref.ensures.value at c.in_ok-outcome.ensures))
    (search rules) c.in_err-print-in-Done.ensures.fault)

pub returns-in_err-print-in-Denied-clause-failed : goal.returns-in_err-print-in-Denied-clause-failed
returns-in_err-print-in-Denied-clause-failed g c =
    let read = c.in_ok-bytes.ensures.bytes in
    let bytes_of = g.F.File.Read.remaining in
    failed_by _ _ c.in_err-print-in-Denied.field-0.0 c.from_residual-in_err-print-in-Denied.ensures.1
    (execve_cut (g.F.PassFiles.opens c.args.files.now) g.F.PassFiles.gives bytes_of g.O.Write.contents c.args.output.now c.print-in-Denied.new.output
    c.args.words.now c.in_ok-execution.execution (sym c.in_ok-execution.ensures) c.in_err-print-in-Denied.field-0.0 read.0 c.in_ok-outcome.outcome _ read.1
    (executed_of (bytes_of read.0) c.in_ok-bytes.bytes.items c.in_ok-execution.execution c.in_ok-outcome.outcome read.2 (rw c.deref.ensures.value at c.in_ok-outcome.ensures))
    (search rules) c.in_err-print-in-Denied.ensures.fault)

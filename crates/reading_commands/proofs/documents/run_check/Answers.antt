use Rattle.std.proofs.Common.{rules, refl}
use Rattle.profile_commands.proofs.ReadFacts.{checked_of}
use Rattle.reading_commands.proofs.FailingFacts.{check_cut, failed_by}
use Rattle.reading_commands.proofs.documents.run_check.Goals as goal

pub returns-clause-done : goal.returns-clause-done
returns-clause-done g c =
    let read = c.in_ok-bytes.ensures.bytes in (
      record {
        file = read.0;
        opened = read.1;
        text = c.in_ok-text.text;
        checked = checked_of (g.F.File.Read.remaining read.0) c.in_ok-bytes.bytes.items c.in_ok-text.text read.2 (rw c.deref.ensures.value at c.in_ok-text.ensures);
        printed = search rules;
      },
      refl,
    )

pub returns-in_err-print-clause-failed : goal.returns-in_err-print-clause-failed
returns-in_err-print-clause-failed g c =
    let read = c.in_ok-bytes.ensures.bytes in
    let bytes_of = g.F.File.Read.remaining in
    failed_by _ _ c.in_err-print.field-0.0 c.from_residual-in_err-print.ensures.1
    (check_cut (g.F.PassFiles.opens c.args.files.now) g.F.PassFiles.gives bytes_of g.O.Write.contents c.args.output.now c.print.new.output c.args.file.now
    c.in_err-print.field-0.0 read.0 c.in_ok-text.text _ read.1
    (checked_of (bytes_of read.0) c.in_ok-bytes.bytes.items c.in_ok-text.text read.2 (rw c.deref.ensures.value at c.in_ok-text.ensures))
    c.as_str.ensures.value c.in_err-print.ensures.fault)

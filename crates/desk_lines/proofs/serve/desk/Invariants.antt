use Rattle.std.proofs.Common.{◌≡◌, ◌+◌, ◌*◌, ◌≤◌}
use Rattle.streams.specs.Found.{work}
use Rattle.desk_lines.specs.declared.serve.TheConstants.{MAX_READS}
use Rattle.desk_lines.proofs.ServeFacts.{Progress}
use Rattle.desk_lines.proofs.serve.desk.Given as goal

abbrev pub invariant-loop-office : goal.invariant-loop-office
invariant-loop-office g l =
    record {
      progress : Progress g.H.Handler.meaning g.E.Write.contents l.fn.office l.office l.lines
          (g.R.Read.remaining l.fn.reader.inner) (g.R.Read.remaining l.reader.inner)
          (g.W.Write.contents l.fn.writer.inner) (g.W.Write.contents l.writer.inner) l.fn.errors l.errors l.want l.answered;
      calls : l.reader.calls ≤ l.most_calls;
      read_faults : l.reader.faults ≡ l.fn.reader.faults;
      write_faults : l.writer.faults ≡ l.fn.writer.faults;
      number : l.answered + work l.most_calls l.reader.calls l.lines ≤ MAX_READS * 300003;
    }

abbrev pub decreases-loop-office : goal.decreases-loop-office
decreases-loop-office g l = work l.most_calls l.reader.calls l.lines

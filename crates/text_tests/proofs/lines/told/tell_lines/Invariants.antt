use Rattle.std.proofs.Common.{◌+◌, ◌*◌, ◌^◌, ◌≤◌}
use Rattle.streams.specs.Found.{work}
use Rattle.text_tests.proofs.ToldFacts.{Progress}
use Rattle.text_tests.proofs.lines.told.tell_lines.Given as goal

abbrev pub invariant-loop-lines : goal.invariant-loop-lines
invariant-loop-lines g l =
    record {
      progress : Progress l.lines (g.R.Read.remaining l.fn.reader.inner) (g.R.Read.remaining l.reader.inner) l.text.items l.number;
      calls : l.reader.calls ≤ l.most_calls;
      number : l.number + work l.most_calls l.reader.calls l.lines ≤ 2 ^ 32 * 300003;
    }

abbrev pub decreases-loop-lines : goal.decreases-loop-lines
decreases-loop-lines g l = work l.most_calls l.reader.calls l.lines

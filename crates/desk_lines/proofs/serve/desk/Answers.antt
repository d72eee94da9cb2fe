use Rattle.std.proofs.Common.{◌∙◌, ◌+◌, IfSome, refl, ap, subst, arith}
use Rattle.streams.specs.Held.{size}
use Rattle.streams.specs.Lines.{lines_of}
use Rattle.desk_lines.specs.declared.fault.DeskFault.TheVariants.{Read, TooManyReads}
use Rattle.desk_lines.specs.Stands.{AreAnswered, StandsAfter}
use Rattle.desk_lines.specs.Written.{CountsServed}
use Rattle.desk_lines.proofs.ServeFacts.{progress_none, progress_read, progress_more, none_has, none_noted, all_noted, served_noted, all_answered, unfinished, next_whole, next_last, served_handled, served_later, last_answered, stands_last, well_so, stopped_so}
use Rattle.desk_lines.proofs.serve.desk.Goals as goal

pub returns-in-Err-clause-noted : goal.returns-in-Err-clause-noted
returns-in-Err-clause-noted g c = none_noted g.H.Handler.meaning g.E.Write.contents _ _

pub returns-in-Err-clause-handled : goal.returns-in-Err-clause-handled
returns-in-Err-clause-handled g c = none_has g.H.Handler.meaning g.E.Write.contents _

pub loop-office-init : goal.loop-office-init
loop-office-init g c = record {
  progress = progress_none g.H.Handler.meaning g.E.Write.contents _ _ _ _ _ c.in-Ok.ensures.handed;
  calls = omega (arith);
  read_faults = refl;
  write_faults = refl;
  number = omega (arith, ap size c.in-Ok.ensures.nothing);
}

pub loop-office-preserved : goal.loop-office-preserved
loop-office-preserved g c =
    let read = progress_read g.H.Handler.meaning g.E.Write.contents _ _ _ _ _ _ _ _ _ _ _ _ _ c.loop-office.invariant.progress c.in-Line.ensures.handed in
    let ended = c.serve_first-ended.result in
    record {
      progress = progress_more g.H.Handler.meaning g.E.Write.contents _ _ _ _ _ _ _ _ _ _ _ _ _ _ read ended _ c.pass.ensures.handed c.serve_first-ended.ensures.told c.in-Ok-answered.is;
      calls = c.in-Line.ensures.calls;
      read_faults = c.in-Line.ensures.faults ∙ c.loop-office.invariant.read_faults;
      write_faults = subst (λ r. CountsServed c.loop-office.writer.faults c.serve_first-ended.new.writer.faults r) c.in-Ok-answered.is c.serve_first-ended.ensures.faults ∙ c.loop-office.invariant.write_faults;
      number = omega (arith, c.in-Line.ensures.work, c.pass.ensures.less, c.loop-office.invariant.number);
    }

pub returns-in-Err-answered-clause-stopped : goal.returns-in-Err-answered-clause-stopped
returns-in-Err-answered-clause-stopped g c =
    let read = progress_read g.H.Handler.meaning g.E.Write.contents _ _ _ _ _ _ _ _ _ _ _ _ _ c.loop-office.invariant.progress c.in-Line.ensures.handed in
    let next = next_whole g.H.Handler.meaning g.E.Write.contents _ _ _ _ _ _ _ _ _ _ _ read c.in-Line.ensures.found in
    stands_last g.H.Handler.meaning g.E.Write.contents _ _ _ _ _ _ _ _ _ _ _ _ _ _ read c.serve_first-ended.result next c.serve_first-ended.ensures.told

pub returns-in-Err-answered-clause-handled : goal.returns-in-Err-answered-clause-handled
returns-in-Err-answered-clause-handled g c =
    let read = progress_read g.H.Handler.meaning g.E.Write.contents _ _ _ _ _ _ _ _ _ _ _ _ _ c.loop-office.invariant.progress c.in-Line.ensures.handed in
    served_handled g.H.Handler.meaning g.E.Write.contents _ _ _ _ _ _ _ _ _ _ _ _ _ _ read c.serve_first-ended.result c.serve_first-ended.ensures.told

pub returns-in-Err-answered-clause-nothing : goal.returns-in-Err-answered-clause-nothing
returns-in-Err-answered-clause-nothing g c =
    let read = progress_read g.H.Handler.meaning g.E.Write.contents _ _ _ _ _ _ _ _ _ _ _ _ _ c.loop-office.invariant.progress c.in-Line.ensures.handed in
    λ none. absurd (served_later g.H.Handler.meaning g.E.Write.contents _ _ _ _ _ _ _ _ _ _ _ _ _ _ read c.serve_first-ended.result c.serve_first-ended.ensures.told none)

pub returns-in-LastLine-clause-answered : goal.returns-in-LastLine-clause-answered
returns-in-LastLine-clause-answered g c =
    let read = progress_read g.H.Handler.meaning g.E.Write.contents _ _ _ _ _ _ _ _ _ _ _ _ _ c.loop-office.invariant.progress c.in-LastLine.ensures.handed in
    let found = c.in-LastLine.ensures.found in
    last_answered g.H.Handler.meaning g.E.Write.contents _ _ _ _ _ _ _ _ _ _ _ _ _ _ read c.serve_first.result found.0 found.1 found.2 c.serve_first.ensures.told

pub returns-in-LastLine-clause-stopped : goal.returns-in-LastLine-clause-stopped
returns-in-LastLine-clause-stopped g c =
    let read = progress_read g.H.Handler.meaning g.E.Write.contents _ _ _ _ _ _ _ _ _ _ _ _ _ c.loop-office.invariant.progress c.in-LastLine.ensures.handed in
    let found = c.in-LastLine.ensures.found in
    let next = next_last g.H.Handler.meaning g.E.Write.contents _ _ _ _ _ _ _ _ _ _ _ read found.0 found.1 found.2 in
    stands_last g.H.Handler.meaning g.E.Write.contents _ _ _ _ _ _ _ _ _ _ _ _ _ _ read c.serve_first.result next c.serve_first.ensures.told

pub returns-in-LastLine-clause-handled : goal.returns-in-LastLine-clause-handled
returns-in-LastLine-clause-handled g c =
    let read = progress_read g.H.Handler.meaning g.E.Write.contents _ _ _ _ _ _ _ _ _ _ _ _ _ c.loop-office.invariant.progress c.in-LastLine.ensures.handed in
    served_handled g.H.Handler.meaning g.E.Write.contents _ _ _ _ _ _ _ _ _ _ _ _ _ _ read c.serve_first.result c.serve_first.ensures.told

pub returns-in-LastLine-clause-nothing : goal.returns-in-LastLine-clause-nothing
returns-in-LastLine-clause-nothing g c =
    let read = progress_read g.H.Handler.meaning g.E.Write.contents _ _ _ _ _ _ _ _ _ _ _ _ _ c.loop-office.invariant.progress c.in-LastLine.ensures.handed in
    λ none. absurd (served_later g.H.Handler.meaning g.E.Write.contents _ _ _ _ _ _ _ _ _ _ _ _ _ _ read c.serve_first.result c.serve_first.ensures.told none)

pub returns-in-End-clause-answered : goal.returns-in-End-clause-answered
returns-in-End-clause-answered g c =
    let unread = g.R.Read.remaining c.args.reader.now.inner in
    let before = g.W.Write.contents c.args.writer.now.inner in
    let current = g.W.Write.contents c.loop-office.writer.inner in
    let read = progress_read g.H.Handler.meaning g.E.Write.contents _ _ _ _ _ _ _ _ _ _ _ _ _ c.loop-office.invariant.progress c.in-End.ensures.handed in
    well_so c.well.result c.loop-office.want
    (λ want. IfSome unread (λ input. AreAnswered g.H.Handler.meaning g.E.Write.contents c.args.errors.now c.loop-office.errors c.args.office.now c.loop-office.office before current (lines_of input) want))
    c.well.ensures (all_answered g.H.Handler.meaning g.E.Write.contents _ _ _ _ _ _ _ _ _ _ _ read c.in-End.ensures.found.0 c.in-End.ensures.found.1)

pub returns-in-Failed-clause-stopped : goal.returns-in-Failed-clause-stopped
returns-in-Failed-clause-stopped g c =
    let unread = g.R.Read.remaining c.args.reader.now.inner in
    let rest = g.R.Read.remaining c.find.new.reader.inner in
    let before = g.W.Write.contents c.args.writer.now.inner in
    let current = g.W.Write.contents c.loop-office.writer.inner in
    let read = progress_read g.H.Handler.meaning g.E.Write.contents _ _ _ _ _ _ _ _ _ _ _ _ _ c.loop-office.invariant.progress c.in-Failed.ensures.handed in
    stopped_so c.stopped.result (Read (c.loop-office.answered + 1)) c.loop-office.want
    (λ want. StandsAfter g.H.Handler.meaning g.E.Write.contents c.args.errors.now c.loop-office.errors c.args.office.now c.loop-office.office unread rest before current want)
    c.stopped.ensures (unfinished g.H.Handler.meaning g.E.Write.contents _ _ _ _ _ _ _ _ _ _ _ read c.in-Failed.ensures.found)

pub returns-in-TooManyReads-clause-stopped : goal.returns-in-TooManyReads-clause-stopped
returns-in-TooManyReads-clause-stopped g c =
    let unread = g.R.Read.remaining c.args.reader.now.inner in
    let rest = g.R.Read.remaining c.find.new.reader.inner in
    let before = g.W.Write.contents c.args.writer.now.inner in
    let current = g.W.Write.contents c.loop-office.writer.inner in
    let read = progress_read g.H.Handler.meaning g.E.Write.contents _ _ _ _ _ _ _ _ _ _ _ _ _ c.loop-office.invariant.progress c.in-TooManyReads.ensures.handed in
    stopped_so c.stopped-in-TooManyReads.result (TooManyReads (c.loop-office.answered + 1)) c.loop-office.want
    (λ want. StandsAfter g.H.Handler.meaning g.E.Write.contents c.args.errors.now c.loop-office.errors c.args.office.now c.loop-office.office unread rest before current want)
    c.stopped-in-TooManyReads.ensures (unfinished g.H.Handler.meaning g.E.Write.contents _ _ _ _ _ _ _ _ _ _ _ read c.in-TooManyReads.ensures.found)

pub returns-in-Err-answered-clause-noted : goal.returns-in-Err-answered-clause-noted
returns-in-Err-answered-clause-noted g c =
    let read = progress_read g.H.Handler.meaning g.E.Write.contents _ _ _ _ _ _ _ _ _ _ _ _ _ c.loop-office.invariant.progress c.in-Line.ensures.handed in
    served_noted g.H.Handler.meaning g.E.Write.contents _ _ _ _ _ _ _ _ _ _ _ _ _ _ read c.serve_first-ended.result c.serve_first-ended.ensures.told

pub returns-in-LastLine-clause-noted : goal.returns-in-LastLine-clause-noted
returns-in-LastLine-clause-noted g c =
    let read = progress_read g.H.Handler.meaning g.E.Write.contents _ _ _ _ _ _ _ _ _ _ _ _ _ c.loop-office.invariant.progress c.in-LastLine.ensures.handed in
    served_noted g.H.Handler.meaning g.E.Write.contents _ _ _ _ _ _ _ _ _ _ _ _ _ _ read c.serve_first.result c.serve_first.ensures.told

pub returns-in-End-clause-noted : goal.returns-in-End-clause-noted
returns-in-End-clause-noted g c = all_noted g.H.Handler.meaning g.E.Write.contents _ _ _ _ _ _ _ _ _ _ _ c.loop-office.invariant.progress

pub returns-in-Failed-clause-noted : goal.returns-in-Failed-clause-noted
returns-in-Failed-clause-noted g c = all_noted g.H.Handler.meaning g.E.Write.contents _ _ _ _ _ _ _ _ _ _ _ c.loop-office.invariant.progress

pub returns-in-TooManyReads-clause-noted : goal.returns-in-TooManyReads-clause-noted
returns-in-TooManyReads-clause-noted g c = all_noted g.H.Handler.meaning g.E.Write.contents _ _ _ _ _ _ _ _ _ _ _ c.loop-office.invariant.progress

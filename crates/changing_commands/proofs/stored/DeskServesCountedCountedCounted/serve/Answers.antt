use Rattle.changing_commands.specs.Lines.{HasEnded}
use Rattle.changing_commands.proofs.ServedFacts.{of_either}
use Rattle.changing_commands.proofs.stored.DeskServesCountedCountedCounted.serve.Goals as goal

pub returns-clause-served : goal.returns-clause-served
returns-clause-served g c =
    let ended = c.answer_lines-answered in
    let came = g.R.Read.remaining c.args.input.now.inner in
    let left = g.R.Read.remaining ended.new.input.inner in
    of_either (λ r. HasEnded g.W.Write.contents g.E.Write.contents g.H.Handler.meaning came left c.args.output.now ended.new.output c.args.errors.now ended.new.errors ended.result.witness r c.args.office.now ended.new.office)
    ended.result.ended ended.ensures.answered ended.ensures.stopped

pub returns-clause-noted : goal.returns-clause-noted
returns-clause-noted g c =
    let it = c.answer_lines-answered.ensures.handled in
    (it.0.lines, it.0.outcomes, it.1)

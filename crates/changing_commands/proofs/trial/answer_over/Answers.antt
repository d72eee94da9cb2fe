use Rattle.std.proofs.lemmas.Result.{IfErr-weaker, on_ok_weaker}
use Rattle.changing_commands.proofs.trial.answer_over.Goals as goal

pub returns-clause-answered : goal.returns-clause-answered
returns-clause-answered g c =
    on_ok_weaker c.answer_lines.result.ended (λ done. (c.answer_lines.new.office, done)) c.answer_lines.ensures.answered

pub returns-clause-stopped : goal.returns-clause-stopped
returns-clause-stopped g c =
    IfErr-weaker c.answer_lines.result.ended _ _ (λ why stops. (c.answer_lines.new.office, stops)) c.answer_lines.ensures.stopped

pub returns-clause-noted : goal.returns-clause-noted
returns-clause-noted g c =
    let it = c.answer_lines.ensures.handled in
    (it.0.lines, it.0.outcomes, it.1)

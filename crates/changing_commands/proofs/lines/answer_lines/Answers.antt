use Rattle.changing_commands.proofs.lines.answer_lines.Goals as goal

pub returns-in-Ok-clause-answered : goal.returns-in-Ok-clause-answered
returns-in-Ok-clause-answered g c = (c.desk-ended.ensures.noted, rw c.in-Ok.is at c.desk-ended.ensures.answered)

pub returns-in-Err-clause-stopped : goal.returns-in-Err-clause-stopped
returns-in-Err-clause-stopped g c = (c.desk-ended.ensures.noted, rw c.in-Err.is at c.desk-ended.ensures.stopped)

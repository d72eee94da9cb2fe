use Rattle.reading_commands.proofs.history.write_over.Goals as goal

pub returns-in-Ok-clause-written : goal.returns-in-Ok-clause-written
returns-in-Ok-clause-written g c = (c.in-Ok.field-0, c.in-Ok.ensures.written)

pub returns-clause-unwritten : goal.returns-clause-unwritten
returns-clause-unwritten g c = (c.in-Err.field-0-1, c.in-Err.ensures.unwritten)

use Rattle.reading_commands.proofs.evidence.evidence_over.Goals as goal

pub returns-in-Ok-clause-evidence : goal.returns-in-Ok-clause-evidence
returns-in-Ok-clause-evidence g c = (c.in-Ok.field-0-1, c.in-Ok.ensures.evidence)

pub returns-clause-none : goal.returns-clause-none
returns-clause-none g c = (c.in-Err.field-0-1, c.in-Err.ensures.none)

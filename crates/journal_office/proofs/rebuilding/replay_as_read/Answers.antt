use Rattle.review_office.specs.Meant.{meaning_over}
use Rattle.journal_office.proofs.rebuilding.replay_as_read.Goals as goal

pub returns-in-Ok-clause-built : goal.returns-in-Ok-clause-built
returns-in-Ok-clause-built g c = λ bytes first begun one. c.in-Ok.ensures.replayed bytes first begun one

pub returns-in-Err-clause-built : goal.returns-in-Err-clause-built
returns-in-Err-clause-built g c = λ bytes first begun one. c.replay_last.ensures.halted bytes (c.in-Err.ensures.replayed bytes first begun one)

use Rattle.review_office.proofs.Openings.{stands, answers, answers_all}
use Rattle.review_office.proofs.migrated.a_migrated_office_is_of_its_history.Goals as goal

pub returns-clause-stands : goal.returns-clause-stands
returns-clause-stands g c h it = stands g.S.Store h c.args.office.now it

pub returns-clause-answers : goal.returns-clause-answers
returns-clause-answers g c h it = answers g.S.Store h c.args.office.now it

pub returns-clause-answers_all : goal.returns-clause-answers_all
returns-clause-answers_all g c h it = answers_all g.S.Store h c.args.office.now it

pub returns-clause-reached : goal.returns-clause-reached
returns-clause-reached g c h old migrated lawful showed migration over = record { old = old; migrated = migrated; lawful = lawful; showed = showed; migration = migration; over = over }

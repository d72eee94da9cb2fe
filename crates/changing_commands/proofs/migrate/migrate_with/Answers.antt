use Rattle.std.proofs.Common.{inl, refl}
use Rattle.changing_commands.proofs.MigratingFacts.{migrated, unclosed}
use Rattle.changing_commands.proofs.migrate.migrate_with.Goals as goal

pub returns-in-Err-clause-failed : goal.returns-in-Err-clause-failed
returns-in-Err-clause-failed g c = inl (_, refl, (c.migrate.new.conn, λ clean. c.in-Err.ensures.cause clean, (c.close.result, c.close.ensures.ended)))

pub returns-in-Ok-clause-migrated : goal.returns-in-Ok-clause-migrated
returns-in-Ok-clause-migrated g c =
    migrated g.S.Store g.D.Databases c.args.mark c.args.conn c.migrate.new.conn c.in-Ok.ensures.was (rw c.in-Ok.is at c.migrate.ensures.migration)
    c.close_database.result c.close_database.ensures.closed

pub returns-in-Ok-clause-failed : goal.returns-in-Ok-clause-failed
returns-in-Ok-clause-failed g c =
    unclosed g.S.Store g.D.Databases c.args.mark c.args.conn c.migrate.new.conn c.in-Ok.ensures.was (rw c.in-Ok.is at c.migrate.ensures.migration)
    c.close_database.result c.close_database.ensures.ended c.close_database.ensures.fault

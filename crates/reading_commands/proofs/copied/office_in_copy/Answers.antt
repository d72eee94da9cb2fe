use Rattle.std.proofs.Common.{inr, refl, subst, sym}
use Rattle.sqlite.specs.Held.{Held}
use Rattle.memory_database.specs.Copies.{CopyStore, over_copy, IsCopyOf}
use Rattle.command_host.specs.Openings.{IsOpenedOffice}
use Rattle.reading_commands.proofs.copied.office_in_copy.Goals as goal

pub returns-in-Ok-over-clause-office : goal.returns-in-Ok-over-clause-office
returns-in-Ok-over-clause-office c =
    subst (λ (x : Held CopyStore). IsOpenedOffice over_copy (IsCopyOf c.args.given.log.items c.args.given.database.items) x) (sym c.into_connection.ensures.connection)
    (record { was = c.in-Ok.conn; opened = c.in-Ok.ensures.copy; over = c.in-Ok-over.ensures.over })

pub returns-clause-none : goal.returns-clause-none
returns-clause-none c =
    inr (
      c.in-Err-over.fault,
      refl,
      (
        c.in-Ok.conn,
        c.in-Err-over.field-0-1,
        c.in-Ok.ensures.copy,
        record { foreign = c.in-Err-over.ensures.foreign; told = c.in-Err-over.ensures.told },
      ),
    )

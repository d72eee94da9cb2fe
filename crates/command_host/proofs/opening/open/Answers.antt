use Rattle.std.proofs.Common.{inr, refl}
use Rattle.command_host.proofs.OpenedFacts.{not_idle}
use Rattle.command_host.proofs.opening.open.Goals as goal

pub returns-then-not-is_autocommit-clause-fault : goal.returns-then-not-is_autocommit-clause-fault
returns-then-not-is_autocommit-clause-fault g c =
    inr (
      refl,
      (
        c.in-Ok.conn,
        c.in-Ok.ensures.opened,
        not_idle _ _ c.is_autocommit.ensures.value c.if-not-is_autocommit.true,
        (c.close.result, c.close.ensures.ended),
      ),
    )

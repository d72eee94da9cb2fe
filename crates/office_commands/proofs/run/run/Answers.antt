use Rattle.std.proofs.Common.{inl, refl}
use Rattle.command_host.specs.Outside.{known}
use Rattle.reading_commands.proofs.FailingFacts.{failed_by}
use Rattle.office_commands.proofs.RunFacts.{all_failed_as, failed_as, run_as}
use Rattle.office_commands.proofs.run.run.Goals as goal

pub returns-in_ok-serve_trial-in-Trial-clause-done : goal.returns-in_ok-serve_trial-in-Trial-clause-done
returns-in_ok-serve_trial-in-Trial-clause-done g c =
    run_as (known c.args.host.now) g.O.Write.contents g.E.Write.contents _ _ _ _ _ _ _ _ _
    c.in-Trial.is ((c.serve_trial.result.witness, rw c.in_ok-serve_trial-in-Trial.was at c.serve_trial.ensures.tried), refl)

pub returns-in_ok-serve_stored-in-Desk-clause-done : goal.returns-in_ok-serve_stored-in-Desk-clause-done
returns-in_ok-serve_stored-in-Desk-clause-done g c =
    run_as (known c.args.host.now) g.O.Write.contents g.E.Write.contents _ _ _ _ _ _ _ _ _
    c.in-Desk.is ((c.serve_stored.result.witness, rw c.in_ok-serve_stored-in-Desk.was at c.serve_stored.ensures.served), refl)

pub returns-in_ok-print-in-Init-clause-done : goal.returns-in_ok-print-in-Init-clause-done
returns-in_ok-print-in-Init-clause-done g c =
    run_as (known c.args.host.now) g.O.Write.contents g.E.Write.contents _ _ _ _ _ _ _ _ _
    c.in-Init.is (c.in_ok-found_at-in-Init.ensures.founded, c.in_ok-print-in-Init.ensures.whole, refl)

pub returns-in_ok-print-in-Migrate-clause-done : goal.returns-in_ok-print-in-Migrate-clause-done
returns-in_ok-print-in-Migrate-clause-done g c =
    run_as (known c.args.host.now) g.O.Write.contents g.E.Write.contents _ _ _ _ _ _ _ _ _
    c.in-Migrate.is (c.in_ok-migrate_at-in-Migrate.ensures.migrated, c.in_ok-print-in-Migrate.ensures.whole, refl)

pub returns-in_err-serve_http-in-Serve-clause-failed : goal.returns-in_err-serve_http-in-Serve-clause-failed
returns-in_err-serve_http-in-Serve-clause-failed g c =
    failed_by _ _ c.in_err-serve_http-in-Serve.field-0.0 c.from_residual-in_err-serve_http-in-Serve.ensures.1
    (failed_as (known c.args.host.now) g.O.Write.contents g.E.Write.contents _ _ _ _ _ _ _ _ _
    c.in-Serve.is c.in_err-serve_http-in-Serve.ensures)

pub returns-in_err-serve_stored-in-Desk-clause-failed : goal.returns-in_err-serve_stored-in-Desk-clause-failed
returns-in_err-serve_stored-in-Desk-clause-failed g c =
    failed_by _ _ c.in_err-serve_stored-in-Desk.field-0.0 c.from_residual-in_err-serve_stored-in-Desk.ensures.1
    (failed_as (known c.args.host.now) g.O.Write.contents g.E.Write.contents _ _ _ _ _ _ _ _ _
    c.in-Desk.is (c.serve_stored.result.witness, rw c.in_err-serve_stored-in-Desk.was at c.serve_stored.ensures.served))

pub returns-in-Compare-clause-failed : goal.returns-in-Compare-clause-failed
returns-in-Compare-clause-failed g c =
    all_failed_as (known c.args.host.now) g.O.Write.contents g.E.Write.contents _ _ _ _ _ _ _ _ c.run_compare.result
    c.in-Compare.is c.run_compare.ensures.failed

pub returns-in-Rebuild-clause-failed : goal.returns-in-Rebuild-clause-failed
returns-in-Rebuild-clause-failed g c =
    all_failed_as (known c.args.host.now) g.O.Write.contents g.E.Write.contents _ _ _ _ _ _ _ _ c.run_rebuild.result
    c.in-Rebuild.is c.run_rebuild.ensures.failed

pub returns-in_err-migrate_at-in-Migrate-clause-failed : goal.returns-in_err-migrate_at-in-Migrate-clause-failed
returns-in_err-migrate_at-in-Migrate-clause-failed g c =
    failed_by _ _ c.in_err-migrate_at-in-Migrate.field-0.0 c.from_residual-in_err-migrate_at-in-Migrate.ensures.1
    (failed_as (known c.args.host.now) g.O.Write.contents g.E.Write.contents _ _ _ _ _ _ _ _ _
    c.in-Migrate.is (inl (c.in_err-migrate_at-in-Migrate.ensures.failed, refl)))

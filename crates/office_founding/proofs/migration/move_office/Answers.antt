use Rattle.std.proofs.Common.{inl, inr, ◌≡◌, sym, subst}
use Rattle.sqlite.specs.Held.{state}
use Rattle.office_rows.specs.Causes.{HasFailed}
use Rattle.office_words.specs.declared.fault.Fault.TheVariants.{NotAnOffice}
use Rattle.office_founding.proofs.Migrating.{all_ran, none_ran, never_unformed}
use Rattle.office_founding.proofs.migration.move_office.Goals as goal

pub returns-in-Ok-clause-migration : goal.returns-in-Ok-clause-migration
returns-in-Ok-clause-migration g c =
    all_ran g.S.Store c.args.conn.now c.run_migration.new.conn c.requires c.run_migration.ensures.mode (g.met.S.Store.settled c.args.conn.now.store) (g.met.S.Store.settled c.run_migration.new.conn.store)
    c.run_migration.ensures.was_open c.run_migration.ensures.crash _ c.in-Ok.ensures.all

pub returns-in-Err-clause-migration : goal.returns-in-Err-clause-migration
returns-in-Err-clause-migration g c =
    none_ran g.S.Store c.args.conn.now c.run_migration.new.conn c.requires c.run_migration.ensures.mode (g.met.S.Store.settled c.args.conn.now.store) (g.met.S.Store.settled c.run_migration.new.conn.store)
    c.run_migration.ensures.was_open c.run_migration.ensures.crash c.in-Err.ensures.none _ _

pub returns-in-Err-clause-formed : goal.returns-in-Err-clause-formed
returns-in-Err-clause-formed g c t shows clean same =
    never_unformed g.S.Store c.args.conn.now c.run_migration.new.conn c.in-Err.error c.fault_of_error.result t shows (c.in-Err.ensures.cause clean) c.fault_of_error.ensures (let k : c.fault_of_error.result ≡ NotAnOffice = cc in k)

pub returns-in-Err-clause-cause : goal.returns-in-Err-clause-cause
returns-in-Err-clause-cause g c clean =
    let old = c.args.conn.now in
    let new = c.run_migration.new.conn in
    let fault = c.fault_of_error.ensures in
    record {
      cause = record { error = c.in-Err.error; failed = c.in-Err.ensures.cause clean; fault = fault };
      met = elim (c.in-Err.ensures.met clean) [
        | inl failed ↦ inl (subst (HasFailed (state g.S.Store old) (state g.S.Store new)) (sym fault) failed)
        | inr refused ↦ inr (record { error = c.in-Err.error; refused = refused; fault = fault })
      ];
    }

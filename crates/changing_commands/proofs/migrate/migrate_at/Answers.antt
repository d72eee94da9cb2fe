use Rattle.std.proofs.Common.{rules, ◌≡◌, ℕ, Option, Err, ap, inl, inr, subst, sym}
use Rattle.std.specs.Prelude.{IfErr, OnOk}
use Rattle.command_host.specs.Openings.{IsClosed}
use Rattle.changing_commands.specs.Migrations.{mark_without, IsMigratedFrom, IsUnmigratedFrom}
use Rattle.changing_commands.proofs.MigratingFacts.{migrated_there, not_both, unmigrated_there}
use Rattle.changing_commands.proofs.migrate.migrate_at.Goals as goal

pub returns-in_err-conn-clause-failed : goal.returns-in_err-conn-clause-failed
returns-in_err-conn-clause-failed g c =
    let told : c.from_residual.result ≡ Err c.in_err-conn.field-0.0 = search rules in
    rw told (inr (inl (c.if-not-without_journal.true, c.in_err-conn.ensures.fault)))

pub returns-then-not-without_journal-clause-migrated : goal.returns-then-not-without_journal-clause-migrated
returns-then-not-without_journal-clause-migrated g c =
    let none = ap mark_without c.if-not-without_journal.true in
    migrated_there g.S.Store g.D.Databases c.args.path.now c.args.without_journal c.in_ok-conn.conn c.in_ok-conn.ensures.opened.0 (λ is. c.in_ok-conn.ensures.opened.1) c.migrate_with.result
    (subst (λ (m : Option ℕ). OnOk c.migrate_with.result (IsMigratedFrom g.S.Store m (IsClosed g.D.Databases.closed) c.in_ok-conn.conn)) (sym none) c.migrate_with.ensures.migrated)

pub returns-then-not-without_journal-clause-failed : goal.returns-then-not-without_journal-clause-failed
returns-then-not-without_journal-clause-failed g c =
    let none = ap mark_without c.if-not-without_journal.true in
    unmigrated_there g.S.Store g.D.Databases c.args.path.now c.args.without_journal c.in_ok-conn.conn c.in_ok-conn.ensures.opened.0 (λ is. c.in_ok-conn.ensures.opened.1) c.migrate_with.result
    (subst (λ (m : Option ℕ). IfErr c.migrate_with.result (IsUnmigratedFrom g.S.Store g.D.Databases m c.in_ok-conn.conn)) (sym none) c.migrate_with.ensures.failed)

pub returns-in_err-conn-2-clause-failed : goal.returns-in_err-conn-2-clause-failed
returns-in_err-conn-2-clause-failed g c =
    let told : c.from_residual-in_err-conn-2.result ≡ Err c.in_err-conn-2.field-0.0 = search rules in
    rw told (inl (c.if-not-without_journal.false, c.in_err-conn-2.ensures.fault))

pub returns-clause-migrated : goal.returns-clause-migrated
returns-clause-migrated g c =
    let without = c.if-not-without_journal.false in
    migrated_there g.S.Store g.D.Databases c.args.path.now c.args.without_journal c.in_ok-conn-2.conn c.in_ok-conn-2.ensures.opened (λ is. not_both c.args.without_journal without is) c.migrate_with-2.result
    (subst (λ (m : Option ℕ). OnOk c.migrate_with-2.result (IsMigratedFrom g.S.Store m (IsClosed g.D.Databases.closed) c.in_ok-conn-2.conn)) (sym (ap mark_without without)) c.migrate_with-2.ensures.migrated)

pub returns-clause-failed : goal.returns-clause-failed
returns-clause-failed g c =
    let without = c.if-not-without_journal.false in
    unmigrated_there g.S.Store g.D.Databases c.args.path.now c.args.without_journal c.in_ok-conn-2.conn c.in_ok-conn-2.ensures.opened (λ is. not_both c.args.without_journal without is) c.migrate_with-2.result
    (subst (λ (m : Option ℕ). IfErr c.migrate_with-2.result (IsUnmigratedFrom g.S.Store g.D.Databases m c.in_ok-conn-2.conn)) (sym (ap mark_without without)) c.migrate_with-2.ensures.failed)

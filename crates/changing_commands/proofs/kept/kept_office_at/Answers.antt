use Rattle.std.proofs.Common.{rules, ◌≡◌, Err, inl}
use Rattle.command_host.specs.Openings.{IsWithoutJournal}
use Rattle.changing_commands.proofs.KeptFacts.{kept_marked, unkept_marked}
use Rattle.changing_commands.proofs.kept.kept_office_at.Goals as goal

pub returns-in_err-conn-clause-fault : goal.returns-in_err-conn-clause-fault
returns-in_err-conn-clause-fault g c =
    let told : c.from_residual.result ≡ Err c.in_err-conn.field-0.0 = search rules in
    rw told (inl c.in_err-conn.ensures.fault)

pub returns-clause-opened : goal.returns-clause-opened
returns-clause-opened g c =
    let it = c.in_ok-conn.ensures.opened in
    kept_marked g.S.Store g.J.File.Disk (g.J.Journals.opens c.args.journals.now c.args.journal.now) g.D.Databases c.args.path.now c.in_ok-conn.mark c.in_ok-conn.conn it.0.0 c.kept_over.result it.0.1 it.1
    c.kept_over.ensures.opened

pub returns-clause-fault : goal.returns-clause-fault
returns-clause-fault g c =
    let it = c.in_ok-conn.ensures.opened in
    unkept_marked g.S.Store g.J.File.Disk (g.J.Journals.opens c.args.journals.now c.args.journal.now) g.D.Databases c.args.path.now c.in_ok-conn.mark c.in_ok-conn.conn it.0.0
    (IsWithoutJournal g.D.Databases c.args.path.now) c.kept_over.result it.0.1 it.1 c.kept_over.ensures.fault

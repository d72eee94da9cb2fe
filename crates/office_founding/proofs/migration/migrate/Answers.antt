use Rattle.std.proofs.Common.{inl, inr, rules, ◌≡◌, true, false, true≢false, Ok, Err, sym, ap, ◌∙◌}
use Rattle.sqlite.specs.Held.{state}
use Rattle.office_words.specs.declared.fault.Fault.TheVariants.{NotAnOffice}
use Rattle.office_founding.specs.Form.{has_old_tables, old_form, new_form}
use Rattle.office_founding.proofs.OldReads.{shown_has_old_tables, office_has_old_tables}
use Rattle.office_store.proofs.Calls.{never_unformed}
use Rattle.office_founding.proofs.Forms.{finds_form}
use Rattle.office_founding.proofs.Migrating.{only_asked, asked_then, one_number, old_again}
use Rattle.office_founding.proofs.migration.migrate.Goals as goal

pub returns-then-not-has_old_tables-clause-old : goal.returns-then-not-has_old_tables-clause-old
returns-then-not-has_old_tables-clause-old g c t shows clean =
    let has : c.has_old_tables.result ≡ true = c.has_old_tables.ensures ∙ ap has_old_tables c.schema.ensures.value ∙ shown_has_old_tables (state g.S.Store c.args.conn.now) (state g.S.Store c.args.conn.now) t shows c.requires.autocommit in
    absurd (let e = rw has at c.if-not-has_old_tables.true in cc)

pub returns-then-not-has_old_tables-clause-already : goal.returns-then-not-has_old_tables-clause-already
returns-then-not-has_old_tables-clause-already g c t shows clean =
    let has : c.has_old_tables.result ≡ true = c.has_old_tables.ensures ∙ ap has_old_tables (c.schema.ensures.value ∙ shows.office.schema) ∙ office_has_old_tables in
    absurd (let e = rw has at c.if-not-has_old_tables.true in cc)

pub returns-in-Err-clause-migration : goal.returns-in-Err-clause-migration
returns-in-Err-clause-migration g c =
    only_asked _ (state g.S.Store c.args.conn.now) (state g.S.Store c.office_number.new.conn) c.office_number.result _ c.office_number.ensures.read (g.met.S.Store.settled c.args.conn.now.store)

pub returns-in-Err-clause-already : goal.returns-in-Err-clause-already
returns-in-Err-clause-already g c t shows clean = (
  tt,
  (λ e. never_unformed (state g.S.Store c.args.conn.now) (state g.S.Store c.office_number.new.conn) c.office_number.result (c.office_number.ensures.read.cause t (λ _. shows) clean) (c.in-Err.is ∙ (let k : c.in-Err.fault ≡ NotAnOffice = cc in ap Err k))),
  c.office_number.ensures.read.shown t (λ _. shows) clean,
)

pub returns-in-Err-clause-cause : goal.returns-in-Err-clause-cause
returns-in-Err-clause-cause g c clean =
    let tables : has_old_tables (state g.S.Store c.args.conn.now).now.schema ≡ true = search rules in
    inr (inl (tables, c.in-Err.ensures.told clean))

pub returns-then-not-form-clause-already : goal.returns-then-not-form-clause-already
returns-then-not-form-clause-already g c t shows clean = (tt, (λ e. cc), c.office_number.ensures.read.shown t (λ _. shows) clean)

pub returns-then-not-form-clause-cause : goal.returns-then-not-form-clause-cause
returns-then-not-form-clause-cause g c clean =
    let tables : has_old_tables (state g.S.Store c.args.conn.now).now.schema ≡ true = search rules in
    let number : c.in-Ok.form.is_old ≡ false = search rules in (
      c.in-Ok.form.listed,
      finds_form (state g.S.Store c.args.conn.now) (state g.S.Store c.office_number.new.conn) c.in-Ok.form (new_form c.in-Ok.form.listed) tables c.in-Ok.ensures.caps (λ i. record { is_old = number i; listed = c.in-Ok.form.listed }) (c.in-Ok.ensures.told clean),
    )

pub returns-in-Ok-move_office-clause-migration : goal.returns-in-Ok-move_office-clause-migration
returns-in-Ok-move_office-clause-migration g c =
    asked_then (state g.S.Store c.args.conn.now) (state g.S.Store c.office_number.new.conn) (state g.S.Store c.move_office.new.conn) c.office_number.result c.in-Ok.form c.in-Ok.is c.office_number.ensures.read
    (g.met.S.Store.settled c.args.conn.now.store) (Ok c.in-Ok-move_office.field-0) _ (λ P p. p) (λ P p. tt) c.in-Ok-move_office.ensures.migration

pub returns-in-Ok-move_office-clause-was : goal.returns-in-Ok-move_office-clause-was
returns-in-Ok-move_office-clause-was g c clean =
    let tables : has_old_tables (state g.S.Store c.args.conn.now).now.schema ≡ true = search rules in
    let number : c.in-Ok.form.is_old ≡ true = search rules in
    let before = c.move_office.ensures.migration.clean clean in (
      c.office_number.new.conn,
      c.in-Ok.form.listed,
      finds_form (state g.S.Store c.args.conn.now) (state g.S.Store c.office_number.new.conn) c.in-Ok.form (old_form c.in-Ok.form.listed) tables c.in-Ok.ensures.caps (λ i. record { is_old = number i; listed = c.in-Ok.form.listed }) (c.in-Ok.ensures.told before),
    )

pub returns-in-Err-move_office-clause-migration : goal.returns-in-Err-move_office-clause-migration
returns-in-Err-move_office-clause-migration g c =
    asked_then (state g.S.Store c.args.conn.now) (state g.S.Store c.office_number.new.conn) (state g.S.Store c.move_office.new.conn) c.office_number.result c.in-Ok.form c.in-Ok.is c.office_number.ensures.read
    (g.met.S.Store.settled c.args.conn.now.store) (Err c.in-Err-move_office.fault) _ (λ P p. tt) (λ P p. p) c.in-Err-move_office.ensures.migration

pub returns-in-Err-move_office-clause-cause : goal.returns-in-Err-move_office-clause-cause
returns-in-Err-move_office-clause-cause g c clean =
    let tables : has_old_tables (state g.S.Store c.args.conn.now).now.schema ≡ true = search rules in
    let number : c.in-Ok.form.is_old ≡ true = search rules in
    let before = c.move_office.ensures.migration.clean clean in
    inr
    (inr (record {
      mid = c.office_number.new.conn;
      listed = c.in-Ok.form.listed;
      found = finds_form (state g.S.Store c.args.conn.now) (state g.S.Store c.office_number.new.conn) c.in-Ok.form (old_form c.in-Ok.form.listed) tables c.in-Ok.ensures.caps (λ i. record { is_old = number i; listed = c.in-Ok.form.listed }) (c.in-Ok.ensures.told before);
      counts = c.office_number.ensures.read.leaves.survives.counts;
      met = c.in-Err-move_office.ensures.cause clean;
    }))

pub returns-in-Err-clause-old : goal.returns-in-Err-clause-old
returns-in-Err-clause-old g c t shows clean = ((λ e. cc), (λ e. (c.in-Err.ensures.old t (λ _. shows) clean).1 (let k : c.in-Err.fault ≡ NotAnOffice = cc in ap Err k)))

pub returns-then-not-form-clause-old : goal.returns-then-not-form-clause-old
returns-then-not-form-clause-old g c t shows clean =
    let number : c.in-Ok.form.is_old ≡ false = search rules in
    one_number c.in-Ok.form t.listed true false (c.in-Ok.ensures.old t (λ _. shows) clean).0 number true≢false

pub returns-in-Ok-move_office-clause-already : goal.returns-in-Ok-move_office-clause-already
returns-in-Ok-move_office-clause-already g c t shows clean =
    let number : c.in-Ok.form.is_old ≡ true = search rules in
    one_number c.in-Ok.form t.listed false true (c.in-Ok.ensures.read.found t (λ _. shows) (c.move_office.ensures.migration.clean clean)) number (λ e. true≢false (sym e))

pub returns-in-Err-move_office-clause-old : goal.returns-in-Err-move_office-clause-old
returns-in-Err-move_office-clause-old g c t shows clean = (
  (λ e. cc),
  (λ e.
      let same = c.office_number.ensures.read.same shows.settled (c.move_office.ensures.migration.clean clean) in
      let mid = old_again (state g.S.Store c.args.conn.now) (state g.S.Store c.office_number.new.conn) t shows same in
      c.in-Err-move_office.ensures.formed t mid clean (let k : c.in-Err-move_office.fault ≡ NotAnOffice = cc in ap Err k)),
)

pub returns-in-Err-move_office-clause-already : goal.returns-in-Err-move_office-clause-already
returns-in-Err-move_office-clause-already g c t shows clean =
    let number : c.in-Ok.form.is_old ≡ true = search rules in
    one_number c.in-Ok.form t.listed false true (c.in-Ok.ensures.read.found t (λ _. shows) (c.move_office.ensures.migration.clean clean)) number (λ e. true≢false (sym e))

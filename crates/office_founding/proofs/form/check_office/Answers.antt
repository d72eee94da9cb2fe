use Rattle.std.proofs.Common.{rules, ◌≡◌, true, refl, ap, ◌∙◌}
use Rattle.sqlite.specs.Held.{state}
use Rattle.office_founding.specs.Form.{has_old_tables, added_by, opening_of}
use Rattle.office_founding.proofs.Forms.{office_is_whole, opened_form, opened_old, opened_read}
use Rattle.office_founding.proofs.OldReads.{shown_has_old_tables}
use Rattle.office_founding.proofs.form.check_office.Goals as goal

pub returns-then-not-has_old_tables-clause-read : goal.returns-then-not-has_old_tables-clause-read
returns-then-not-has_old_tables-clause-read g c tables =
    let has : c.has_old_tables.result ≡ true = c.has_old_tables.ensures ∙ ap has_old_tables c.schema.ensures.value ∙ tables in
    absurd (let e = rw has at c.if-not-has_old_tables.true in cc)

pub returns-then-not-has_old_tables-clause-told : goal.returns-then-not-has_old_tables-clause-told
returns-then-not-has_old_tables-clause-told g c tables clean =
    let has : c.has_old_tables.result ≡ true = c.has_old_tables.ensures ∙ ap has_old_tables c.schema.ensures.value ∙ tables in
    absurd (let e = rw has at c.if-not-has_old_tables.true in cc)

pub returns-then-not-has_old_tables-clause-old : goal.returns-then-not-has_old_tables-clause-old
returns-then-not-has_old_tables-clause-old g c t shows clean =
    let has : c.has_old_tables.result ≡ true = c.has_old_tables.ensures ∙ ap has_old_tables c.schema.ensures.value ∙ shown_has_old_tables (state g.S.Store c.args.conn.now) (state g.S.Store c.args.conn.now) t shows c.requires.autocommit in
    absurd (let e = rw has at c.if-not-has_old_tables.true in cc)

pub returns-then-not-has_old_tables-clause-foreign : goal.returns-then-not-has_old_tables-clause-foreign
returns-then-not-has_old_tables-clause-foreign g c _ = (refl, refl)

pub returns-clause-read : goal.returns-clause-read
returns-clause-read g c tables =
    opened_read (state g.S.Store c.args.conn.now) (state g.S.Store c.office_number.new.conn) c.check_added-added.result c.office_number.result c.opened.result c.opened.ensures c.office_number.ensures.read
    (λ t shows. c.check_added-added.ensures ∙ ap added_by (c.schema-2.ensures.value ∙ shows.office.schema) ∙ office_is_whole)

pub returns-clause-form : goal.returns-clause-form
returns-clause-form g c clean =
    let tables : has_old_tables (state g.S.Store c.args.conn.now).now.schema ≡ true = search rules in
    let is = c.opened.ensures ∙ ap (λ added. opening_of added c.office_number.result) (c.check_added-added.ensures ∙ ap added_by c.schema-2.ensures.value) in
    opened_form (state g.S.Store c.args.conn.now) (state g.S.Store c.office_number.new.conn) tables c.office_number.result c.opened.result is (c.office_number.ensures.told clean) c.office_number.ensures.caps

pub returns-clause-old : goal.returns-clause-old
returns-clause-old g c t shows clean =
    opened_old (state g.S.Store c.args.conn.now) (state g.S.Store c.office_number.new.conn) c.check_added-added.result c.office_number.result c.opened.result c.opened.ensures t.listed
    (c.office_number.ensures.old t (λ _. shows) clean)

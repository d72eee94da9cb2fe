use Rattle.sqlite.specs.Held.{state}
use Rattle.office_founding.specs.Form.{numbered_row, HasCaps, new_form}
use Rattle.office_store.proofs.Told.{only_read}
use Rattle.office_founding.proofs.Forms.{same_new, old_told}
use Rattle.office_founding.proofs.form.office_number.Goals as goal

pub returns-clause-read : goal.returns-clause-read
returns-clause-read g c =
    only_read numbered_row HasCaps (state g.S.Store c.args.conn.now) (state g.S.Store c.office_form.new.conn) _ _ c.office_form.result c.number_of.result c.office_form.ensures.read c.number_of.ensures.told
    (λ t shows none. none)
    (λ t shows w is. (new_form t.listed, shows.office.listed, is, λ form same. same_new t.listed form w is same))

pub returns-clause-old : goal.returns-clause-old
returns-clause-old g c t shows clean =
    old_told (state g.S.Store c.args.conn.now) (state g.S.Store c.office_form.new.conn) c.office_form.result c.number_of.result c.office_form.ensures.read c.number_of.ensures.told c.office_form.ensures.row c.requires.autocommit
    t shows clean

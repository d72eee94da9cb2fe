use Rattle.sqlite.specs.Held.{state}
use Rattle.office_founding.specs.Form.{listed_row, AreCaps}
use Rattle.office_founding.proofs.OfficeReads.{same_listed}
use Rattle.office_store.proofs.Told.{only_read}
use Rattle.office_founding.proofs.office.listed.Goals as goal

pub returns-clause-read : goal.returns-clause-read
returns-clause-read g c =
    only_read listed_row AreCaps (state g.S.Store c.args.conn.now) (state g.S.Store c.office_row.new.conn) _ _ c.office_row.result c.listed_of.result c.office_row.ensures.read c.listed_of.ensures
    (λ t shows none. none)
    (λ t shows w is. (t.listed, shows.office.listed, is, λ y same. same_listed t.listed y w is same))

pub returns-clause-told : goal.returns-clause-told
returns-clause-told g c clean = record { row = c.office_row.result; found = c.office_row.ensures.row clean; told = c.listed_of.ensures }

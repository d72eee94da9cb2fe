use Rattle.std.proofs.Common.{refl}
use Rattle.sqlite.specs.Held.{state}
use Rattle.office_founding.specs.declared.office.TheConstants.{LISTED}
use Rattle.office_store.proofs.Calls.{first_read}
use Rattle.office_founding.proofs.Queries.{listed}
use Rattle.office_founding.proofs.Sure as sure
use Rattle.office_founding.proofs.OfficeReads.{reads_listed}
use Rattle.office_founding.proofs.office.office_row.Goals as goal

pub returns-clause-read : goal.returns-clause-read
returns-clause-read g c =
    first_read LISTED.now listed _ _ (state g.S.Store c.args.conn.now) (state g.S.Store c.first_row.new.conn) c.first_row.result _ c.requires c.first_row.ensures.mode
    (g.met.S.Store.settled c.first_row.new.conn.store) c.first_row.ensures.survives c.first_row.ensures.row refl sure.listed
    (λ t shows h. reads_listed (state g.S.Store c.args.conn.now) (state g.S.Store c.first_row.new.conn) t shows c.requires.autocommit c.first_row.result h)

use Rattle.std.proofs.Common.{refl}
use Rattle.sqlite.specs.Held.{state}
use Rattle.office_rows.specs.Told.{map_ok}
use Rattle.office_store.proofs.ToldLists.{rows_found}
use Rattle.office_store.proofs.finding.find_all.Goals as goal

pub returns-clause-told : goal.returns-clause-told
returns-clause-told g c clean = record {
  rows = map_ok c.all_rows.result (λ rows. rows.items);
  found = rows_found (λ rows. rows.items) _ _ _ (state g.S.Store c.args.conn.now) (state g.S.Store c.all_rows.new.conn) c.all_rows.result (c.all_rows.ensures.rows clean) (c.all_rows.ensures.fault clean) refl;
  told = c.read_all.ensures;
}

use Rattle.office_store.proofs.Refusals.{refused_place}
use Rattle.office_store.proofs.refusing.what_is_refused_has_no_place.Goals as goal

pub returns : goal.returns
returns g c = refused_place g.S.Store c.args.conn.now

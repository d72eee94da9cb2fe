use Rattle.sqlite.specs.Held.{state}
use Rattle.office_store.specs.declared.baselines.TheConstants.{BASELINE_OF}
use Rattle.office_store.proofs.Texts as texts
use Rattle.office_store.specs.Adopted.{row_of_adopted, IsAdopted}
use Rattle.office_store.proofs.OtherReads.{reads_baseline, same_adopted}
use Rattle.office_store.proofs.Told.{value_read}
use Rattle.office_store.proofs.baselines.baseline.Goals as goal

pub returns-clause-read : goal.returns-clause-read
returns-clause-read g c =
    let old = state g.S.Store c.args.conn.now in
    let new = state g.S.Store c.find.new.conn in
    value_read BASELINE_OF.now _ _ (texts.baseline_of c.args.team.now) old new c.requires c.find.ensures.mode (g.met.S.Store.settled c.find.new.conn.store) c.find.ensures.survives c.of_word.ensures.row
    row_of_adopted IsAdopted same_adopted _ _ c.find.ensures.told (λ t shows. reads_baseline old new t shows c.args.team.now)

pub returns-clause-told : goal.returns-clause-told
returns-clause-told g c clean = rw c.of_word.ensures.row at (c.find.ensures.told clean)

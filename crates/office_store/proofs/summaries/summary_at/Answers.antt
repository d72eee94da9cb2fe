use Rattle.sqlite.specs.Held.{state}
use Rattle.office_store.specs.declared.summaries.TheConstants.{STATE_AND_DIGEST}
use Rattle.office_store.proofs.Texts as texts
use Rattle.office_store.specs.Summaries.{summary_row, IsSummary}
use Rattle.office_store.proofs.RevisionReads.{reads_summary, same_summary}
use Rattle.office_store.proofs.Told.{value_read}
use Rattle.office_store.proofs.summaries.summary_at.Goals as goal

pub returns-clause-read : goal.returns-clause-read
returns-clause-read g c =
    let old = state g.S.Store c.args.conn.now in
    let new = state g.S.Store c.find.new.conn in
    value_read STATE_AND_DIGEST.now _ _ (texts.summary_at c.args.profile.now c.args.number) old new c.requires c.find.ensures.mode (g.met.S.Store.settled c.find.new.conn.store) c.find.ensures.survives c.of_number.ensures.row
    summary_row IsSummary same_summary _ _ c.find.ensures.told (λ t shows. reads_summary old new t shows c.args.profile.now c.args.number)

pub returns-clause-told : goal.returns-clause-told
returns-clause-told g c clean = rw c.of_number.ensures.row at (c.find.ensures.told clean)

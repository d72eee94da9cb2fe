use Rattle.sqlite.specs.Held.{state}
use Rattle.office_store.specs.declared.standing_votes.TheConstants.{VOTES_ON}
use Rattle.office_store.proofs.Calls.{rows_read}
use Rattle.office_store.proofs.ToldLists.{rows_found}
use Rattle.office_store.proofs.Texts as texts
use Rattle.office_store.proofs.VoteReads.{reads_votes}
use Rattle.office_store.proofs.standing_votes.vote_rows.Goals as goal

pub returns-clause-read : goal.returns-clause-read
returns-clause-read g c =
    rows_read (λ rows. rows.items) VOTES_ON.now _ _ (texts.votes_on c.args.profile.now c.args.number) (state g.S.Store c.args.conn.now) (state g.S.Store c.all_rows.new.conn) c.all_rows.result _ c.requires c.all_rows.ensures.mode
    (g.met.S.Store.settled c.all_rows.new.conn.store) c.all_rows.ensures.survives c.all_rows.ensures.rows c.all_rows.ensures.fault c.of_number.ensures.row
    (λ t shows. reads_votes (state g.S.Store c.args.conn.now) (state g.S.Store c.all_rows.new.conn) t shows (λ rows. rows.items) c.args.profile.now c.args.number c.all_rows.result)

pub returns-clause-rows : goal.returns-clause-rows
returns-clause-rows g c clean = rows_found (λ rows. rows.items) VOTES_ON.now _ _ (state g.S.Store c.args.conn.now) (state g.S.Store c.all_rows.new.conn) c.all_rows.result (c.all_rows.ensures.rows clean) (c.all_rows.ensures.fault clean) c.of_number.ensures.row

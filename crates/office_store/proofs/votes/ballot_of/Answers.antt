use Rattle.sqlite.specs.Held.{state}
use Rattle.office_store.specs.declared.votes.TheConstants.{VOTE_AT}
use Rattle.office_store.proofs.Texts as texts
use Rattle.office_store.specs.Ballots.{row_of_ballot, IsBallot}
use Rattle.office_store.proofs.BallotReads.{reads_vote, same_ballot}
use Rattle.office_store.proofs.Told.{value_read}
use Rattle.office_store.proofs.votes.ballot_of.Goals as goal

pub returns-clause-read : goal.returns-clause-read
returns-clause-read g c =
    let old = state g.S.Store c.args.conn.now in
    let new = state g.S.Store c.find.new.conn in
    value_read VOTE_AT.now _ _ (texts.vote_at c.args.profile.now c.args.number c.args.voter.now) old new c.requires c.find.ensures.mode (g.met.S.Store.settled c.find.new.conn.store) c.find.ensures.survives c.of_voter.ensures.row
    row_of_ballot IsBallot same_ballot _ _ c.find.ensures.told (λ t shows. reads_vote old new t shows c.args.profile.now c.args.number c.args.voter.now)

pub returns-clause-told : goal.returns-clause-told
returns-clause-told g c clean = rw c.of_voter.ensures.row at (c.find.ensures.told clean)

use Rattle.sqlite.specs.Held.{state}
use Rattle.office_store.proofs.Calls.{write_into}
use Rattle.office_words.specs.Changes.{with_vote}
use Rattle.office_store.specs.Entries.{vote_entry}
use Rattle.office_store.specs.Writes.{putting_vote}
use Rattle.office_store.proofs.OtherWrites.{vote_steps}
use Rattle.office_store.proofs.votes.put_vote.Goals as goal

pub returns-clause-write : goal.returns-clause-write
returns-clause-write g c =
    let e = vote_entry c.args.profile.now c.args.number c.args.voter.now c.args.ballot.approves c.args.ballot.security in
    write_into g.S.Store (putting_vote e) (state g.S.Store c.args.conn.now) (state g.S.Store c.write_one.new.conn) _ (with_vote e.0.profile e.0.number e.0.voter e.1)
    (λ t. vote_steps g.S.Store e t c.of_vote.ensures.formed) (rw c.of_vote.ensures.row at c.write_one.ensures.write)

pub returns-clause-cause : goal.returns-clause-cause
returns-clause-cause g c clean = rw c.of_vote.ensures.row at (c.write_one.ensures.cause clean)

use Rattle.journal.specs.Told.{place}
use Rattle.journal_office.proofs.Refusals.{left_here}
use Rattle.journal_office.proofs.replay.next.Goals as goal

pub returns-in-Err-clause-next : goal.returns-in-Err-clause-next
returns-in-Err-clause-next g c = λ going.
    left_here (place g.R.Read.remaining c.args.events.now) (place g.R.Read.remaining c.next.new.self) c.in-Err.fault c.unread.result c.unread.ensures (c.in-Err.ensures.leaves going)

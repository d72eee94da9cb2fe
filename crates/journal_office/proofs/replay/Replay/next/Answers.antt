use Rattle.sealed_log.specs.declared.unreadable.Unreadable.TheVariants.{Read}
use Rattle.journal.specs.Told.{place}
use Rattle.journal.proofs.ToldFacts.{input_leaves}
use Rattle.journal_office.proofs.Refusals.{left_here}
use Rattle.journal_office.proofs.replay.Replay.next.Goals as goal

pub returns-then-self-clause-next : goal.returns-then-self-clause-next
returns-then-self-clause-next g c = λ going.
    let here = place g.R.Read.remaining c.args.self.now.events in
    left_here here here Read c.unread.result c.unread.ensures (input_leaves here)

use Rattle.std.proofs.Common.{subst}
use Rattle.office_policy.specs.Handled.{Survives}
use Rattle.office_policy.specs.Happened.{event_meant}
use Rattle.review_office.specs.Meant.{meaning_over}
use Rattle.review_office.specs.Replayed.{IsReplayed}
use Rattle.review_office.proofs.Replaying.{replayed_survives}
use Rattle.review_office.proofs.office.Office.replay.Goals as goal

pub returns-clause-survives : goal.returns-clause-survives
returns-clause-survives g c =
    subst (λ old. Survives (meaning_over g.S.Store) old c.replay.new.conn) c.self.view_is
    (replayed_survives g.S.Store c.self.inside.conn c.replay.new.conn (event_meant c.args.event.now) c.replay.result c.replay.ensures.replayed)

pub returns-clause-replayed : goal.returns-clause-replayed
returns-clause-replayed g c =
    subst (λ old. IsReplayed (meaning_over g.S.Store) old c.replay.new.conn (event_meant c.args.event.now) c.replay.result) c.self.view_is c.replay.ensures.replayed

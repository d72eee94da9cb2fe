use Rattle.std.proofs.Common.{ap, sym, subst}
use Rattle.std.specs.Prelude.{refl}
use Rattle.sqlite.specs.Held.{state}
use Rattle.office_store.proofs.Calls.{leaves_only}
use Rattle.office_policy.specs.Callers.{caller_of}
use Rattle.office_policy.specs.Happened.{event_meant}
use Rattle.office_policy.specs.History.{did}
use Rattle.review_office.specs.declared.replay.Unreplayed.TheVariants as causes
use Rattle.review_office.specs.Meant.{meaning_over}
use Rattle.review_office.specs.Replayed.{IsReplayed}
use Rattle.review_office.proofs.Replaying.{left_with, undone_at_once}
use Rattle.review_office.proofs.replay.replay.Goals as goal

pub returns-in-Founded-clause-replayed : goal.returns-in-Founded-clause-replayed
returns-in-Founded-clause-replayed g c =
    undone_at_once g.S.Store c.args.conn.now (leaves_only (state g.S.Store c.args.conn.now) (g.met.S.Store.settled c.args.conn.now.store)) (event_meant c.args.event.now) causes.Founding
    (ap (λ event. caller_of (event_meant event)) c.in-Founded.is)

pub returns-in_err-ask-in-Did-clause-replayed : goal.returns-in_err-ask-in-Did-clause-replayed
returns-in_err-ask-in-Did-clause-replayed g c =
    subst (λ event. IsReplayed (meaning_over g.S.Store) c.args.conn.now c.args.conn.now (event_meant event) c.from_residual.result) (sym c.in-Did.is)
    (left_with g.S.Store c.args.conn.now c.args.conn.now (did c.in-Did.caller c.in-Did.deed) c.from_residual.result c.in_err-ask-in-Did.field-0.0 c.from_residual.ensures.1
    (undone_at_once g.S.Store c.args.conn.now (leaves_only (state g.S.Store c.args.conn.now) (g.met.S.Store.settled c.args.conn.now.store)) (did c.in-Did.caller c.in-Did.deed) c.in_err-ask-in-Did.field-0.0 (c.in_err-ask-in-Did.ensures.none c.in-Did.caller)))

pub replay_deed-requires-clause-asks : goal.replay_deed-requires-clause-asks
replay_deed-requires-clause-asks g c = c.in_ok-ask-in-Did.ensures.ask c.in-Did.caller

use Rattle.std.proofs.Common.{◌≡◌, ◌∙◌, ap, arith, subst, sym}
use Rattle.journal_office.proofs.visitor.visit.Goals as goal

pub events-init : goal.events-init
events-init g c = record { fault = c.requires.fault; at = c.requires.begun }

pub returns-in-Err : goal.returns-in-Err
returns-in-Err g c = c.in-Err.ensures.ends c.args.visitor.now c.args.replay.now c.events.invariant.at

pub returns-in-Some : goal.returns-in-Some
returns-in-Some g c =
    c.in-Some.ensures.seen c.args.visitor.now c.args.replay.now c.events.replay
    (subst (λ v. g.V.Visitor.is_at c.args.visitor.now c.args.replay.now v c.events.replay) (sym c.in-Ok.ensures.visitor) c.events.invariant.at)
    c.in-Ok.ensures.taken

pub events-preserved : goal.events-preserved
events-preserved g c = record {
  fault = ap (λ e. e.fault) c.in-None.ensures.events ∙ c.in-Ok.ensures.taken.fault;
  at = c.in-None.ensures.seen c.args.visitor.now c.args.replay.now c.events.replay
      (subst (λ v. g.V.Visitor.is_at c.args.visitor.now c.args.replay.now v c.events.replay) (sym c.in-Ok.ensures.visitor) c.events.invariant.at)
      c.in-Ok.ensures.taken;
}

pub events-smaller : goal.events-smaller
events-smaller g c =
    let taken = c.in-Ok.ensures.taken in
    let count : c.see.new.replay.count ≡ c.next_or_end.new.replay.count = c.in-None.ensures.count in
    omega (arith, taken.counted, taken.few, count)
